-- Ticks that pass over words: what is known of the words and of the list after so many of them.
use Rattle.std.specs.Prelude.{◌≡◌, List, map, ℕ, length, get_or}
use Rattle.std.proofs.lemmas.List.Edits.{sets as storesFrom}
use Rattle.rules.specs.declared.Table.{Table}
use Rattle.rules.specs.declared.Record.{Record}
use Rattle.rules.specs.declared.Marking.{Marking}
use Rattle.rules.specs.Counting.{places}
use Rattle.rules.specs.Sleep.{slept, entry, slept_caused, place_of, places_of}
use Rattle.acts.specs.declared.marking_words.MarkingWords.{MarkingWords}
use Rattle.acts.specs.Stands.{Stands}

-- values stand in the list from `at` on, as far as it has places
unfoldable pub put : ℕ → List ℕ → List ℕ → List ℕ
put at values list = storesFrom list at values

-- the places of the caused events of a tick
abbrev pub noted : ℕ → List ℕ → List ℕ
noted tick events = places_of (map (entry tick) events)

-- the places of the first so many events of a list, told place by place: for one that is not there event 0 stands
abbrev pub noted_first : ℕ → List ℕ → ℕ → List ℕ
noted_first tick caused count = places count (λ i. place_of (entry tick (get_or caused i 0)))

-- so many ticks have passed from the marking m, at which the list was `before`, and so many events were caused
pub record PassingAt (t : Table) (tail : List Record) (m : Marking) (before : List ℕ) (clock : ℕ) (sets columns : List ℕ) (count : ℕ) (list : List ℕ)
    : Type 0 where
  pub stands : Stands t.events tail clock sets columns (slept t m clock)
  pub counted : count ≡ length (slept_caused t m clock)
  pub listed : list ≡ put 0 (places_of (slept_caused t m clock)) before

abbrev pub Passing : Table → List Record → Marking → List ℕ → MarkingWords → ℕ → List ℕ → Type 0
Passing t tail m before words count list = PassingAt t tail m before words.clock words.sets words.columns count list
