-- Ticks that pass over words, one run or one guarded tick more; and what is noted in the list. Assumes nothing.
use Rattle.std.specs.Prelude.{◌≡◌, get_or, take, drop}
use Rattle.std.proofs.Math.Path.{refl, sym, ap, ap₂, subst}
use Rattle.std.proofs.Common.{◌∙◌, arith, add-one, add-zero, zero-add, length-append}
use mathlib.Core.List.{List, [], ◌∷◌, ◌++◌, map, append-nil, map-append}
use Prim.Native.Nat.{ℕ, zero, suc, ◌+◌, ◌<◌, ◌≤◌}
use Rattle.std.proofs.Math.ListN.{length, set}
use Rattle.std.proofs.lemmas.List.{length-map, take_more}
use Rattle.std.proofs.lemmas.List.Edits.{sets as storesFrom}
use Rattle.std.proofs.Math.Seq.{length-sets, set_out, take-append_seam}
use Rattle.rules.specs.declared.Table.{Table}
use Rattle.rules.specs.declared.Record.{Record}
use Rattle.rules.specs.declared.Marking.{Marking}
use Rattle.rules.specs.Counting.{repeated, places_from, places}
use Rattle.rules.specs.Judge.{judged}
use Rattle.rules.specs.Time.{any_due, time}
use Rattle.rules.specs.Guard.{caused, guarded}
use Rattle.rules.specs.Sleep.{slept, Entry, entry, slept_caused, place_of, places_of, moved}
use Rattle.rules.specs.Quiet.{quiet_ticks}
use Rattle.rules.specs.Shapes.Good.{GoodTable, GoodMarking}
use Rattle.rules.proofs.Laws.Counting.{lowest_before, length_places, places_more}
use Rattle.rules.proofs.Laws.Sleep.{slept_adds, caused_adds, quiet_run}
use Rattle.acts.specs.declared.marking_words.MarkingWords.{MarkingWords}
use Rattle.acts.specs.Stands.{Stands}
use Rattle.acts.specs.Words.{StandFor}
use Rattle.acts.specs.Laws.Judging.{unused, laid_out}
use Rattle.acts.specs.Laws.Stands.{stands_events}
use Rattle.acts.specs.Laws.Quiet.{ticks_stand}
use Rattle.duties.specs.AtStart.{AtStart}
use Rattle.duties.specs.Laws.Step.{stands_of}
use Rattle.sleep.specs.Passing.{put, noted, noted_first, PassingAt, Passing}

-- some values, and then others behind them
pub put_append : (at : ℕ) (a b list : List ℕ) → put at (a ++ b) list ≡ put (at + length a) b (put at a list)
unfolding put
put_append at [] b list = ap (λ (k : ℕ). storesFrom list k b) (sym (add-zero at))
put_append at (x ∷ a) b list =
    let e : suc at + length a ≡ at + suc (length a) = omega arith in
    put_append (suc at) a b (set list at x) ∙ ap (λ (k : ℕ). storesFrom (storesFrom (set list at x) (suc at) a) k b) e

pub put_length : (at : ℕ) (values list : List ℕ) → length (put at values list) ≡ length list
unfolding put
put_length at values list = length-sets list at values

module _ (tick : ℕ) (caused : List ℕ) (at : ℕ) (list : List ℕ) where
  -- nothing is noted yet
  pub noted_none : list ≡ put at (noted tick (take 0 caused)) list
  unfolding put
  noted_none = refl

  -- one event more, where the list has a place, and where it has none
  pub noted_more : (i : ℕ) {now : List ℕ} {value : ℕ} → now ≡ put at (noted_first tick caused i) list
      → value ≡ place_of (entry tick (get_or caused i 0)) → set now (at + i) value ≡ put at (noted_first tick caused (i + 1)) list
  unfolding put
  noted_more i {now} {value} is told =
      let f : ℕ → ℕ = λ j. place_of (entry tick (get_or caused j 0)) in
      ap₂ (λ (l : List ℕ) (v : ℕ). set l (at + i) v) is told
      ∙ ap (λ (k : ℕ). set (storesFrom list at (places i f)) (at + k) (f i)) (sym (length_places f i))
      ∙ sym (put_append at (places i f) (f i ∷ []) list)
      ∙ ap (storesFrom list at) (sym (places_more f i))

  pub noted_past : (i : ℕ) {now : List ℕ} → now ≡ put at (noted_first tick caused i) list → length now ≤ at + i
      → now ≡ put at (noted_first tick caused (i + 1)) list
  noted_past i {now} is past = sym (set_out now (at + i) (place_of (entry tick (get_or caused i 0))) past) ∙ noted_more i is refl

  -- .. of events that are there: they are the first of the list
  taken_first : (i : ℕ) → i ≤ length caused → noted_first tick caused i ≡ noted tick (take i caused)
  unfolding places_from
  taken_first zero b = refl
  taken_first (suc i) b =
      let f : ℕ → ℕ = λ j. place_of (entry tick (get_or caused j 0)) in
      let there : i < length caused = omega (arith, b) in
      let one : take (suc i) caused ≡ take i caused ++ (get_or caused i 0 ∷ []) = rw (sym (add-one i)) (take_more caused i 0 there) in
      ap (λ (k : ℕ). places k f) (sym (add-one i))
      ∙ places_more f i
      ∙ ap (λ (l : List ℕ). l ++ (f i ∷ [])) (taken_first i (omega (arith, b)))
      ∙ sym (ap (noted tick) one
      ∙ ap places_of (map-append (entry tick) (take i caused) (get_or caused i 0 ∷ []))
      ∙ map-append place_of (map (entry tick) (take i caused)) (entry tick (get_or caused i 0) ∷ []))

  taken_told : (i : ℕ) → i ≤ length caused → put at (noted_first tick caused i) list ≡ put at (noted tick (take i caused)) list
  taken_told i b = ap (λ (l : List ℕ). put at l list) (taken_first i b)

  pub taken_more : (i : ℕ) {now : List ℕ} {value : ℕ} → i < length caused → now ≡ put at (noted tick (take i caused)) list
      → value ≡ place_of (entry tick (get_or caused i 0)) → set now (at + i) value ≡ put at (noted tick (take (i + 1) caused)) list
  taken_more i b is told = noted_more i (is ∙ sym (taken_told i (omega (arith, b)))) told ∙ taken_told (i + 1) (omega (arith, b))

  pub taken_past : (i : ℕ) {now : List ℕ} → i < length caused → now ≡ put at (noted tick (take i caused)) list → length now ≤ at + i
      → now ≡ put at (noted tick (take (i + 1) caused)) list
  taken_past i b is past = noted_past i (is ∙ sym (taken_told i (omega (arith, b)))) past ∙ taken_told (i + 1) (omega (arith, b))

-- at the start nothing is slept through
pub passing_start : {t : Table} {tail : List Record} {m : Marking} {sets columns : List ℕ} (before : List ℕ) → Stands t.events tail 0 sets columns m
    → PassingAt t tail m before 0 sets columns 0 before
unfolding slept repeated slept_caused put
passing_start before stands = record { stands = stands; counted = refl; listed = refl }

-- a judged marking that is laid out as words
module _ (t : Table) (m : Marking) (d : judged t m ≡ 0) (words : MarkingWords) (start : words.clock ≡ 0)
    (laid : GoodMarking m.events m → StandFor m.events (unused m) words m) where
  stands_start : Stands t.events (unused m) 0 words.sets words.columns m
  stands_start = laid_out t m d (λ g. subst (λ (k : ℕ). Stands m.events (unused m) k words.sets words.columns m) start (laid g))

  pub stands_laid : StandFor t.events (unused m) words m
  stands_laid = subst (λ (k : ℕ). Stands t.events (unused m) k words.sets words.columns m) (sym start) stands_start

  pub passing_laid : (before : List ℕ) → Passing t (unused m) m before words 0 before
  passing_laid before =
      subst (λ (k : ℕ). PassingAt t (unused m) m before k words.sets words.columns 0 before) (sym start) (passing_start before stands_start)

-- words at tick 0 that stand for a marking
pub passing_begun : {t : Table} {tail : List Record} {m : Marking} (words : MarkingWords) (before : List ℕ) → words.clock ≡ 0
    → StandFor t.events tail words m → Passing t tail m before words 0 before
passing_begun {t} {tail} {m} words before start stand =
    subst (λ (k : ℕ). PassingAt t tail m before k words.sets words.columns 0 before) (sym start)
    (passing_start before (subst (λ (k : ℕ). Stands t.events tail k words.sets words.columns m) start stand))

module _ {t : Table} (good : GoodTable t) {tail : List Record} {m : Marking} {before : List ℕ} {clock : ℕ} {sets columns : List ℕ} {count : ℕ}
    {list : List ℕ} (now : PassingAt t tail m before clock sets columns count list) where
  abbrev here : Marking
  here = slept t m clock

  -- a run of ticks before which nothing is due
  pub passing_quiet : (most quiet : ℕ) → quiet ≡ quiet_ticks here most → PassingAt t tail m before (clock + quiet) sets columns count list
  unfolding quiet_ticks
  passing_quiet most quiet is = record {
    stands =
        subst (Stands t.events tail (clock + quiet) sets columns) (sym (slept_adds t m clock quiet ∙ run.0))
        (ticks_stand _ _ _ _ _ _ now.stands quiet);
    counted = now.counted ∙ ap (λ (l : List Entry). length l) (sym none);
    listed = now.listed ∙ ap (λ (l : List Entry). put 0 (places_of l) before) (sym none);
  }
    where
      run : (slept t here quiet ≡ repeated quiet time here) × (slept_caused t here quiet ≡ [])
      run =
          quiet_run t good here (stands_events _ _ _ _ _ _ now.stands) quiet
          (λ i b. lowest_before (λ i. any_due (repeated i time here)) most i (rw is at b))

      none : slept_caused t m (clock + quiet) ≡ slept_caused t m clock
      none =
          caused_adds t m clock quiet
          ∙ ap (λ (l : List Entry). slept_caused t m clock ++ moved clock l) run.1
          ∙ append-nil (slept_caused t m clock)

  -- .. as words tell it, whose head has the table's events
  pub passing_asleep : {n : ℕ} → n ≡ t.events → (most quiet : ℕ)
      → ((tail : List Record) (m : Marking) → Stands n tail clock sets columns m → quiet ≡ quiet_ticks m most)
      → PassingAt t tail m before (clock + quiet) sets columns count list
  passing_asleep same most quiet told = passing_quiet most quiet (told tail here (stands_of (sym same) now.stands))

  -- one guarded tick, of which the list is told by its own number
  module _ {tick : ℕ} (passed : tick ≡ clock + 1) {next-sets next-columns start caused-list next-list : List ℕ} {more : ℕ}
      (stood : Stands t.events tail tick next-sets next-columns (guarded t here)) (done : AtStart (caused t here) start more caused-list)
      {noted_at : ℕ} (told : next-list ≡ put count (noted noted_at (take more caused-list)) list) (here_at : noted_at ≡ tick) where
    one : tick ≡ suc clock
    one = omega (arith, passed)

    more_caused : slept_caused t m tick ≡ slept_caused t m clock ++ map (entry tick) (caused t here)
    unfolding slept_caused
    more_caused = ap (slept_caused t m) one ∙ ap (λ (k : ℕ). slept_caused t m clock ++ map (entry k) (caused t here)) (sym one)

    pub passing_tick : PassingAt t tail m before tick next-sets next-columns (count + more) next-list
    unfolding slept repeated
    passing_tick = record {
      stands = subst (Stands t.events tail tick next-sets next-columns) (sym (ap (slept t m) one)) stood;
      counted =
          ap₂ ◌+◌ now.counted (done.counted ∙ sym (length-map (caused t here) (entry tick)))
          ∙ sym (length-append (slept_caused t m clock) (map (entry tick) (caused t here)))
          ∙ ap (λ (l : List Entry). length l) (sym more_caused);
      listed =
          told
          ∙ ap (λ (k : ℕ). put count (noted k (take more caused-list)) list) here_at
          ∙ ap₂ (λ (k : ℕ) (l : List ℕ). put k (noted tick l) list) place taken
          ∙ ap (put (0 + length so_far) (noted tick (caused t here))) now.listed
          ∙ sym (put_append 0 so_far (noted tick (caused t here)) before)
          ∙ ap (λ (l : List ℕ). put 0 l before) (sym (map-append place_of (slept_caused t m clock) (map (entry tick) (caused t here))))
          ∙ ap (λ (l : List Entry). put 0 (places_of l) before) (sym more_caused);
    }
      where
        so_far : List ℕ
        so_far = places_of (slept_caused t m clock)

        place : count ≡ 0 + length so_far
        place = now.counted ∙ sym (length-map (slept_caused t m clock) place_of) ∙ sym (zero-add (length so_far))

        taken : take more caused-list ≡ caused t here
        taken = ap₂ (λ (n : ℕ) (l : List ℕ). take n l) done.counted done.put ∙ take-append_seam (caused t here) (drop (length (caused t here)) start)

-- told by the clock
pub passing_until : {t : Table} {tail : List Record} {m : Marking} {before : List ℕ} {clock ticks : ℕ} {sets columns : List ℕ} {count : ℕ}
    {list : List ℕ} → clock ≡ ticks → PassingAt t tail m before clock sets columns count list
    → PassingAt t tail m before ticks sets columns count list
passing_until {t = t} {tail} {m} {before} {sets = sets} {columns} {count} {list} same now =
    subst (λ (k : ℕ). PassingAt t tail m before k sets columns count list) same now
