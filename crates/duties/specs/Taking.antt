-- The taking of needed events, as a state that is carried on from event to event.
use Rattle.std.specs.Prelude.{◌≡◌, cond, ◌&&◌, List, [], ◌∷◌, ◌++◌, ℕ, ◌<◌, ◌+◌, ◌-◌, length, get_or, set, replicate}
use Rattle.rules.specs.declared.Table.{Table}
use Rattle.rules.specs.declared.Marking.{Marking}
use Rattle.rules.specs.Answers.{GuardedAnswer}
use Rattle.rules.specs.EventSet.{has}
use Rattle.rules.specs.Effect.{effect}
use Rattle.rules.specs.Guard.{goes_ahead}
use Rattle.duties.specs.Inhibition.{followed_in}

-- an answer with the events that were executed, places past them 0
abbrev pub answered : ℕ → ℕ → ℕ → List ℕ → Marking → GuardedAnswer
answered number reason place events m = record {
  number = number;
  reason = reason;
  place = place;
  caused = events ++ replicate (64 - length events) 0;
  count = length events;
  marking = m;
}

-- an answer that has caused nothing: a refusal, or the start
abbrev pub nothing : ℕ → ℕ → ℕ → Marking → GuardedAnswer
nothing number reason place m = record { number = number; reason = reason; place = place; caused = replicate 64 0; count = 0; marking = m }

-- an event is executed and noted if it goes ahead, else skipped
abbrev pub noted : Table → GuardedAnswer → ℕ → GuardedAnswer
noted t s e = record {
  number = s.number;
  reason = s.reason;
  place = s.place;
  caused = set s.caused s.count e;
  count = s.count + 1;
  marking = effect t s.marking e;
}

unfoldable pub taken_one : Table → GuardedAnswer → ℕ → GuardedAnswer
taken_one t s e = cond (goes_ahead t s.marking e) (noted t s e) s

unfoldable pub carried_on : Table → GuardedAnswer → List ℕ → GuardedAnswer
carried_on t s [] = s
carried_on t s (e ∷ rest) = carried_on t (taken_one t s e) rest

-- the state of a marking, a list of caused events and how many of it count
abbrev pub state_of : Marking → List ℕ → ℕ → GuardedAnswer
state_of m caused count = record { number = 0; reason = 0; place = 0; caused = caused; count = count; marking = m }

-- of each event of a set: which events of the set wait for it
abbrev pub Awaits : List ℕ → ℕ → List ℕ → Type 0
Awaits rows set waiting =
    (x : ℕ) → x < 64 → (e : ℕ) → has (get_or waiting x 0) e ≡ (has set e && has (followed_in rows set set e) x)
