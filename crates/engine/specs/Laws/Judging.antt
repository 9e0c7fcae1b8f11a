-- What a call knows of the words of a marking that it has judged. Assumes nothing.
use Rattle.std.specs.Prelude.{◌≡◌, ℕ}
use Rattle.std.proofs.Common.{sym, subst}
use Rattle.rules.specs.declared.Table.{Table}
use Rattle.rules.specs.declared.Marking.{Marking}
use Rattle.rules.specs.Judge.{judged}
use Rattle.rules.specs.Shapes.Good.{GoodMarking}
use Rattle.rules.proofs.Laws.Judge.{good}
use Rattle.acts.specs.declared.marking_words.MarkingWords.{MarkingWords}
use Rattle.acts.specs.Words.{StandFor}
use Rattle.acts.specs.Laws.Judging.{unused}

-- The words of a judged marking stand for it, and the marking that is given back is the one that they stand for then.
module _ (t : Table) (m : Marking) (d : judged t m ≡ 0) (words : MarkingWords) where
  pub stands_laid : (GoodMarking m.events m → StandFor m.events (unused m) words m) → StandFor t.events (unused m) words m
  stands_laid laid = let g = (good t m d).marking_good in subst (λ (n : ℕ). StandFor n (unused m) words m) g.same_events (laid (subst (λ (n : ℕ). GoodMarking n m) (sym g.same_events) g))

  pub stands_given : {r after : Marking} → ((k : Marking) → StandFor m.events (unused m) words k → r ≡ k) → StandFor t.events (unused m) words after → r ≡ after
  stands_given {r} {after} given held =
      given after (subst (λ (n : ℕ). StandFor n (unused m) words after) (sym (good t m d).marking_good.same_events) held)
