-- The relations passed are noted.
use Rattle.duties.specs.Inhibition.{Followed, Answers}
use Rattle.duties.proofs.following.Following.of.Given as goal

abbrev pub invariant-loop-k : goal.invariant-loop-k
invariant-loop-k l = Followed l.t l.k-index l.following.words × Answers l.t l.k-index l.following.answers
