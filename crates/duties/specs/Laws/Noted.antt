-- Words made of the relations, one by one. Assumes nothing.
use Rattle.std.specs.Prelude.{◌≡◌, refl, Bool, false, ◌&&◌, cond, List, ℕ, ◌<◌, ◌+◌, eqb, set, replicate}
use Rattle.std.proofs.Common.{◌∙◌, sym, arith, get_or-set_same, get_or-set_other}
use Rattle.std.proofs.Math.Path.{ap}
use Rattle.std.proofs.Math.Bool.{true}
use Rattle.std.proofs.Math.Logic.{⊎_elim}
use Rattle.std.proofs.Math.Decide.{ℕ_discrete}
use Rattle.std.proofs.Math.ListN.{length-set}
use Rattle.std.proofs.lemmas.List.{get_or-replicate}
use borrow.Author.Tests.{eq-eqb, ne_eqb}
use Rattle.rules.specs.declared.Relation.{Relation}
use Rattle.rules.specs.declared.Table.{Table}
use Rattle.rules.specs.Counting.{some}
use Rattle.rules.specs.EventSet.{has, with_event}
use Rattle.rules.specs.Holds.{is_response, relation_of}
use Rattle.rules.specs.Effect.{leads}
use Rattle.rules.specs.Closure.{followed}
use Rattle.rules.proofs.Laws.Tests.{decide, and_false}
use Rattle.rules.proofs.Laws.Counting.{some_none}
use Rattle.rules.proofs.Laws.EventSet.{has_zero}
use Rattle.acts.specs.Laws.Derived.{has_taken, has_passed}
use Rattle.duties.specs.Inhibition.{word_of, Followed, Answers, words_noted, answers_noted}

module _ (t : Table) where
  -- of no relation
  pub followed_none : Followed t 0 (replicate 64 0)
  followed_none = record {
    size = refl;
    word = λ e b x. ap (λ (w : ℕ). has w x) (get_or-replicate 64 e 0 0 b) ∙ has_zero x ∙ sym (some_none _);
  }

  pub answers_none : Answers t 0 0
  answers_none x = has_zero x ∙ sym (some_none _)

  -- of one relation more
  module _ (i : ℕ) where
    abbrev k : Relation
    k = relation_of t i

    -- a relation that is followed from e to x
    abbrev leading : ℕ → ℕ → ℕ → Bool
    leading e x j = followed (relation_of t j) && leads (relation_of t j) e x

    pub followed_more : (words : List ℕ) → (relation_of t i).left < 64 → Followed t i words → Followed t (i + 1) (words_noted words (relation_of t i))
    unfolding words_noted
    followed_more words small old = ⊎_elim noted passed (decide (followed k))
      where
        noted : followed k ≡ true → Followed t (i + 1) (cond (followed k) (set words k.left (with_event (word_of words k.left) k.right)) words)
        noted h = rw h (record {
          size = length-set words k.left _ ∙ old.size;
          word = λ e b x. at e b x (ℕ_discrete k.left e);
        })
          where
            at : (e : ℕ) → e < 64 → (x : ℕ) → Dec (k.left ≡ e)
                → has (word_of (set words k.left (with_event (word_of words k.left) k.right)) e) x ≡ some (i + 1) (leading e x)
            at e b x (yes p) =
                rw (← p)
                (ap (λ (w : ℕ). has w x) (get_or-set_same words k.left _ 0 (omega (arith, small, old.size)))
                ∙ has_taken (leading k.left x) i k.right (word_of words k.left) x (old.word k.left small x)
                (rw (h, eq-eqb k.left k.left refl)))
            at e b x (no n) =
                ap (λ (w : ℕ). has w x) (get_or-set_other words k.left e _ 0 (λ q. n (sym q)))
                ∙ has_passed (leading e x) i (word_of words e) x (old.word e b x) (rw (ne_eqb k.left e n) (and_false (followed k)))

        passed : followed k ≡ false → Followed t (i + 1) (cond (followed k) (set words k.left (with_event (word_of words k.left) k.right)) words)
        passed h = rw h (record {
          size = old.size;
          word = λ e b x. has_passed (leading e x) i (word_of words e) x (old.word e b x) (rw h);
        })

    pub answers_more : (w : ℕ) → Answers t i w → Answers t (i + 1) (answers_noted w (relation_of t i))
    answers_more w old x = ⊎_elim noted passed (decide (is_response k && k.bounded))
      where
        answering : ℕ → Bool
        answering j = (is_response (relation_of t j) && (relation_of t j).bounded) && eqb (relation_of t j).right x

        noted : (is_response k && k.bounded) ≡ true → has (answers_noted w k) x ≡ some (i + 1) answering
        noted h = rw h (has_taken answering i k.right w x (old x) (rw h))

        passed : (is_response k && k.bounded) ≡ false → has (answers_noted w k) x ≡ some (i + 1) answering
        passed h = rw h (has_passed answering i w x (old x) (rw h))
