-- What is answered of images: a refused reading comes first and leaves everything; else the rule's own answer is told. Assumes nothing.
use Rattle.std.specs.Prelude.{◌≡◌, refl, List, [], ◌++◌, ℕ, zero, suc, length, Result, Ok, Err, IfOk, IsErr}
use Rattle.std.proofs.Common.{◌∙◌, sym, ap, subst, ne_eqb, arith}
use Rattle.rules.specs.declared.Table.{Table}
use Rattle.rules.specs.declared.Marking.{Marking}
use Rattle.rules.specs.Answers.{MarkingAnswer}
use Rattle.rules.specs.declared.refusal.Refusal.{Refusal}
use Rattle.rules.specs.Numbers.{◌else◌, done}
use Rattle.rules.specs.Results.{refusal_number, number_of, value_or, as_marking}
use Rattle.rules.specs.Judge.{judged}
use Rattle.rules.specs.Image.{marking_image}
use Rattle.rules.specs.Images.{table_of, marking_of, images_number, on, put_back}
use Rattle.rules.proofs.Laws.Numbers.{else_done, else_refused}
use Rattle.rules.proofs.Laws.Results.{refused_number}
use Rattle.rules.proofs.Laws.Written.{number_done}
use Rattle.duty.specs.Reading.{Refuses}
use Rattle.duty.specs.Performing.{Fills, written_number, written}
use Rattle.duty.specs.Laws.Images.{read_judged}
use Rattle.duty.specs.Laws.Kept.{fills, filled}

-- a refusal leaves what was there
pub left : {A : Type 0} (number : ℕ) (after before : A) → (number ≡ 0 → ⊥) → before ≡ done number after before
left number after before h = rw (ne_eqb number 0 h)

pub refused_result : {A : Type 0} (result : Result A Refusal) → IsErr result → number_of result ≡ 0 → ⊥
refused_result (Ok a) h z = cc
refused_result (Err r) h z = refused_number r z

-- numbers and a place for each, told where nothing refuses
pub placed : (answer : Result (List ℕ) Refusal) (says : List ℕ) → IfOk answer (λ l. l ≡ says) → (short : ℕ) {number : ℕ}
    → number ≡ (number_of answer else short) → (rest before : List ℕ)
    → done number (value_or [] answer ++ rest) before ≡ done number (says ++ rest) before
placed (Ok l) says h short {number} n rest before = ap {B = List ℕ} (λ x. done number (x ++ rest) before) h
placed (Err r) says h short {number} n rest before =
    let refused : number ≡ 0 → ⊥ = λ z. refused_number r (sym (else_refused short (refused_number r)) ∙ sym n ∙ z) in
    sym (left number rest before refused) ∙ left number (says ++ rest) before refused

module _ (table marking : List ℕ) where
  -- by how reading ends
  pub by_reading : {P : Type 0} → (images_number table marking ≡ 0 → P) → ((images_number table marking ≡ 0 → ⊥) → P) → P
  by_reading {P = P} read refused = go (images_number table marking) refl
    where
      go : (number : ℕ) → images_number table marking ≡ number → P
      go zero e = read e
      go (suc number) e = refused (λ z. omega (arith, e, z))

  -- a list that is lent with the images holds what the rule says, or is left
  pub listed : {number : ℕ} (own : ℕ) {said put before : List ℕ} → number ≡ (images_number table marking else own) → said ≡ done own said before
      → (images_number table marking ≡ 0 → put ≡ said) → ((images_number table marking ≡ 0 → ⊥) → put ≡ before) → put ≡ done number said before
  listed {number} own {said} {put} {before} n twice read unread =
      by_reading
      (λ z. read z ∙ twice ∙ ap (λ (k : ℕ). done k said before) (sym (n ∙ else_done own z)))
      (λ r. unread r ∙ left number said before (λ z. r (sym (else_refused own r) ∙ sym n ∙ z)))

  -- an acting call: the new marking fills the buffer and is put back, or every byte is left
  module _ (rule : Table → Marking → MarkingAnswer) (keeps : (t : Table) (m : Marking) → judged t m ≡ 0 → judged t (rule t m).marking ≡ 0)
      (answer : Result Marking Refusal)
      (unread : (images_number table marking ≡ 0 → ⊥) → Refuses (λ (r e : Refusal). e ≡ r) (images_number table marking) answer)
      (ruled : images_number table marking ≡ 0 → as_marking (marking_of table marking) answer ≡ on rule table marking)
      {number : ℕ} {put : List ℕ} (number_is : number ≡ written_number answer (length marking)) (put_is : put ≡ written answer marking) where
    abbrev Acted : Type 0
    Acted = (number ≡ (images_number table marking else (on rule table marking).number)) × (put ≡ put_back number (on rule table marking).marking marking)

    done_so : images_number table marking ≡ 0 → (a : Result Marking Refusal) → as_marking (marking_of table marking) a ≡ on rule table marking
        → number ≡ written_number a (length marking) → put ≡ written a marking → Acted
    done_so z (Ok m) e n p =
        let after : m ≡ (on rule table marking).marking = ap (λ (a : MarkingAnswer). a.marking) e in
        let whole : Fills m marking =
        fills table marking m z
        (subst (λ (k : Marking). judged (table_of table) k ≡ 0) (sym after) (keeps (table_of table) (marking_of table marking) (read_judged table marking z))) in
        let granted : number ≡ 0 = n ∙ number_done m (length marking) whole.judged_done (omega (arith, whole.exact)) in (
          granted ∙ ap (λ (a : MarkingAnswer). a.number) e ∙ sym (else_done _ z),
          p ∙ filled m marking whole ∙ rw granted (ap marking_image after),
        )
    done_so z (Err r) e n p = (
      n ∙ ap (λ (a : MarkingAnswer). a.number) e ∙ sym (else_done _ z),
      p ∙ left number _ marking (λ y. refused_number r (sym n ∙ y)),
    )

    refused_so : (images_number table marking ≡ 0 → ⊥) → (u : Refuses (λ (r e : Refusal). e ≡ r) (images_number table marking) answer) → Acted
    refused_so r u =
        let same : number ≡ images_number table marking =
        number_is ∙ ap (λ (a : Result Marking Refusal). written_number a (length marking)) u.is ∙ ap refusal_number u.made ∙ u.numbered in (
          same ∙ sym (else_refused _ r),
          put_is ∙ ap (λ (a : Result Marking Refusal). written a marking) u.is ∙ left number _ marking (λ z. r (sym same ∙ z)),
        )

    pub acted : Acted
    acted = by_reading (λ z. done_so z answer (ruled z) number_is put_is) (λ r. refused_so r (unread r))
