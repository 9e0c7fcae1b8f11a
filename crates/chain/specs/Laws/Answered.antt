-- What the call answers, and what the list then holds, by how it ended. Assumes nothing.
use Rattle.std.specs.Prelude.{◌≡◌, List, ◌++◌, Err, ℕ, ◌<◌, ◌≤◌, length, drop}
use Rattle.std.proofs.Math.Path.{refl}
use Rattle.std.proofs.Common.{sym, ◌∙◌, lt-ltb, le-ltb}
use borrow.Author.Tests.{ne_eqb}
use Rattle.rules.specs.declared.Table.{Table}
use Rattle.rules.specs.declared.Marking.{Marking}
use Rattle.rules.specs.declared.refusal.Refusal.{Refusal}
use Rattle.rules.specs.declared.refusal.Refusal.TheVariants.{Room}
use Rattle.rules.specs.Holds.{most_relations}
use Rattle.rules.specs.Judge.{judged, event_number}
use Rattle.rules.specs.Chain.{chain, chain_number, chain_answer, chain_list, places_of}
use Rattle.rules.specs.Results.{refusal_number, as_chain}
use Rattle.rules.proofs.Laws.Numbers.{else_refused}
use Rattle.rules.proofs.Laws.Results.{refused_number}

module _ (t : Table) (m : Marking) (event : ℕ) (list : List ℕ) where
  -- a refusal with the number defined leaves the list
  abbrev pub Refused : Refusal → Type 0
  Refused refusal = (as_chain (Err refusal) ≡ chain_answer t m event (length list)) × (list ≡ chain_list t m event list)

  refused : (refusal : Refusal) → chain_number t m event (length list) ≡ refusal_number refusal → Refused refusal
  unfolding chain_answer chain_list
  refused refusal is = rw (is, ne_eqb _ 0 (refused_number refusal)) (refl, refl)

  pub unjudged : (refusal : Refusal) → refusal_number refusal ≡ judged t m → Refused refusal
  unfolding chain_number
  unjudged refusal is = refused refusal (else_refused {a = judged t m} _ (λ z. refused_number refusal (is ∙ z)) ∙ sym is)

  module _ (judged_done : judged t m ≡ 0) where
    pub no_event : (refusal : Refusal) → refusal_number refusal ≡ event_number t event → Refused refusal
    unfolding chain_number
    no_event refusal is =
        refused refusal (rw judged_done (else_refused {a = event_number t event} _ (λ z. refused_number refusal (is ∙ z)) ∙ sym is))

    module _ (exists : event_number t event ≡ 0) where
      pub no_room : length list < most_relations → Refused Room
      unfolding chain_number
      no_room short = refused Room (rw (judged_done, exists, lt-ltb _ _ short) refl)

      pub granted : most_relations ≤ length list
          → (record { number = 0; count = length (chain t m event) } ≡ chain_answer t m event (length list))
          × (places_of (chain t m event) ++ drop (length (chain t m event)) list ≡ chain_list t m event list)
      unfolding chain_number chain_answer chain_list
      granted room = rw (judged_done, exists, le-ltb _ _ room) (refl, refl)
