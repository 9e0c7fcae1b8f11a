-- An excluded event has no chain; of any other the visit over the words is the whole of it.
use mathlib.Core.Path.{refl, ap, ◌∙◌}
use Prim.Native.Nat.{◌≤◌}
use native.Mathlib.Omega.{arith}
use lib.ListN.{length}
use Rattle.rules.specs.Chain.{chain, visit}
use Rattle.rules.proofs.Laws.Chain.{chain_fits, chain_excluded}
use Rattle.chain.specs.Visits.{State}
use Rattle.chain.specs.Laws.Notes.{carried_whole}
use Rattle.chain.proofs.listing.listed.Goals as goal

pub returns-then-not-m-event : goal.returns-then-not-m-event
returns-then-not-m-event c =
    rw (chain_excluded c.args.t.now c.args.m.now c.args.event c.if-not-m-event.true) record {
      count = refl;
      list = refl;
    }

pub returns : goal.returns
unfolding chain
returns c =
    let t = c.args.t.now in
    let m = c.args.m.now in
    let e = c.args.event in
    let list = c.args.list.now in
    let fits : length (chain t m e) ≤ length list =
    omega (
      arith,
      chain_fits t m c.requires.good.0.table_good e c.requires.good.1,
      c.requires.good.0.table_good.few_relations,
      c.requires.most_relations_in_bounds,
    ) in
    let whole =
    c.event.ensures.visits t m c.of-visits.ensures c.if-not-m-event.false 64 (omega arith)
    ∙ carried_whole (visit t m 64 0 e 0) 0 list fits in record {
      count = ap (λ (s : State). s.count) whole;
      list = ap (λ (s : State). s.list) whole;
    }
