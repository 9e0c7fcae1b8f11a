-- The first relation that has the reason, of those that count.
use Rattle.std.proofs.Common.{◌≡◌, ◌∙◌, ◌<◌, length, rules, tests}
use Rattle.std.proofs.Math.ListN.{take}
use Rattle.std.proofs.lemmas.Iterator.{YieldsList-from_slice}
use Rattle.std.proofs.lemmas.Iterator.Adapters.{serves_from_places}
use Rattle.std.proofs.lemmas.Iterator.Search.{position_from_yields_List}
use Rattle.duties.specs.Reasons.{applies, first_reason}
use Rattle.duties.specs.Laws.Position.{counting_small, first_placed}
use Rattle.duties.proofs.reasons.Sought.first.Goals as goal

pub position-requires-clause-callable : goal.position-requires-clause-callable
position-requires-clause-callable c =
    let t = c.args.t.now in
    serves_from_places (YieldsList-from_slice (take t.count t.relations) c.iter.ensures.rest) (λ x q r. search rules)
    (λ x k b is. let few : (x.now.kind < 64) × (x.now.left < 64) × (x.now.right < 64) = counting_small t c.requires k b x.now is in search rules)

pub returns : goal.returns
unfolding first_reason
returns c =
    let t = c.args.t.now in
    let s = c.args.self.now in
    let whole : length (take t.count t.relations) ≡ t.count = search rules in
    c.unwrap_or.ensures
    ∙ first_placed t whole (applies s.kinds s.lefts s.rights) c.position.result
    (position_from_yields_List (applies s.kinds s.lefts s.rights) _ _ c.position.result c.position.ensures.ran
    (YieldsList-from_slice (take t.count t.relations) c.iter.ensures.rest) (λ x b q k. search (rules, tests)))
