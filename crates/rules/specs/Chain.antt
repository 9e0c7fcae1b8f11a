-- Chain of an event: every relation that stands in its way. An event leads to its blocking relations in table order, a blocking relation to its
-- right event, and so on downwards. Each event is opened once only, at its first visit. An excluded event opens nothing.
use Rattle.std.specs.Prelude.{◌≡◌, Bool, false, not, ◌&&◌, ◌||◌, cond, List, [], ◌∷◌, ◌++◌, map, ℕ, zero, suc, ◌+◌, ◌*◌, ◌<◌, ◌≤◌, eqb, ltb, length, get_or, drop}
use Rattle.rules.specs.declared.Table.{Table}
use Rattle.rules.specs.declared.Marking.{Marking}
use Rattle.rules.specs.Answers.{ChainAnswer}
use Rattle.rules.specs.HoldUpAnswer.{Blocked}
use Rattle.rules.specs.Numbers.{◌if◌, ◌else◌, done}
use Rattle.rules.specs.EventSet.{has, with_event, set_of}
use Rattle.rules.specs.Holds.{most_events, most_relations, relation_of, record_of}
use Rattle.rules.specs.Judge.{judged, event_number}
use Rattle.rules.specs.Enabled.{blocks}
use Rattle.rules.specs.HoldUp.{hold_up}
use Rattle.rules.specs.Closure.{widened_fully}

-- a relation of the list, and how deep below the asked event it stands
pub record Link : Type 0 where
  pub relation : ℕ
  pub depth : ℕ

abbrev pub link : ℕ → ℕ → Link
link k d = record { relation = k; depth = d }

-- what a visit leaves: the events that are opened by then, and its links in visiting order
pub record Visit : Type 0 where
  pub opened : ℕ
  pub links : List Link

abbrev pub nothing : ℕ → Visit
nothing opened = record { opened = opened; links = [] }

-- a relation, and then all below it
abbrev pub led_to : ℕ → ℕ → Visit → Visit
led_to k d below = record { opened = below.opened; links = link k d ∷ below.links }

-- the visits of the first n relations, one after the other
unfoldable pub along : ℕ → (ℕ → ℕ → Visit) → ℕ → Visit
along zero f opened = nothing opened
along (suc k) f opened =
    let before = along k f opened in
    let here = f k before.opened in
    record { opened = here.opened; links = before.links ++ here.links }

-- the visit of event e at depth d, where some events are opened already; a visit goes down at most f events
unfoldable pub visit : Table → Marking → ℕ → ℕ → ℕ → ℕ → Visit
visit t m zero d e opened = nothing opened
visit t m (suc f) d e opened =
    cond (has opened e || not (record_of m e).included) (nothing opened)
    (along t.count
    (λ k opened. cond (blocks t m e k) (led_to k d (visit t m f (suc d) (relation_of t k).right opened)) (nothing opened))
    (with_event opened e))

-- depth 0 for the asked event's own; there are no more events to go down to than a table has at most
unfoldable pub chain : Table → Marking → ℕ → List Link
chain t m e = (visit t m most_events 0 e 0).links

-- 8, then 14 if the lent list has fewer than 256 places
unfoldable pub chain_number : Table → Marking → ℕ → ℕ → ℕ
chain_number t m e room = judged t m else event_number t e else 14 if ltb room most_relations

unfoldable pub chain_answer : Table → Marking → ℕ → ℕ → ChainAnswer
chain_answer t m e room =
    let number = chain_number t m e room in
    record { number = number; count = done number (length (chain t m e)) 0 }

-- a place of the lent list: relation and depth in one number
abbrev pub place_of : Link → ℕ
place_of l = 256 * l.relation + l.depth

abbrev pub places_of : List Link → List ℕ
places_of links = map place_of links

-- what the lent list holds afterwards: the chain first, and later places stay
unfoldable pub chain_list : Table → Marking → ℕ → List ℕ → List ℕ
chain_list t m e list =
    done (chain_number t m e (length list)) (places_of (chain t m e) ++ drop (length (chain t m e)) list) list

-- What is said of a chain. Relation k stands in a list
unfoldable pub listed : ℕ → List Link → Bool
listed k [] = false
listed k (l ∷ rest) = eqb k l.relation || listed k rest

-- the events that are reached from e in this way: e itself, and the right event of each relation that blocks an event which is reached
unfoldable pub reached : Table → Marking → ℕ → ℕ
reached t m e = widened_fully t (λ k. blocks t m (relation_of t k).left k) (set_of t.events (λ x. eqb x e && (record_of m x).included))

-- the link at place i, and the left event of its relation
abbrev pub link_at : List Link → ℕ → Link
link_at links i = get_or links i (link 0 0)

abbrev pub left_at : Table → List Link → ℕ → ℕ
left_at t links i = (relation_of t (link_at links i).relation).left

-- an earlier link, one less deep, whose right event is the left one of link i
pub record LedTo (t : Table) (links : List Link) (i : ℕ) : Type 0 where
  pub place : ℕ
  pub earlier : place < i
  pub above : (link_at links place).depth + 1 ≡ (link_at links i).depth
  pub leads : (relation_of t (link_at links place).relation).right ≡ left_at t links i

pub record Told (t : Table) (m : Marking) (e : ℕ) (links : List Link) : Type 0 where
  -- a relation is listed exactly where its left event is reached and it blocks that event
  pub holds : (k : ℕ) → listed k links ≡ (ltb k t.count && has (reached t m e) (relation_of t k).left && blocks t m (relation_of t k).left k)
  -- none is listed twice, so that 256 places always suffice
  pub once : (i j : ℕ) → i < j → j < length links → (link_at links i).relation ≡ (link_at links j).relation → ⊥
  pub fits : length links ≤ most_relations
  -- the hold-up's relation comes first, and there is none where it names none that blocks
  pub first : (k : ℕ) → hold_up t m e ≡ Blocked k → (0 < length links) × (link_at links 0 ≡ link k 0)
  pub none : ((k : ℕ) → hold_up t m e ≡ Blocked k → ⊥) → links ≡ []
  -- depth 0 exactly for the asked event's own; each other has an earlier one that leads to it
  pub own_depth : (i : ℕ) → i < length links → left_at t links i ≡ e → (link_at links i).depth ≡ 0
  pub depth_own : (i : ℕ) → i < length links → (link_at links i).depth ≡ 0 → left_at t links i ≡ e
  pub led : (i : ℕ) → i < length links → (left_at t links i ≡ e → ⊥) → LedTo t links i
  -- and none is as deep as there can be events, so that a place tells both its numbers
  pub shallow : (i : ℕ) → i < length links → (link_at links i).depth < most_events
