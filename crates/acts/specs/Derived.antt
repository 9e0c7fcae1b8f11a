-- What is derived from the table alone: a row of ten words for each event, a link for each relation, and what is asked of such words.
use Rattle.std.specs.Prelude.{◌≡◌, Bool, true, ◌&&◌, cond, List, ℕ, zero, suc, ◌<◌, ◌+◌, ◌*◌, ◌%◌, eqb, ltb, length, get_or, set}
use Rattle.rules.specs.declared.Relation.{Relation}
use Rattle.rules.specs.declared.Table.{Table}
use Rattle.rules.specs.Counting.{some}
use Rattle.rules.specs.EventSet.{has, with_event}
use Rattle.rules.specs.Holds.{is_condition, is_response, is_inclusion, is_milestone, relation_of}
use Rattle.rules.specs.Effect.{leads}
use Rattle.acts.specs.declared.derived.Head.{Head}

-- 0 a condition without a time, 1 with one; 2 a milestone; 3 a bounded response, 4 an eventual one; 5 an inclusion of another event; 6 an
-- exclusion; 7 an inclusion of the event itself
unfoldable pub sort_of : Relation → ℕ
sort_of k =
    cond (is_condition k) (cond (ltb 0 k.time) 1 0)
    (cond (is_milestone k) 2
    (cond (is_response k) (cond k.bounded 3 4)
    (cond (is_inclusion k) (cond (eqb k.left k.right) 7 5) 6)))

-- of event e and sort s: the events to which its relations of that sort lead
abbrev pub row_of : List ℕ → ℕ → ℕ → ℕ
row_of rows e s = get_or rows (10 * e + s) 0

-- relation k is of sort s and leads from e to x
abbrev pub sorted : Table → ℕ → ℕ → ℕ → ℕ → Bool
sorted t s e x k = eqb (sort_of (relation_of t k)) s && leads (relation_of t k) e x

-- the rows of the first n relations
pub record Derived (t : Table) (n : ℕ) (rows : List ℕ) : Type 0 where
  pub size : length rows ≡ 640
  pub row : (e : ℕ) → e < 64 → (s : ℕ) → s < 8 → (x : ℕ) → has (row_of rows e s) x ≡ some n (sorted t s e x)

-- every event, whether it exists or not
abbrev pub every_event : ℕ
every_event = 18_446_744_073_709_551_615

-- the events whose dates no response moves out: of a firm table every one, else none
abbrev pub firm_set : Bool → ℕ
firm_set firm = cond firm every_event 0

-- what a table says besides its relations
abbrev pub head_of : Table → Head
head_of t = record { controllable = t.controllable; causable = t.causable; events = t.events; firm = firm_set t.firm }

-- Two sorts are in chains: bounded responses, and conditions with a time. Where a row has the beginning of the chain of a sort; 10, which
-- is past the row, for none
unfoldable pub chain_of : ℕ → ℕ
chain_of s = cond (eqb s 3) 8 (cond (eqb s 1) 9 10)

-- relation k is of sort s and is e's
abbrev pub of_sort : Table → ℕ → ℕ → ℕ → Bool
of_sort t s e k = eqb (sort_of (relation_of t k)) s && eqb (relation_of t k).left e

-- the last of e's relations of a sort among the first n, and 1 more; 0 for none
unfoldable pub last_of : Table → ℕ → ℕ → ℕ → ℕ
last_of t s e zero = 0
last_of t s e (suc n) = cond (of_sort t s e n) (suc n) (last_of t s e n)

-- a relation is in a chain
abbrev pub is_chained : Relation → Bool
is_chained k = ltb (chain_of (sort_of k)) 10

-- its link: the one before it in its chain, its right event, its time
abbrev pub link_of : ℕ → Relation → ℕ
link_of before k = before + 512 * k.right + 32768 * k.time

-- the row of e, of the first n relations, where it stands from `at` on, and the links of those of e's relations that are in a chain
pub record Own (t : Table) (n e : ℕ) (rows : List ℕ) (at : ℕ) (links : List ℕ) : Type 0 where
  pub row : (s : ℕ) → s < 8 → (x : ℕ) → has (get_or rows (at + s) 0) x ≡ some n (sorted t s e x)
  pub responses : get_or rows (at + 8) 0 ≡ last_of t 3 e n
  pub waits : get_or rows (at + 9) 0 ≡ last_of t 1 e n
  pub link : (k : ℕ) → k < n → (relation_of t k).left ≡ e → is_chained (relation_of t k) ≡ true
      → get_or links k 0 ≡ link_of (last_of t (sort_of (relation_of t k)) e k) (relation_of t k)

-- the links of the first n relations, and where the rows have the beginnings of their chains
pub record Linked (t : Table) (n : ℕ) (rows links : List ℕ) : Type 0 where
  pub size : length links ≡ 256
  pub responses : (e : ℕ) → e < 64 → get_or rows (10 * e + 8) 0 ≡ last_of t 3 e n
  pub waits : (e : ℕ) → e < 64 → get_or rows (10 * e + 9) 0 ≡ last_of t 1 e n
  pub link : (k : ℕ) → k < n → is_chained (relation_of t k) ≡ true
      → get_or links k 0 ≡ link_of (last_of t (sort_of (relation_of t k)) (relation_of t k).left k) (relation_of t k)

-- rows in which no chain begins: no relation is linked
abbrev pub Unlinked : List ℕ → Type 0
Unlinked rows = (e : ℕ) → e < 64 → (get_or rows (10 * e + 8) 0 ≡ 0) × (get_or rows (10 * e + 9) 0 ≡ 0)

-- relation i begins its chain, if it is in one, in the row of its left event, which stands from `at` on
abbrev pub rows_begun : List ℕ → ℕ → ℕ → Relation → List ℕ
rows_begun rows at i k = cond (is_chained k) (set rows (at + chain_of (sort_of k)) (i + 1)) rows

-- the word of its sort, in that row, has its right event
abbrev pub row_noted : List ℕ → ℕ → Relation → List ℕ
row_noted rows at k = set rows (at + sort_of k) (with_event (get_or rows (at + sort_of k) 0) k.right)

-- Noting relation i: in its chain, and in the row
unfoldable pub rows_noted : List ℕ → ℕ → ℕ → Relation → List ℕ
rows_noted rows at i k = set (rows_begun rows at i k) (at + sort_of k) (with_event (get_or rows (at + sort_of k) 0) k.right)

unfoldable pub links_noted : List ℕ → List ℕ → ℕ → ℕ → Relation → List ℕ
links_noted links rows at i k = cond (is_chained k) (set links i (link_of (get_or rows (at + chain_of (sort_of k)) 0 % 512) k)) links
