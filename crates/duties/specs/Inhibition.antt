-- What is asked of the words of a table: all inhibitors of an event; those that are followed, in rows or a word for each event; and what follows
-- from them.
use Rattle.std.specs.Prelude.{◌≡◌, Bool, true, not, ◌&&◌, cond, List, ℕ, Option, Some, None, ◌<◌, eqb, ltb, length, get_or, set}
use Rattle.std.specs.Int.Bits.{bit_or, bit_and}
use Rattle.rules.specs.declared.Relation.{Relation}
use Rattle.rules.specs.declared.Table.{Table}
use Rattle.rules.specs.Counting.{some}
use Rattle.rules.specs.EventSet.{has, with_event}
use Rattle.rules.specs.Holds.{is_response, relation_of}
use Rattle.rules.specs.Effect.{leads}
use Rattle.rules.specs.Closure.{followed}
use Rattle.rules.specs.Shapes.Good.{GoodTable}
use Rattle.acts.specs.Derived.{row_of}
use Rattle.duties.specs.declared.following.Following.{Following}

-- all inhibitors: the right events of e's conditions, of any time, and of its milestones
abbrev pub inhibitors_in : List ℕ → ℕ → ℕ
inhibitors_in rows e = bit_or (bit_or (row_of rows e 0) (row_of rows e 1)) (row_of rows e 2)

-- those that are followed: the right events of e's conditions, if in the one set, and of its milestones, if in the other
abbrev pub followed_in : List ℕ → ℕ → ℕ → ℕ → ℕ
followed_in rows conditions milestones e =
    bit_or (bit_and (bit_or (row_of rows e 0) (row_of rows e 1)) conditions) (bit_and (row_of rows e 2) milestones)

-- the word of event e, of one word for each event
abbrev pub word_of : List ℕ → ℕ → ℕ
word_of words e = get_or words e 0

-- word e has the right events of those of e's relations, among the first n, that are followed
pub record Followed (t : Table) (n : ℕ) (words : List ℕ) : Type 0 where
  pub size : length words ≡ 64
  pub word : (e : ℕ) → e < 64 → (x : ℕ) → has (word_of words e) x ≡ some n (λ k. followed (relation_of t k) && leads (relation_of t k) e x)

-- the right event of a bounded response answers
abbrev pub is_answer : Relation → Bool
is_answer k = is_response k && k.bounded

-- a word has the right events of the bounded responses among the first n relations
abbrev pub Answers : Table → ℕ → ℕ → Type 0
Answers t n w = (x : ℕ) → has w x ≡ some n (λ k. is_answer (relation_of t k) && eqb (relation_of t k).right x)

-- what is followed, and what answers, is that of a judged table
pub record FollowingOf (t : Table) (following : Following) : Type 0 where
  pub good : GoodTable t
  pub followed : Followed t t.count following.words
  pub answers : Answers t t.count following.answers

-- Noting one relation more: in the word of its left event if it is followed, among the answers if it is a bounded response
unfoldable pub words_noted : List ℕ → Relation → List ℕ
words_noted words k = cond (followed k) (set words k.left (with_event (word_of words k.left) k.right)) words

abbrev pub answers_noted : ℕ → Relation → ℕ
answers_noted answers k = cond (is_answer k) (with_event answers k.right) answers

-- the set and, repeatedly, the events in the words of its events: it contains the set, is closed, and lies in whatever does and is
pub record Reached (word : ℕ → ℕ) (set r : ℕ) : Type 0 where
  pub starts : (x : ℕ) → has set x ≡ true → has r x ≡ true
  pub on : (e x : ℕ) → e < 64 → has r e ≡ true → has (word e) x ≡ true → has r x ≡ true
  pub within : (p : ℕ → Bool) → ((x : ℕ) → has set x ≡ true → p x ≡ true)
      → ((e x : ℕ) → e < 64 → p e ≡ true → has (word e) x ≡ true → p x ≡ true)
      → (x : ℕ) → has r x ≡ true → p x ≡ true

-- a set of events on no cycle: each has the events of its word in the set, and lower than itself in some order; `most` is above the whole of it
pub record Cleared (words : List ℕ) (cleared : ℕ) : Type 0 where
  pub rank : ℕ → ℕ
  pub most : ℕ
  pub below : (x : ℕ) → has cleared x ≡ true → rank x < most
  pub lower : (e x : ℕ) → e < 64 → has cleared e ≡ true → has (word_of words e) x ≡ true → (has cleared x ≡ true) × (rank x < rank e)

-- a place among the first n, if it is one
abbrev pub place : ℕ → ℕ → Option ℕ
place n p = cond (ltb p n) (Some p) None

-- an event of a set with no inhibitor in it
abbrev pub ready_in : List ℕ → ℕ → ℕ → Bool
ready_in rows set e = has set e && eqb (followed_in rows set set e) 0

-- event e of the set leads to x by its relations of a sort
abbrev pub led_to : List ℕ → ℕ → ℕ → ℕ → ℕ → Bool
led_to rows s set x e = has set e && has (row_of rows e s) x

-- an event of the set that has an inhibitor
abbrev pub held_in : List ℕ → ℕ → ℕ → Bool
held_in rows set e = has set e && not (eqb (inhibitors_in rows e) 0)
