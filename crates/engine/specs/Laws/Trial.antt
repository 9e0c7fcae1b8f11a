-- A list that is tried stops where no event is due, where the next event may not be caused, or at its end. Assumes nothing.
use Rattle.std.specs.Prelude.{◌≡◌, Bool, true, false, ◌&&◌, List, ℕ, ◌<◌, ◌≤◌, ◌+◌, length, get_or}
use Rattle.std.proofs.Common.{◌∙◌, ap, subst, arith, lt-ltb, le-ltb}
use Rattle.std.proofs.Math.Path.{sym}
use Rattle.rules.specs.declared.Table.{Table}
use Rattle.rules.specs.declared.Record.{Record}
use Rattle.rules.specs.declared.Marking.{Marking}
use Rattle.rules.specs.EventSet.{has}
use Rattle.rules.specs.Judge.{judged}
use Rattle.rules.specs.Enabled.{is_enabled}
use Rattle.rules.specs.Effect.{effect}
use Rattle.rules.specs.Time.{any_due, due_set}
use Rattle.rules.specs.Remedy.{shortest}
use Rattle.rules.proofs.Laws.Tests.{both}
use Rattle.rules.proofs.Laws.Time.{none_due_yet, some_due_still}
use Rattle.rules.specs.Shapes.Tried.{may_cause}
use Rattle.rules.proofs.Laws.Remedy.{TriedSoFar, passed_none, passed_more, found_here, found_none, stuck_here}
use Rattle.acts.specs.declared.derived.Head.{Head}
use Rattle.acts.specs.declared.table_words.Row.{Row}
use Rattle.acts.specs.declared.table_words.TableWords.{TableWords}
use Rattle.acts.specs.declared.marking_words.MarkingWords.{MarkingWords}
use Rattle.acts.specs.Derived.{firm_set}
use Rattle.acts.specs.Words.{WordsOf, RowOf, StandFor}
use Rattle.engine.specs.Trial.{Tried}
use Rattle.acts.specs.Laws.Happen.{head_firm}

-- What the words say of their table.
module _ {t : Table} {table : TableWords} (of : WordsOf t table) where
  pub same_events : table.rows.head.events ≡ t.events
  same_events = ap (λ (h : Head). h.events) of.rows.headed

  pub stands_headed : (tail : List Record) (words : MarkingWords) (m : Marking) → StandFor t.events tail words m → StandFor table.rows.head.events tail words m
  stands_headed tail words m = subst (λ (n : ℕ). StandFor n tail words m) (sym same_events)

  -- whether an event may be caused, test by test
  module _ (m : Marking) (e : ℕ) where
    causable_same : has table.rows.head.causable e ≡ has t.causable e
    causable_same = ap (λ (h : Head). has h.causable e) of.rows.headed

    pub cause_enabled : e < table.rows.head.events → has table.rows.head.causable e ≡ true → {r : Bool} → (e < t.events → r ≡ is_enabled t m e) → r ≡ may_cause t m e
    unfolding may_cause
    cause_enabled b c q = let exists : e < t.events = omega (arith, same_events) in rw (lt-ltb e t.events exists, sym causable_same ∙ c) (q exists)

    pub cause_not : e < table.rows.head.events → has table.rows.head.causable e ≡ false → false ≡ may_cause t m e
    unfolding may_cause
    cause_not b c = rw (lt-ltb e t.events (omega (arith, same_events)), sym causable_same ∙ c)

    pub cause_missing : table.rows.head.events ≤ e → false ≡ may_cause t m e
    unfolding may_cause
    cause_missing b = rw (le-ltb e t.events (omega (arith, same_events)))

-- On the way: whatever the words are of, they stand for the marking after the first i events of the list.
abbrev pub Trying : TableWords → List ℕ → ℕ → MarkingWords → MarkingWords → Type 0
Trying table list i start now =
    (t : Table) (tail : List Record) (m : Marking) → judged t m ≡ 0 → WordsOf t table → StandFor t.events tail start m
    → (trial : Marking) × (StandFor t.events tail now trial × TriedSoFar t m list i trial)

-- where it ended
abbrev pub Ended : TableWords → List ℕ → ℕ → MarkingWords → MarkingWords → Type 0
Ended table list count start now =
    (t : Table) (tail : List Record) (m : Marking) → judged t m ≡ 0 → WordsOf t table → StandFor t.events tail start m
    → (after : Marking) × StandFor t.events tail now after × Tried t m list count after

module _ (table : TableWords) (list : List ℕ) (start : MarkingWords) where
  pub trying_none : Trying table list 0 start start
  trying_none t tail m done of stands = (m, (stands, passed_none t m list done))

  module _ (i : ℕ) (now : MarkingWords) (trying : Trying table list i start now) where
    -- the next is caused
    pub trying_more : i < length list → (go : Bool) → go ≡ true → get_or list i 0 < table.rows.head.events
        → ((t : Table) (tail : List Record) (k : Marking) → WordsOf t table → StandFor t.events tail now k → go ≡ (any_due k && may_cause t k (get_or list i 0)))
        → (row : Row) → ((t : Table) → WordsOf t table → RowOf t (get_or list i 0) row) → (next : MarkingWords)
        → ((t : Table) (tail : List Record) (k : Marking) → RowOf t (get_or list i 0) row → get_or list i 0 < t.events
        → table.rows.head.firm ≡ firm_set t.firm → StandFor t.events tail now k → StandFor t.events tail next (effect t k (get_or list i 0)))
        → Trying table list (i + 1) start next
    trying_more more go goes exists says row rowed next effects t tail m done of stands =
        let w = trying t tail m done of stands in
        let e = get_or list i 0 in
        let on = both (any_due w.0) (may_cause t w.0 e) (sym (says t tail w.0 of w.1.0) ∙ goes) in (
          effect t w.0 e,
          (
            effects t tail w.0 (rowed t of) (omega (arith, same_events of)) (head_firm table.rows.head t of.rows.headed) w.1.0,
            passed_more t m list i w.0 w.1.1 more on.0 on.1,
          ),
        )

    -- it stops here, or at the end
    pub trying_stopped : i < length list → (go : Bool) → go ≡ false
        → ((t : Table) (tail : List Record) (k : Marking) → WordsOf t table → StandFor t.events tail now k → go ≡ (any_due k && may_cause t k (get_or list i 0)))
        → Ended table list i start now
    trying_stopped more go stays says t tail m done of stands =
        let w = trying t tail m done of stands in
        let trial = w.0 in
        let p = w.1.1 in
        let stops = sym (says t tail trial of w.1.0) ∙ stays in (
          trial,
          w.1.0,
          record {
            still_judged = p.still_judged;
            discharged = found_here t m list i trial p;
            failed = λ due. stuck_here t m list i trial p more due (sym (ap (λ (b : Bool). b && may_cause t trial (get_or list i 0)) due) ∙ stops);
          },
        )

    pub trying_ended : i ≡ length list → Ended table list (length list) start now
    trying_ended e t tail m done of stands =
        let w = trying t tail m done of stands in
        let trial = w.0 in
        let p = w.1.1 in (
          trial,
          w.1.0,
          record {
            still_judged = p.still_judged;
            discharged = λ none. found_here t m list i trial p none ∙ e;
            failed = found_none t m list i trial p e;
          },
        )

-- what the due events then say
module _ {t : Table} {m : Marking} {list : List ℕ} {count : ℕ} {after : Marking} (d : Tried t m list count after) where
  pub start_found : due_set after ≡ 0 → shortest t m list ≡ count
  start_found h = d.discharged (none_due_yet after h)

  pub none_found : (due_set after ≡ 0 → ⊥) → shortest t m list ≡ length list + 1
  none_found h = d.failed (some_due_still after h)
