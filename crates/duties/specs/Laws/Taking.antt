-- The taking event after event: the next ready event is the lowest of a word; the state that is carried on is the definition's list of executed
-- events, their count and the marking; and what an answer of the check says for the guarded tick. Assumes nothing.
use Rattle.std.specs.Prelude.{◌≡◌, Bool, true, false, cond, ℕ, zero, suc, ◌<◌, ◌≤◌, ◌+◌, ◌-◌, ◌^◌, length, get_or, set, replicate}
use Rattle.std.proofs.Math.Path.{refl, ap, ap₂, subst}
use Rattle.std.proofs.Common.{◌∙◌, sym, arith, add-one, drop-cons}
use mathlib.Core.List.{List, [], ◌∷◌, ◌++◌, append-nil}
use Rattle.std.proofs.Math.ListN.{drop, length-append}
use Rattle.std.proofs.Math.Seq.{append_snoc}
use Rattle.std.proofs.lemmas.List.{set_at}
use Rattle.rules.specs.declared.Table.{Table}
use Rattle.rules.specs.declared.Record.{Record}
use Rattle.rules.specs.declared.Marking.{Marking}
use Rattle.rules.specs.Answers.{GuardedAnswer}
use Rattle.rules.specs.Counting.{lowest}
use Rattle.rules.specs.EventSet.{has}
use Rattle.rules.specs.Holds.{record_of}
use Rattle.rules.specs.Effect.{effect}
use Rattle.rules.specs.Guard.{ready, goes_ahead, order_of, order, taken, taken_all, executed_of, caused, guarded, needed}
use Rattle.rules.proofs.Laws.Tests.{both}
use Rattle.rules.proofs.Laws.Counting.{lowest_is, lowest_none}
use Rattle.rules.proofs.Laws.EventSet.{has_zero}
use Rattle.rules.proofs.Laws.Needed.{needed_fits}
use Rattle.rules.proofs.Laws.Order.{order_none, order_more, order_end, order_empty, order_length}
use Rattle.rules.specs.Shapes.Good.{GoodTable}
use Rattle.rules.proofs.Laws.Widened.{has_below}
use Rattle.acts.specs.declared.table_words.TableWords.{TableWords}
use Rattle.acts.specs.declared.marking_words.MarkingWords.{MarkingWords}
use Rattle.acts.specs.Derived.{Derived}
use Rattle.acts.specs.Events.{Taken}
use Rattle.acts.specs.Words.{WordsOf, StandFor}
use Rattle.duties.specs.Inhibition.{ready_in}
use Rattle.acts.specs.Stands.{Stands}
use Rattle.duties.specs.AtStart.{AtStart}
use Rattle.duties.specs.Taking.{answered, noted, taken_one, carried_on, state_of}
use Rattle.acts.specs.Laws.Stands.{stands_events, tick_stands}
use Rattle.duties.specs.Laws.Followed.{ready_is}
use Rattle.duties.specs.Laws.Ready.{Ready}

-- The next ready event, by words.
module _ (t : Table) (good : GoodTable t) (rows : List ℕ) (made : Derived t t.count rows) {set untaken word : ℕ} (r : Ready rows set untaken word)
    (fits : untaken < 2 ^ t.events) where
  same : (x : ℕ) → x < t.events → ready_in rows untaken x ≡ ready t untaken x
  same = ready_is t good rows made untaken fits

  pub next_none : word ≡ 0 → lowest t.events (ready t untaken) ≡ t.events
  next_none none =
      lowest_none (ready t untaken) t.events (λ y b. sym (same y b) ∙ sym (r.told y) ∙ ap (λ (w : ℕ). has w y) none ∙ has_zero y)

  pub next_at : {e rest : ℕ} → Taken word e rest → (lowest t.events (ready t untaken) ≡ e) × (e < t.events)
  next_at {e} next =
      let here = sym (r.told e) ∙ next.inside in
      let exists = has_below t.events untaken e fits (both (has untaken e) _ here).0 in (
        lowest_is (ready t untaken) t.events e exists (sym (same e exists) ∙ here)
            (λ y l. sym (same y (omega (arith, l, exists))) ∙ sym (r.told y) ∙ next.first y l),
        exists,
      )

-- One event is taken: executed if it goes ahead ..
module _ (t : Table) (m : Marking) (e : ℕ) where
  pub taken_goes : goes_ahead t m e ≡ true → effect t m e ≡ taken t m e
  unfolding taken
  taken_goes h = rw h

  pub taken_stays : goes_ahead t m e ≡ false → m ≡ taken t m e
  unfolding taken
  taken_stays h = rw h

-- .. and then noted
module _ (t : Table) (m : Marking) (list : List ℕ) (count e : ℕ) where
  pub taken_in : goes_ahead t m e ≡ true → state_of (taken t m e) (set list count e) (count + 1) ≡ taken_one t (state_of m list count) e
  unfolding taken taken_one
  taken_in h = rw h

  pub taken_out : goes_ahead t m e ≡ false → state_of (taken t m e) list count ≡ taken_one t (state_of m list count) e
  unfolding taken taken_one
  taken_out h = rw h

-- The state that is carried on.
carried_end : (t : Table) (s : GuardedAnswer) → carried_on t s [] ≡ s
unfolding carried_on
carried_end t s = refl

carried_more : (t : Table) (s : GuardedAnswer) (e : ℕ) (l : List ℕ) → carried_on t s (e ∷ l) ≡ carried_on t (taken_one t s e) l
unfolding carried_on
carried_more t s e l = refl

-- what is left leads to the same end as the start
pub record Onward (t : Table) (needed : ℕ) (start s : GuardedAnswer) (untaken i : ℕ) : Type 0 where
  pub same : carried_on t start (order_of t t.events needed) ≡ carried_on t s (order_of t (t.events - i) untaken)

module _ (t : Table) (needed : ℕ) (start : GuardedAnswer) where
  onward_start : Onward t needed start start needed 0
  onward_start = record { same = let e : t.events ≡ t.events - 0 = omega arith in ap (λ (n : ℕ). carried_on t start (order_of t n needed)) e }

  module _ {s : GuardedAnswer} {untaken i : ℕ} (u : Onward t needed start s untaken i) where
    onward_end : order_of t (t.events - i) untaken ≡ [] → s ≡ carried_on t start (order_of t t.events needed)
    onward_end q = sym (u.same ∙ ap (carried_on t s) q ∙ carried_end t s)

    onward_more : (e : ℕ) → lowest t.events (ready t untaken) ≡ e → e < t.events → i < t.events → {next : GuardedAnswer} → next ≡ taken_one t s e
        → Onward t needed start next (untaken - 2 ^ e) (i + 1)
    onward_more e q b l p = record {
      same =
          let k : t.events - i ≡ suc (t.events - (i + 1)) = omega arith in
          u.same ∙ ap (λ (n : ℕ). carried_on t s (order_of t n untaken)) k
          ∙ ap (carried_on t s) (order_more t untaken (t.events - (i + 1)) e q b)
          ∙ carried_more t s e _ ∙ ap (λ (a : GuardedAnswer). carried_on t a (order_of t (t.events - (i + 1)) (untaken - 2 ^ e))) (sym p);
    }

-- The executed events at the start of a list, the rest of it as it was before.
module _ (t : Table) (before : List ℕ) where
  abbrev told : List ℕ → Marking → GuardedAnswer
  told events m = state_of m (events ++ drop (length events) before) (length events)

  snoc_told : (e : ℕ) (events : List ℕ) → length events < length before
      → set (events ++ drop (length events) before) (length events) e ≡ (events ++ (e ∷ [])) ++ drop (length (events ++ (e ∷ []))) before
  snoc_told e events b =
      let n = length events in
      let more : length (events ++ (e ∷ [])) ≡ suc n = length-append events (e ∷ []) ∙ add-one n in
      ap (λ (l : List ℕ). set (events ++ l) n e) (drop-cons before n 0 b)
      ∙ set_at events (get_or before n 0) (drop (suc n) before) e n refl
      ∙ sym (append_snoc events e (drop (suc n) before))
      ∙ ap (λ (k : ℕ). (events ++ (e ∷ [])) ++ drop k before) (sym more)

  carried_told : (events : List ℕ) (m : Marking) (l : List ℕ) → length events + length l ≤ length before
      → carried_on t (told events m) l ≡ told (events ++ executed_of t m l) (taken_all t m l)
  unfolding carried_on taken_all executed_of taken_one taken
  carried_told events m [] b = ap (λ (l : List ℕ). told l m) (sym (append-nil events))
  carried_told events m (e ∷ l) b =
      go (record_of m e).included (carried_told (events ++ (e ∷ [])) (effect t m e) l (omega (arith, length-append events (e ∷ []))))
      (carried_told events m l (omega arith))
    where
      one : state_of (effect t m e) (set (events ++ drop (length events) before) (length events) e) (length events + 1)
          ≡ told (events ++ (e ∷ [])) (effect t m e)
      one = ap₂ (λ (n : ℕ) (list : List ℕ). state_of (effect t m e) list n) (sym (length-append events (e ∷ []))) (snoc_told e events (omega arith))

      go : (c : Bool)
          → carried_on t (told (events ++ (e ∷ [])) (effect t m e)) l
          ≡ told ((events ++ (e ∷ [])) ++ executed_of t (effect t m e) l) (taken_all t (effect t m e) l)
          → carried_on t (told events m) l ≡ told (events ++ executed_of t m l) (taken_all t m l)
          → carried_on t (cond c (noted t (told events m) e) (told events m)) l
          ≡ told (events ++ cond c (e ∷ executed_of t (cond c (effect t m e) m) l) (executed_of t (cond c (effect t m e) m) l))
          (taken_all t (cond c (effect t m e) m) l)
      go true first second =
          ap (λ (q : GuardedAnswer). carried_on t q l) one ∙ first
          ∙ ap (λ (q : List ℕ). told q (taken_all t (effect t m e) l)) (append_snoc events e (executed_of t (effect t m e) l))
      go false first second = second

  -- at the end of the order
  carried_is : (m after : Marking) (list : List ℕ) (count needed : ℕ) → t.events ≤ length before
      → state_of after list count ≡ carried_on t (state_of m before 0) (order_of t t.events needed)
      → (after ≡ taken_all t m (order_of t t.events needed)) × AtStart (executed_of t m (order_of t t.events needed)) before count list
  carried_is m after list count needed room q =
      let whole = order_of t t.events needed in
      let all = q ∙ carried_told [] m whole (omega (arith, order_length t t.events needed)) in
      let put = ap (λ (s : GuardedAnswer). s.caused) all in
      (ap (λ (s : GuardedAnswer). s.marking) all, record { counted = ap (λ (s : GuardedAnswer). s.count) all; put = put })

-- the end: the words stand for the marking after the whole order, and its executed events are told
abbrev pub TakenAll : Table → List Record → ℕ → Marking → List ℕ → MarkingWords → List ℕ → ℕ → Type 0
TakenAll t tail needed m before marking list count =
    StandFor t.events tail marking (taken_all t m (order_of t t.events needed))
    × AtStart (executed_of t m (order_of t t.events needed)) before count list

-- on the way: the words stand for a marking from which what is left leads to the same end as from m
abbrev pub Underway : Table → List Record → ℕ → Marking → List ℕ → MarkingWords → List ℕ → ℕ → ℕ → ℕ → Type 0
Underway t tail needed m before marking list count untaken i =
    (now : Marking) × (StandFor t.events tail marking now) × Onward t needed (state_of m before 0) (state_of now list count) untaken i

-- the loop that takes the events: what is true of any words, and what is besides of those of a table and a marking
pub record Taking (table : TableWords) (first : MarkingWords) (before : List ℕ) (needed : ℕ) (marking : MarkingWords) (list : List ℕ)
    (untaken word count i : ℕ)
    : Type 0 where
  pub few : count ≤ i
  pub less : untaken ≤ needed
  pub readied : Ready table.rows.words needed untaken word
  pub clock : marking.clock ≡ first.clock
  pub onward : (t : Table) (tail : List Record) (m : Marking) → WordsOf t table → needed < 2 ^ t.events → StandFor t.events tail first m
      → Underway t tail needed m before marking list count untaken i

module _ {t : Table} {table : TableWords} (of : WordsOf t table) (tail : List Record) (needed : ℕ) (m : Marking) (before : List ℕ) where
  pub underway_start : (marking : MarkingWords) → StandFor t.events tail marking m → Underway t tail needed m before marking before 0 needed 0
  underway_start marking stands = (m, stands, onward_start t needed (state_of m before 0))

  module _ (marking : MarkingWords) (list : List ℕ) (count untaken i : ℕ) (u : Underway t tail needed m before marking list count untaken i) where
    pub underway_more : (e : ℕ) → (lowest t.events (ready t untaken) ≡ e) × (e < t.events) → i < t.events
        → (later : MarkingWords) (later-list : List ℕ) (later-count : ℕ)
        → ((now : Marking) → StandFor t.events tail marking now → StandFor t.events tail later (taken t now e)
        × (state_of (taken t now e) later-list later-count ≡ taken_one t (state_of now list count) e))
        → Underway t tail needed m before later later-list later-count (untaken - 2 ^ e) (i + 1)
    underway_more e at b later later-list later-count takes =
        let next = takes u.0 u.1 in
        (taken t u.0 e, next.0, onward_more t needed (state_of m before 0) u.2 e at.0 at.1 b next.1)

    ended : order_of t (t.events - i) untaken ≡ [] → length before ≡ 64 → TakenAll t tail needed m before marking list count
    ended none room =
        let done = carried_is t before m u.0 list count needed (rw room of.rows.good.few_events) (onward_end t needed (state_of m before 0) u.2 none) in
        (subst (StandFor t.events tail marking) done.0 u.1, done.1)

    pub underway_none : lowest t.events (ready t untaken) ≡ t.events → length before ≡ 64 → TakenAll t tail needed m before marking list count
    underway_none q = ended (order_none t untaken (t.events - i) q)

    pub underway_end : t.events ≤ i → length before ≡ 64 → TakenAll t tail needed m before marking list count
    underway_end b = ended (let e : t.events - i ≡ 0 = omega arith in ap (λ (k : ℕ). order_of t k untaken) e ∙ order_end t untaken)

pub needed_small : (t : Table) (tail : List Record) (marking : MarkingWords) (m : Marking) → GoodTable t → StandFor t.events tail marking m
    → {untaken : ℕ} → untaken ≡ needed t m → untaken < 2 ^ t.events
needed_small t tail marking m good stands {untaken} q =
    rw q (needed_fits t good m (stands_events t.events tail marking.clock marking.sets marking.columns m stands))

-- What is needed is taken, and then one tick passes: what the definition of the guarded tick says.
module _ (t : Table) (tail : List Record) (m : Marking) (before : List ℕ) {untaken : ℕ} (is-needed : untaken ≡ needed t m) (marking : MarkingWords) where
  -- with nothing needed nothing is taken
  pub none_taken : untaken ≡ 0 → StandFor t.events tail marking m → TakenAll t tail untaken m before marking before 0
  unfolding taken_all executed_of
  none_taken none stands = rw (none, order_empty t t.events) (stands, record { counted = refl; put = refl })

  module _ (list : List ℕ) (count : ℕ) (all : TakenAll t tail untaken m before marking list count) where
    pub taken_is : StandFor t.events tail marking (taken_all t m (order t m))
    taken_is = subst (λ (l : List ℕ). StandFor t.events tail marking (taken_all t m l)) (ap (order_of t t.events) is-needed) all.0

    pub guarded_is : Stands t.events tail (marking.clock + 1) marking.sets marking.columns (guarded t m) × AtStart (caused t m) before count list
    unfolding guarded caused
    guarded_is = (
      tick_stands t.events tail marking.clock marking.sets marking.columns (taken_all t m (order t m)) taken_is,
      subst (λ (l : List ℕ). AtStart (executed_of t m l) before count list) (ap (order_of t t.events) is-needed) all.1,
    )

-- as an answer: the list was 0 at every place
abbrev zeros : ℕ → List ℕ
zeros n = replicate n 0

drop_zeros : (n k : ℕ) → drop k (zeros n) ≡ zeros (n - k)
drop_zeros n zero = let e : n ≡ n - 0 = omega arith in ap zeros e
drop_zeros zero (suc k) = let e : 0 ≡ 0 - suc k = omega arith in ap zeros e
drop_zeros (suc n) (suc k) = let e : n - k ≡ suc n - suc k = omega arith in drop_zeros n k ∙ ap zeros e

pub answered_is : (events : List ℕ) (after later : Marking) {list : List ℕ} {count : ℕ} → AtStart events (zeros 64) count list → later ≡ after
    → state_of later list count ≡ answered 0 0 0 events after
answered_is events after later told-so given =
    rw (given, told-so.counted, told-so.put ∙ ap (λ (l : List ℕ). events ++ l) (drop_zeros 64 (length events)))
