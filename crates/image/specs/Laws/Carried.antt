-- Carrying over, past its own two tests, is writing the marking of the old image; a record of that marking breaks a rule only if the old one did,
-- and its bytes are the old ones and then those of its count. Assumes nothing.
use Rattle.std.specs.Prelude.{◌≡◌, refl, Bool, true, false, ◌&&◌, cond, eqb, leb, length, get_or, take}
use Rattle.std.proofs.Math.Path.{sym, ap, ap₂}
use Rattle.std.proofs.Common.{◌∙◌, arith}
use Rattle.std.proofs.Math.Bool.{not, and-true}
use Rattle.std.proofs.Math.Logic.{⊎_elim}
use mathlib.Core.List.{List, [], ◌∷◌, ◌++◌}
use Prim.Native.Nat.{ℕ, ◌*◌, ◌<◌}
use borrow.Author.Tests.{eq-eqb, eqb-true, not-false}
use Rattle.std.proofs.Math.Dec.{ltb}
use Rattle.std.proofs.Math.ListN.{drop}
use Rattle.rules.specs.Counting.{some}
use Rattle.rules.specs.Numbers.{◌if◌, ◌else◌, first_of, done}
use Rattle.rules.specs.Holds.{count_limit, record_of}
use Rattle.rules.specs.Fields.{flag, bit, bytes_of}
use Rattle.rules.specs.Judge.{events_fit, state_fits, count_fits_lem, record_fits, record_number, marking_number}
use Rattle.rules.specs.Image.{record_bytes, state_at, record_image, event_image, marking_image, write_number, write_marking}
use Rattle.rules.specs.Carrying.{old_record_bytes, old_record_bit, carried_at, carried, carry_number, carry_marking}
use Rattle.rules.proofs.Laws.Tests.{decide}
use Rattle.rules.proofs.Laws.Fields.{bytes_of_word}
use Rattle.rules.proofs.Laws.Numbers.{if_done, both_done, done_alike, first_same, first_some}
use Rattle.rules.proofs.Laws.Written.{bytes_written}
use Rattle.image.specs.Laws.Packed.{room, state_read, record_bytes_lem}
use Rattle.image.specs.Laws.Parts.{record_done}
use Rattle.image.specs.Laws.Round.{record_from}

-- what passes the two tests
pub record Carriable (events : ℕ) (old : List ℕ) : Type 0 where
  pub fit : events_fit events ≡ true
  pub exact : length old ≡ old_record_bytes * events

-- a record that is carried over keeps the rules where its old fields do
pub carried_fits : (old : List ℕ) (p : ℕ) → record_fits (carried_at old p) ≡ state_fits (state_at old p 0)
unfolding record_fits state_fits count_fits_lem carried_at
carried_fits old p = rw (counts (flag old p)) (and-true _)
  where
    counts : (b : Bool) → cond b (leb 1 (bit b) && leb (bit b) count_limit) (eqb (bit b) 0) ≡ true
    counts true = refl
    counts false = refl

-- the bytes of a count of 1 or 0
count_bytes : (b : Bool) → bytes_of 4 (bit b) ≡ 0 ∷ 0 ∷ 0 ∷ bit b ∷ []
unfolding bytes_of
count_bytes true = refl
count_bytes false = refl

module _ (events : ℕ) (old : List ℕ) where
  pub carry_number_lem : Carriable events old → (room : ℕ) → carry_number events old room ≡ write_number (carried events old) room
  unfolding carry_number
  carry_number_lem c room = rw (c.fit, eq-eqb (length old) (old_record_bytes * events) c.exact)

  pub carry_bytes : Carriable events old → (buffer : List ℕ) → carry_marking events old buffer ≡ write_marking (carried events old) buffer
  unfolding carry_marking write_marking
  carry_bytes c buffer =
      let m = carried events old in
      ap (λ (n : ℕ). done n (write_marking m buffer) buffer) (carry_number_lem c (length buffer))
      ∙ done_alike (write_number m (length buffer)) (write_marking m buffer) (marking_image m ++ drop (record_bytes * m.events) buffer) buffer
      (bytes_written m buffer)

  pub carry_done : (room : ℕ) → carry_number events old room ≡ 0 → Carriable events old × (write_number (carried events old) room ≡ 0)
  unfolding carry_number
  carry_done room h =
      let p = both_done (3 if not (events_fit events)) _ h in
      let q = both_done (1 if not (eqb (length old) (old_record_bytes * events))) _ p.1 in (
        record {
          fit = not-false _ (if_done 2 _ p.0);
          exact = eqb-true (length old) (old_record_bytes * events) (not-false _ (if_done 0 _ q.0));
        },
        q.1,
      )

  pub carried_record : (e : ℕ) → e < events → record_of (carried events old) e ≡ carried_at old (old_record_bit e)
  unfolding carried
  carried_record e l = record_from events (λ x. carried_at old (old_record_bit x)) e l

  -- the old fields of event e break the old rules
  abbrev breaks : ℕ → Bool
  breaks e = not (state_fits (state_at old (old_record_bit e) 0))

  -- the numbers in order
  pub carry_numbers : (room : ℕ) → carry_number events old room
      ≡ (3 if not (events_fit events)
      else 1 if not (eqb (length old) (old_record_bytes * events))
      else 7 if some events breaks
      else 14 if ltb room (record_bytes * events))
  unfolding carry_number write_number marking_number carried
  carry_numbers room = ⊎_elim (λ fit. rw fit (ap after same)) (λ unfit. rw unfit) (decide (events_fit events))
    where
      after : ℕ → ℕ
      after n = 1 if not (eqb (length old) (old_record_bytes * events)) else n else 14 if ltb room (record_bytes * events)

      same : first_of events (λ e. record_number (record_of (carried events old) e)) ≡ 7 if some events breaks
      same =
          first_same (λ e. record_number (record_of (carried events old) e)) (λ e. 7 if breaks e) events
          (λ e l. ap record_number (carried_record e l) ∙ ap (λ (b : Bool). 7 if not b) (carried_fits old (old_record_bit e)))
          ∙ first_some 6 breaks events

  -- the old bytes of an event, and then those of its count
  pub carried_bytes : ((i : ℕ) → get_or old i 0 < 256) → Carriable events old → marking_number (carried events old) ≡ 0 → (e : ℕ) → e < events
      → event_image (carried events old) e
      ≡ take old_record_bytes (drop (old_record_bytes * e) old) ++ (0 ∷ 0 ∷ 0 ∷ bit (flag old (old_record_bit e)) ∷ [])
  unfolding carried carried_at
  carried_bytes bytes c judged e l =
      let r = carried_at old (old_record_bit e) in
      let small = rw (carried_record e l) at (room (record_of (carried events old) e) (record_done (carried events old) judged e l)) in
      ap record_image (carried_record e l)
      ∙ sym (record_bytes_lem r small)
      ∙ ap₂ (λ (w : ℕ) (s : List ℕ). bytes_of 8 w ++ s) (state_read old (old_record_bit e) r.count) (count_bytes (flag old (old_record_bit e)))
      ∙ ap (λ (s : List ℕ). s ++ (0 ∷ 0 ∷ 0 ∷ r.count ∷ [])) (bytes_of_word old bytes (old_record_bytes * e) old_record_bytes (omega (arith, c.exact)))
