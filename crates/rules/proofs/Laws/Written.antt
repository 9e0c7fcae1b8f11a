-- The pieces of a table's and of a marking's image have one length each. Writing: the number and the buffer afterwards, one law for each way that
-- it ends. Assumes nothing.
use Rattle.std.specs.Prelude.{◌≡◌, List, ◌++◌, ℕ, zero, suc, ◌*◌, ◌<◌, ◌≤◌, ltb, length, drop}
use Rattle.std.proofs.Common.{◌∙◌, lt_of_lt_of_le, arith, lt-ltb, le-ltb, ne_eqb, length-append, drop_at}
use Rattle.rules.specs.declared.Table.{Table}
use Rattle.rules.specs.declared.Marking.{Marking}
use Rattle.rules.specs.Numbers.{◌if◌, ◌else◌, done}
use Rattle.rules.specs.Holds.{relation_of}
use Rattle.rules.specs.Pieces.{pieces}
use Rattle.rules.specs.Judge.{table_number, marking_number}
use Rattle.rules.specs.Image.{header_image, class_image, relation_image, place_image, table_image, table_length, write_table_number, write_table, ImageHolds}
use Rattle.rules.specs.Image.{record_bytes, record_image, event_image, marking_image, write_number, write_marking}
use Rattle.rules.proofs.Laws.Numbers.{else_refused}
use Rattle.rules.proofs.Laws.Fields.{length_bytes}
use Rattle.rules.proofs.Laws.Pieces.{Sized, pieces_length}
use Rattle.rules.proofs.Laws.Judge.{good_table}
use Rattle.rules.proofs.Laws.Granted.{time_fits_lem}

-- its own number first, then 14, over what is written
module _ (own needed room : ℕ) where
  refused_first : (own ≡ 0 → ⊥) → (own else 14 if ltb room needed) ≡ own
  refused_first h = else_refused _ h

  refused_short : own ≡ 0 → room < needed → (own else 14 if ltb room needed) ≡ 14
  refused_short e l = rw (e, lt-ltb room needed l)

  room_enough : own ≡ 0 → needed ≤ room → (own else 14 if ltb room needed) ≡ 0
  room_enough e l = rw (e, le-ltb room needed l)

-- an image is written to a buffer's start, or refused: later bytes stay
pub later_kept : (number : ℕ) (image buffer : List ℕ) {long : ℕ} → length image ≡ long
    → drop long (done number (image ++ drop long buffer) buffer) ≡ drop long buffer
later_kept zero image buffer {long = long} e = drop_at image (drop long buffer) long e
later_kept (suc number) image buffer e = rw (ne_eqb (suc number) 0 (λ z. omega (arith, z)))

module _ (t : Table) where
  pub classes_sized : Sized (class_image t) 1
  unfolding class_image
  classes_sized = record { each = λ e. length_bytes 1 _ }

  pub places_sized : Sized (place_image t) 6
  unfolding relation_image
  places_sized = record { each = λ k. length_bytes 6 _ }

  pub header_length : length (header_image t) ≡ 4
  unfolding header_image
  header_length = length_bytes 4 _

  pub table_image_length : length (table_image t) ≡ table_length t.events t.count
  table_image_length =
      length-append (header_image t ++ pieces (class_image t) 0 t.events) (pieces (place_image t) 0 t.count)
      ∙ omega (
        arith,
        length-append (header_image t) (pieces (class_image t) 0 t.events),
        header_length,
        pieces_length classes_sized 0 t.events,
        pieces_length
            places_sized 0 t.count,
      )

  pub table_number_refused : (room : ℕ) → (table_number t ≡ 0 → ⊥) → write_table_number t room ≡ table_number t
  unfolding write_table_number
  table_number_refused room h = refused_first (table_number t) _ room h

  pub table_number_short : (room : ℕ) → table_number t ≡ 0 → room < table_length t.events t.count → write_table_number t room ≡ 14
  unfolding write_table_number
  table_number_short room e l = refused_short (table_number t) _ room e l

  pub table_number_done : (room : ℕ) → table_number t ≡ 0 → table_length t.events t.count ≤ room → write_table_number t room ≡ 0
  unfolding write_table_number
  table_number_done room e l = room_enough (table_number t) _ room e l

  -- a refusal leaves every byte
  pub table_bytes_kept : (buffer : List ℕ) → (write_table_number t (length buffer) ≡ 0 → ⊥) → write_table t buffer ≡ buffer
  unfolding write_table
  table_bytes_kept buffer h = rw (ne_eqb _ 0 h)

  pub table_bytes_written : (buffer : List ℕ) → write_table_number t (length buffer) ≡ 0
      → write_table t buffer ≡ table_image t ++ drop (table_length t.events t.count) buffer
  unfolding write_table
  table_bytes_written buffer e = rw e

  -- what is judged 'done', an image can hold
  pub table_held : table_number t ≡ 0 → ImageHolds t
  table_held e =
      let g = good_table t e in
      record {
        events_fit_lem = omega (arith, g.few_events);
        count_fits = omega (arith, g.few_relations);
        relations_fit_lem = λ k b.
            let r = g.relations_good k b in
            record {
              kind_fits = omega (arith, r.kind_small);
              left_fits = omega (arith, lt_of_lt_of_le r.left_exists g.few_events);
              right_fits = omega (arith, lt_of_lt_of_le r.right_exists g.few_events);
              time_fits_lem = omega (arith, time_fits_lem (relation_of t k) r.fits);
            };
      }

module _ (m : Marking) where
  pub records_sized : Sized (event_image m) record_bytes
  unfolding record_image
  records_sized = record { each = λ e. length_bytes record_bytes _ }

  pub image_length : length (marking_image m) ≡ record_bytes * m.events
  image_length = pieces_length records_sized 0 m.events

  pub number_refused : (room : ℕ) → (marking_number m ≡ 0 → ⊥) → write_number m room ≡ marking_number m
  unfolding write_number
  number_refused room h = refused_first (marking_number m) _ room h

  pub number_short : (room : ℕ) → marking_number m ≡ 0 → room < record_bytes * m.events → write_number m room ≡ 14
  unfolding write_number
  number_short room e l = refused_short (marking_number m) _ room e l

  pub number_done : (room : ℕ) → marking_number m ≡ 0 → record_bytes * m.events ≤ room → write_number m room ≡ 0
  unfolding write_number
  number_done room e l = room_enough (marking_number m) _ room e l

  -- a refusal leaves every byte
  pub bytes_kept : (buffer : List ℕ) → (write_number m (length buffer) ≡ 0 → ⊥) → write_marking m buffer ≡ buffer
  unfolding write_marking
  bytes_kept buffer h = rw (ne_eqb _ 0 h)

  pub bytes_written : (buffer : List ℕ) → write_number m (length buffer) ≡ 0
      → write_marking m buffer ≡ marking_image m ++ drop (record_bytes * m.events) buffer
  unfolding write_marking
  bytes_written buffer e = rw e
