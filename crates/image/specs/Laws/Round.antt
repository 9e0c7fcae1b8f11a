-- A marking that is made of judged records is judged 'done', and the images of markings go round both ways. Assumes nothing.
use Rattle.std.specs.Prelude.{◌≡◌, refl, true, List, [], ℕ, ◌+◌, ◌-◌, ◌*◌, ◌<◌, eqb, length, get_or, take, drop, replicate}
use Rattle.std.proofs.Common.{sym, ap₂, ◌∙◌, append-nil, le_of_eq, zero-add, arith, take_all}
use Rattle.std.proofs.Math.Path.{ap}
use Rattle.std.proofs.Math.Bool.{not}
use borrow.Author.Tests.{eq-eqb, eqb-true, not-false}
use Rattle.std.proofs.Math.ListN.{get_or-append}
use Rattle.rules.specs.declared.Record.{Record}
use Rattle.rules.specs.declared.Marking.{Marking}
use Rattle.rules.specs.Counting.{places}
use Rattle.rules.specs.Numbers.{◌if◌}
use Rattle.rules.specs.Holds.{most_events, record_of, empty_record}
use Rattle.rules.specs.Fields.{field, bytes_of}
use Rattle.rules.specs.Judge.{events_fit, record_number, marking_number, marking_number_for}
use Rattle.rules.specs.Image.{record_bytes, record_at, record_bit, event_image, marking_image, marking_from, marking_image_number, read_marking}
use Rattle.rules.proofs.Laws.Counting.{length_places, places_at}
use Rattle.rules.proofs.Laws.Numbers.{if_done, both_done, first_each, first_done}
use Rattle.rules.proofs.Laws.Fields.{bytes_of_word}
use Rattle.rules.proofs.Laws.Pieces.{piece_word, pieces_whole}
use Rattle.rules.proofs.Laws.Written.{records_sized, image_length}
use Rattle.image.specs.Packed.{whole_of_record}
use Rattle.image.specs.Laws.Packed.{image_word, room, whole_fits, record_back, whole_read}
use Rattle.image.specs.Laws.Parts.{record_done}

module _ (events : ℕ) (f : ℕ → Record) where
  pub record_from : (e : ℕ) → e < events → record_of (marking_from events f) e ≡ f e
  record_from e l =
      get_or-append (places events f) (replicate (most_events - events) empty_record) empty_record e (rw (length_places f events) l)
      ∙ places_at f events e empty_record l

  module _ (fit : events_fit events ≡ true) (done : (e : ℕ) → e < events → record_number (f e) ≡ 0) where
    pub from_done : marking_number (marking_from events f) ≡ 0
    unfolding marking_number
    from_done =
        rw fit (first_done (λ e. record_number (record_of (marking_from events f) e)) events (λ e l. ap record_number (record_from e l) ∙ done e l))

    pub from_done_for : marking_number_for events (marking_from events f) ≡ 0
    unfolding marking_number_for
    from_done_for = rw (fit, eq-eqb events events refl) from_done

-- what an image that is read says
pub record Readable (events : ℕ) (image : List ℕ) : Type 0 where
  pub fit : events_fit events ≡ true
  pub exact : length image ≡ record_bytes * events
  pub done : (e : ℕ) → e < events → record_number (record_at image (record_bit e)) ≡ 0

module _ (events : ℕ) (image : List ℕ) where
  pub readable : marking_image_number events image ≡ 0 → Readable events image
  unfolding marking_image_number
  readable h =
      let p = both_done (3 if not (events_fit events)) _ h in
      let q = both_done (1 if not (eqb (length image) (record_bytes * events))) _ p.1 in
      record {
        fit = not-false _ (if_done 2 _ p.0);
        exact = eqb-true (length image) (record_bytes * events) (not-false _ (if_done 0 _ q.0));
        done = λ e l. first_each (λ x. record_number (record_at image (record_bit x))) events e q.1 l;
      }

  pub readable_number : Readable events image → marking_image_number events image ≡ 0
  unfolding marking_image_number
  readable_number r =
      rw (r.fit, eq-eqb (length image) (record_bytes * events) r.exact) (first_done (λ x. record_number (record_at image (record_bit x))) events r.done)

  pub reads_as : marking_image_number events image ≡ 0
      → read_marking events image ≡ record { number = 0; marking = marking_from events (λ e. record_at image (record_bit e)) }
  unfolding read_marking
  reads_as h = rw h

  -- the image of what is read is the image
  pub images_back : Readable events image → ((i : ℕ) → get_or image i 0 < 256) → marking_image (marking_from events (λ e. record_at image (record_bit e))) ≡ image
  images_back r bytes =
      pieces_whole (records_sized m) image 0 events part ∙ take_all (record_bytes * events) image (le_of_eq r.exact)
    where
      m : Marking
      m = marking_from events (λ e. record_at image (record_bit e))

      part : (e : ℕ) → e < events → event_image m e ≡ take record_bytes (drop (0 + record_bytes * e) image)
      part e l =
          image_word (record_of m e)
          ∙ ap (λ (k : Record). bytes_of record_bytes (whole_of_record k)) (record_from events (λ x. record_at image (record_bit x)) e l)
          ∙ ap (bytes_of record_bytes) (whole_read image (record_bit e))
          ∙ bytes_of_word image bytes (record_bytes * e) record_bytes (omega (arith, r.exact))
          ∙ ap (λ (k : ℕ). take record_bytes (drop k image)) (sym (zero-add (record_bytes * e)))

-- the image of a marking that is judged 'done' is read as its records
module _ (m : Marking) (judged : marking_number m ≡ 0) where
  pub record_again : (e : ℕ) → e < m.events → record_at (marking_image m) (record_bit e) ≡ record_of m e
  record_again e l =
      let r = record_of m e in
      let small = room r (record_done m judged e l) in
      record_back (marking_image m) (record_bit e) r small
      (ap₂ (λ (s : List ℕ) (k : ℕ). field s (8 * k) 96) (sym (append-nil (marking_image m))) (sym (zero-add (record_bytes * e)))
      ∙ piece_word (records_sized m) [] [] 0 m.events e (whole_of_record r) refl l (image_word r) (whole_fits r small))

  pub image_readable : Readable m.events (marking_image m)
  unfolding marking_number
  image_readable = record {
    fit = not-false _ (if_done 2 _ (both_done (3 if not (events_fit m.events)) _ judged).0);
    exact = image_length m;
    done = λ e l. ap record_number (record_again e l) ∙ record_done m judged e l;
  }
