-- What fits: a number of events is no more than the most; a record's state and its count each by itself. Assumes nothing.
use Rattle.std.specs.Prelude.{◌≡◌, Bool, true, false, ◌&&◌, cond, ℕ, ◌+◌, ◌≤◌, min, eqb, leb}
use Rattle.std.proofs.Math.Nat.{min-le_right}
use Rattle.std.proofs.Common.{arith, leb-true, le-leb, eqb-true}
use Rattle.rules.specs.declared.Record.{Record}
use Rattle.rules.specs.Holds.{count_limit, most_events}
use Rattle.rules.specs.Judge.{events_fit, state_fits, count_fits_lem, record_fits}
use Rattle.rules.proofs.Laws.Tests.{both, join}

pub fit_few : (n : ℕ) → events_fit n ≡ true → n ≤ most_events
fit_few n h = leb-true n most_events (both (leb 1 n) (leb n most_events) h).1

pub fits_parts : (r : Record) → record_fits r ≡ true → (state_fits r ≡ true) × (count_fits_lem r ≡ true)
unfolding record_fits
fits_parts r h = both (state_fits r) (count_fits_lem r) h

pub fits_both : (r : Record) → state_fits r ≡ true → count_fits_lem r ≡ true → record_fits r ≡ true
unfolding record_fits
fits_both r state count = join state count

-- a count that fits is at most its limit
pub count_small : (r : Record) → count_fits_lem r ≡ true → r.count ≤ count_limit
unfolding count_fits_lem
count_small r h = go r.happened h
  where
    go : (b : Bool) → cond b (leb 1 r.count && leb r.count count_limit) (eqb r.count 0) ≡ true → r.count ≤ count_limit
    go true p = leb-true r.count count_limit (both (leb 1 r.count) (leb r.count count_limit) p).1
    go false p = omega (arith, eqb-true r.count 0 p)

-- one more, held at the limit, is the count of an event that has happened
pub counted_fits : (n : ℕ) → leb 1 (min (n + 1) count_limit) && leb (min (n + 1) count_limit) count_limit ≡ true
counted_fits n = join (le-leb 1 (min (n + 1) count_limit) (omega arith)) (le-leb (min (n + 1) count_limit) count_limit (min-le_right (n + 1) count_limit))
