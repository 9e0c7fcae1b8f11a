-- What the sets tell of the events of the marking that they stand for. Assumes nothing.
use Rattle.std.specs.Prelude.{◌≡◌, Bool, ◌&&◌, List, ℕ, ◌<◌, get_or}
use Rattle.std.proofs.Math.Path.{ap}
use Rattle.std.proofs.Common.{sym, subst}
use Rattle.std.proofs.Math.Bool.{not}
use Rattle.rules.specs.declared.Record.{Record}
use Rattle.rules.specs.declared.Marking.{Marking}
use Rattle.rules.specs.EventSet.{has}
use Rattle.rules.specs.Holds.{record_of}
use Rattle.acts.specs.Stands.{record_in, Stands}
use Rattle.acts.specs.Laws.Stands.{stands_at}

-- an event that is included and never happened; one that is included and pending; one that is bounded pending, included or not
abbrev pub is_missing : Marking → ℕ → Bool
is_missing m x = (record_of m x).included && not (record_of m x).happened

abbrev pub is_waiting : Marking → ℕ → Bool
is_waiting m x = (record_of m x).included && (record_of m x).pending

abbrev pub is_owed : Marking → ℕ → Bool
is_owed m x = (record_of m x).pending && (record_of m x).bounded

-- the words of so many events, by another name for the count
pub stands_of : {n k : ℕ} {tail : List Record} {clock : ℕ} {sets columns : List ℕ} {m : Marking} → n ≡ k
    → Stands n tail clock sets columns m → Stands k tail clock sets columns m
stands_of {tail = tail} {clock} {sets} {columns} {m} e stands = subst (λ (n : ℕ). Stands n tail clock sets columns m) e stands

module _ (n : ℕ) (tail : List Record) (clock : ℕ) (sets columns : List ℕ) (m : Marking) (stands : Stands n tail clock sets columns m) (x : ℕ) (b : x < n) where
  here : record_in clock sets columns x ≡ record_of m x
  here = sym (stands_at n tail clock sets columns m stands x b)

  pub included_told : has (get_or sets 1 0) x ≡ (record_of m x).included
  unfolding record_in
  included_told = ap (λ (r : Record). r.included) here

  pub missing_told : (has (get_or sets 1 0) x && not (has (get_or sets 0 0) x)) ≡ is_missing m x
  unfolding record_in
  missing_told = ap (λ (r : Record). r.included && not r.happened) here

  pub waiting_told : (has (get_or sets 1 0) x && has (get_or sets 2 0) x) ≡ is_waiting m x
  unfolding record_in
  waiting_told = ap (λ (r : Record). r.included && r.pending) here

  pub owed_told : (has (get_or sets 2 0) x && has (get_or sets 3 0) x) ≡ is_owed m x
  unfolding record_in
  owed_told = ap (λ (r : Record). r.pending && r.bounded) here
