-- Reading comes first, then the room.
use Rattle.std.proofs.Common.{refl, arith}
use Rattle.std.proofs.lemmas.Grind.{common_steps}
use Rattle.rules.specs.declared.refusal.Refusal.TheVariants.{Room}
use Rattle.rules.specs.declared.verdict.CheckError.TheVariants.{Refused}
use Rattle.rules.specs.Images.{table_of, marking_of, images_number, guard_number}
use Rattle.duty.proofs.guarding.guarded_tick.Goals as goal

pub returns-in_err-t-clause-early : goal.returns-in_err-t-clause-early
unfolding guard_number images_number
returns-in_err-t-clause-early c = grind (arith, common_steps)

pub returns-in_err-t-clause-ticked : goal.returns-in_err-t-clause-ticked
unfolding guard_number images_number
returns-in_err-t-clause-ticked c = grind (arith, common_steps)

pub returns-in_err-m-clause-early : goal.returns-in_err-m-clause-early
unfolding guard_number images_number table_of
returns-in_err-m-clause-early c = grind (arith, common_steps)

pub returns-in_err-m-clause-ticked : goal.returns-in_err-m-clause-ticked
unfolding guard_number images_number table_of
returns-in_err-m-clause-ticked c = grind (arith, common_steps)

pub returns-then-room-t-clause-early : goal.returns-then-room-t-clause-early
unfolding guard_number images_number table_of
returns-then-room-t-clause-early c = λ away. record {
  refusal = Room;
  numbered = grind (arith, common_steps);
  error = Refused Room;
  made = refl;
  is = refl;
}

pub returns-then-room-t-clause-ticked : goal.returns-then-room-t-clause-ticked
unfolding guard_number images_number table_of
returns-then-room-t-clause-ticked c = grind (arith, common_steps)

pub returns-clause-early : goal.returns-clause-early
unfolding guard_number images_number table_of
returns-clause-early c = grind (arith, common_steps)

pub returns-clause-ticked : goal.returns-clause-ticked
unfolding guard_number images_number table_of marking_of
returns-clause-ticked c = grind (arith, common_steps)
