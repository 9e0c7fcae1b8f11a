-- A refusal leaves the output; else the whole input is heard, and what was told is what is written.
use Rattle.std.proofs.Common.{rules, sym}
use Rattle.rules.proofs.Laws.Station.{heard_granted}
use Rattle.engine.specs.Laws.Hearing.{station_refused, station_done}
use Rattle.engine.proofs.station.Goals as goal

pub returns-in_err-granted : goal.returns-in_err-granted
returns-in_err-granted c =
    let told =
    station_refused c.args.input.now c.args.beyond c.args.output.now c.in_err-granted.field-0.0 (search rules) c.in_err-granted.ensures in record {
      number = told.0;
      count = told.1.0;
      output = told.1.1;
    }

pub told-requires : goal.told-requires
told-requires c =
    let granted = heard_granted _ _ _ (sym c.in_ok-granted.ensures) in record { room = granted.0; enough = granted.1 }

pub returns : goal.returns
returns c =
    let told = station_done c.args.input.now c.args.beyond c.args.output.now c.in_ok-granted.ensures c.told.ensures in record {
      number = c.in_ok-granted.ensures;
      count = told.0;
      output = told.1;
    }
