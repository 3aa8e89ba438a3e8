-- public: what the files of a work sheet come to, with the order of refusals.
use Rattle.std.specs.Prelude.{Result, Ok}
use Rattle.qc_num.specs.Reading.{◌>>=◌}
use Rattle.qc_run.specs.declared.inputs.Input.TheVariants as input
use Rattle.qc_run.specs.declared.refusal.Refusal.{Refusal}
use Rattle.qc_run.specs.Due.{Contents, moves_due, order_due, schedule_due, ship_due}
use Rattle.qc_sheet_command.specs.declared.load.Cargo.{Cargo}
use Rattle.qc_sheet_command.specs.declared.load.Load.{Load}

-- the ship, the moves and their instance, or the first refusal: first of the ship file, then of the stowage list, then
-- of the order that both come to
abbrev pub cargo_due : Contents → Result Cargo Refusal
cargo_due contents = do
  ship ← ship_due contents
  rows ← moves_due ship contents
  inst ← order_due ship rows
  Ok (record { ship = ship; moves = rows; inst = inst })

-- these and the schedule, or the first refusal: the plan's file comes last
abbrev pub load_due : Contents → Result Load Refusal
load_due contents = do
  cargo ← cargo_due contents
  sched ← schedule_due input.Plan cargo.inst contents
  Ok (record { cargo = cargo; sched = sched })
