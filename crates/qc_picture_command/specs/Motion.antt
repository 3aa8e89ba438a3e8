-- inner: what is known of a plan whose drawing or figures are to be printed.
use Rattle.std.specs.Prelude.{◌≡◌}
use Rattle.qc_run.specs.Broken.{TellsRule}
use Rattle.qc_sheet_command.specs.declared.load.Load.{Load}
use Rattle.qc_sheet_command.specs.Listed.{IsLoad}
use Rattle.qc_picture_command.specs.declared.answer.Motion.{Motion}
use Rattle.qc_picture_command.specs.declared.answer.Motion.TheVariants as motion
use Rattle.qc_picture_command.specs.declared.answer.Planned.{Planned}
use Rattle.qc_picture_command.specs.Planned.{IsPlanned}

-- the schedule is feasible, with its waypoints
pub record IsMoved (load : Load) (told : Planned) : Type 0 where
  pub load_told : told.load ≡ load
  pub planned : IsPlanned load told.way told.tracks

abbrev pub TellsMotion : Load → Motion → Type 0
TellsMotion load (motion.Broken told) = TellsRule load.cargo.inst load.sched told
TellsMotion load (motion.Planned told) = IsMoved load told

pub record IsPrintable (told : Planned) : Type 0 where
  pub load : IsLoad told.load
  pub planned : IsPlanned told.load told.way told.tracks

abbrev pub CanBePrinted : Motion → Type 0
CanBePrinted (motion.Broken told) = Unit {0}
CanBePrinted (motion.Planned told) = IsPrintable told
