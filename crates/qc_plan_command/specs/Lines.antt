-- inner: what the calls say that write a plan's report.
use Rattle.std.specs.Prelude.{◌≡◌, ◌≤◌, List, Result, OnOk, OnErr, ⊤}
use Rattle.qc_freemove.specs.FreeTracksText.{WritesFreeTracks}
use Rattle.qc_gantt.specs.TracksText.{WritesTracks}
use Rattle.qc_io.specs.declared.writing.WriteFault.{WriteFault}
use Rattle.qc_io.specs.Outside.{Rose, View, beside}
use Rattle.qc_model.specs.declared.schedule.Slot.{Slot}
use Rattle.qc_model.specs.Instance.{InstanceView}
use Rattle.qc_plan_command.specs.declared.answer.Motion.{Motion}
use Rattle.qc_plan_command.specs.declared.answer.Motion.TheVariants as motion
use Rattle.qc_plan_command.specs.declared.answer.Planned.{Planned}
use Rattle.qc_plan_command.specs.Reports.{IsPlanCut, IsPlanPrinted}

-- the lines of the cranes of a motion
abbrev pub WritesLines : InstanceView → List Slot → Motion → View → View → Result ⊤ WriteFault → Type 0
WritesLines inst sched (motion.OneWay direction track) before after result =
    WritesTracks before after inst sched direction result
WritesLines inst sched (motion.Free track) before after result = WritesFreeTracks before after inst sched result

-- the whole report, or a front part of it where the sink failed
pub record WritesPlan (told : Planned) (before after : View) (result : Result ⊤ WriteFault) : Type 0 where
  pub whole : OnOk result (IsPlanPrinted told before.written after.written)
  pub unfailed : OnOk result (after.faults ≡ before.faults)
  pub part : OnErr result (IsPlanCut told before.written after.written)
  pub rose : OnErr result (Rose before.faults after.faults)
  pub beside_stays : beside after ≡ beside before
  pub never_falls : before.faults ≤ after.faults
