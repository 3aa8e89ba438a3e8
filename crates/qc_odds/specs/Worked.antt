-- inner: a plan as it is worked in a run.
use Rattle.std.specs.Prelude.{◌≡◌, ℕ, List, length}
use Rattle.qc_dispatch.specs.Marks.{AreMarks}
use Rattle.qc_model.specs.declared.schedule.Slot.{Slot}
use Rattle.qc_model.specs.Instance.{InstanceView}
use Rattle.qc_model.specs.Rules.{Feasible}
use Rattle.qc_odds.specs.Lengths.{AreLengths}
use Rattle.qc_odds.specs.Moments.{AreSoon}
use Rattle.qc_odds.specs.declared.run.Run.TheInside.{Inside}

-- a plan, how long each of its tasks takes in a run, and when it starts
pub record RunView : Type 0 where
  pub inst : InstanceView
  pub plan : List Slot
  pub lengths : List ℕ
  pub starts : List ℕ

abbrev pub run_of : Inside → RunView
run_of f = record { inst = f.inst.now; plan = f.slots.now; lengths = f.lengths.now; starts = f.starts.now }

-- the plan is feasible, and the marks are its; each task takes a tick at least, and none starts too late
pub record IsWorked (f : Inside) : Type 0 where
  pub feasible : Feasible f.inst.now f.slots.now
  pub marks_are : AreMarks f.inst.now f.slots.now f.marks.now
  pub lengths_are : AreLengths f.inst.now f.lengths.now
  pub starts_count : length f.starts.now ≡ length f.inst.now.tasks
  pub soon : AreSoon f.starts.now
