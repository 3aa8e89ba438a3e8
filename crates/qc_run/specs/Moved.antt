-- public: what a call says that writes a text and the motion of every crane behind it.
use Rattle.std.specs.Prelude.{◌≡◌, ℕ, List, ◌++◌, length, Result, OnOk, ⊤}
use Rattle.qc_gantt.specs.TracksText.{AreTracks, tracks_text}
use Rattle.qc_io.specs.declared.writing.WriteFault.{WriteFault}
use Rattle.qc_io.specs.Outside.{View}
use Rattle.qc_io.specs.Writes.{Writes}
use Rattle.qc_model.specs.declared.direction.Direction.{Direction}
use Rattle.qc_model.specs.declared.schedule.Slot.{Slot}
use Rattle.qc_model.specs.Instance.{InstanceView}
use Rattle.qc_motion.specs.declared.track.Waypoint.{Waypoint}

-- the text and the lines of all cranes where the call came through, and else those of the first ones, the last cut
pub record WritesMoved (before after : View) (head : List ℕ) (inst : InstanceView) (sched : List Slot)
    (way : Direction) (result : Result ⊤ WriteFault) : Type 0 where
  pub tracks : List (List Waypoint)
  pub are : AreTracks inst sched way tracks
  pub all : OnOk result (length tracks ≡ length inst.cranes)
  pub writes : Writes before after (head ++ tracks_text inst.cranes tracks) result
