-- public: the crane lines of a schedule that goes one way: where each crane stands, by its waypoints.
use Rattle.std.specs.Prelude.{ℕ, List, Result, ⊤}
use Rattle.qc_io.specs.declared.writing.WriteFault.{WriteFault}
use Rattle.qc_io.specs.Outside.{View}
use Rattle.qc_model.specs.declared.crane.Crane.{Crane}
use Rattle.qc_model.specs.declared.direction.Direction.{Direction}
use Rattle.qc_model.specs.declared.schedule.Slot.{Slot}
use Rattle.qc_model.specs.Instance.{InstanceView}
use Rattle.qc_motion.specs.declared.track.Waypoint.{Waypoint}
use Rattle.qc_motion.specs.CraneLines.{AreOfFirst, WritesCranes, crane_lines, waypoint_text}
use Rattle.qc_motion.specs.Waypoints.{AreWaypoints, MovesBetween}

-- the lines of cranes with these waypoints
abbrev pub tracks_text : List Crane → List (List Waypoint) → List ℕ
tracks_text cranes tracks = crane_lines waypoint_text cranes tracks

-- these are the waypoints of the crane, and it moves evenly from one to the next
pub record IsTrack (inst : InstanceView) (sched : List Slot) (way : Direction) (k : ℕ)
    (points : List Waypoint) : Type 0 where
  pub waypoints : AreWaypoints inst sched way k points
  pub between : MovesBetween inst sched way k points

-- the tracks are those of the first cranes, in order
abbrev pub AreTracks : InstanceView → List Slot → Direction → List (List Waypoint) → Type 0
AreTracks inst sched way tracks = AreOfFirst (IsTrack inst sched way) inst.cranes tracks

-- what a call says that writes the crane lines
abbrev pub WritesTracks : View → View → InstanceView → List Slot → Direction → Result ⊤ WriteFault → Type 0
WritesTracks before after inst sched way result =
    WritesCranes waypoint_text (IsTrack inst sched way) inst.cranes before after result
