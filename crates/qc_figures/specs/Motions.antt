-- public: where the cranes of a plan stand, whether it goes one way or to and fro.
use Rattle.std.specs.Prelude.{◌≡◌, ℕ, ◌<◌, ℤ, List, [], length, map, slice_index_or, Option, None, Some}
use Rattle.qc_freemove.specs.declared.track.HalfPoint.{HalfPoint}
use Rattle.qc_freemove.specs.FreeMotion.{IsFreePlace}
use Rattle.qc_freemove.specs.HalfLines as half
use Rattle.qc_freemove.specs.HalfPoints.{AreHalfPoints}
use Rattle.qc_gantt.specs.TracksText.{IsTrack}
use Rattle.qc_model.specs.declared.direction.Direction.{Direction}
use Rattle.qc_model.specs.declared.schedule.Slot.{Slot}
use Rattle.qc_model.specs.Instance.{InstanceView}
use Rattle.qc_model.specs.Judge.{IsDirection}
use Rattle.qc_model.specs.Motion.{IsPlace}
use Rattle.qc_model.specs.OneWay.{GoesOneWay}
use Rattle.qc_motion.specs.declared.track.Waypoint.{Waypoint}

-- the way in which a schedule goes; none where it goes to and fro
abbrev pub IsWay : InstanceView → List Slot → Option Direction → Type 0
IsWay inst sched None = ¬ GoesOneWay inst sched
IsWay inst sched (Some way) = IsDirection inst sched way

-- in how many parts a tick is divided by the moments of waypoints, and with them a bay times travel by their places:
-- a crane that goes to and fro may turn in the middle of a tick
abbrev pub parts : Option Direction → ℕ
parts None = 2
parts (Some way) = 1

-- crane k has this place at the moment m / d
abbrev pub HasPlace : InstanceView → List Slot → Option Direction → (k m d : ℕ) → ℤ → Type 0
HasPlace inst sched None k m d x = IsFreePlace inst sched k m d x
HasPlace inst sched (Some way) k m d x = IsPlace inst sched way k m d x

-- a point of a crane that goes to and fro, as a waypoint in halves
abbrev pub of_half : HalfPoint → Waypoint
of_half w = record { at = w.at; place = w.place }

-- these are the points of a crane that goes to and fro, and it moves evenly from one to the next
pub record IsFreeTrack (inst : InstanceView) (sched : List Slot) (k : ℕ) (points : List Waypoint) : Type 0 where
  pub halves : List HalfPoint
  pub points_are : points ≡ map of_half halves
  pub are : AreHalfPoints inst sched k halves
  pub between : half.MovesBetween inst sched k halves

-- these are the waypoints of crane k
abbrev pub IsPath : InstanceView → List Slot → Option Direction → ℕ → List Waypoint → Type 0
IsPath inst sched None k points = IsFreeTrack inst sched k points
IsPath inst sched (Some way) k points = IsTrack inst sched way k points

-- and these those of the first cranes, in order
abbrev pub ArePaths : InstanceView → List Slot → Option Direction → List (List Waypoint) → Type 0
ArePaths inst sched way tracks =
    (k : ℕ) → k < length tracks → IsPath inst sched way k (slice_index_or tracks k [])
