-- How the cranes of a schedule go that they may follow as it is seen, by the room that there is for their waypoints.
use Rattle.std.proofs.Common.{ℕ, List}
use Rattle.qc_freemove.proofs.FreeSafe.{free_safe}
use Rattle.qc_freemove.specs.FreeTracks.{FreeTrackView}
use Rattle.qc_model.specs.declared.direction.Direction.{Direction}
use Rattle.qc_model.specs.declared.direction.Direction.TheVariants.{Up, Down}
use Rattle.qc_model.specs.declared.schedule.Slot.{Slot}
use Rattle.qc_model.specs.declared.turn.Turn.{Turn}
use Rattle.qc_model.specs.declared.turn.Turn.TheVariants as turn
use Rattle.qc_model.specs.Instance.{InstanceView, Valid}
use Rattle.qc_model.specs.Judge.{Goes, IsDirection}
use Rattle.qc_model.proofs.SafeLemmas.{safe_of}
use Rattle.qc_motion.specs.Tracks.{TrackView}
use Rattle.qc_starts.specs.Tight.{IsAllowedSo}
use Rattle.qc_plan_command.specs.declared.answer.Motion.TheVariants as motion
use Rattle.qc_plan_command.specs.declared.room.TrackBuffer.TheVariants as room
use Rattle.qc_plan_command.specs.Found.{MovesSafely}
use Rattle.qc_plan_command.specs.Rooms.{IsRoom}

module _ (inst : InstanceView) (sched : List Slot) (tasks : ℕ) where
  pub free_moves : (t : Turn) (way : Direction) (track : FreeTrackView) → Valid inst → IsAllowedSo t inst sched way
      → IsRoom t tasks (room.Free track) → MovesSafely t inst sched (motion.Free track)
  free_moves turn.OneWay way track valid goes fits = absurd fits
  free_moves turn.Free way track valid goes fits = free_safe inst sched valid.cranes goes.0

  pub one_way_goes : (t : Turn) (way : Direction) (track : TrackView) → IsAllowedSo t inst sched way
      → IsRoom t tasks (room.OneWay track) → Goes inst sched way
  one_way_goes turn.OneWay way track goes fits = goes
  one_way_goes turn.Free way track goes fits = absurd fits

  pub direction_goes : (direction : Direction) → IsDirection inst sched direction → Goes inst sched direction
  direction_goes Up is = is
  direction_goes Down is = is.0

  pub one_way_moves : (t : Turn) (direction : Direction) (track : TrackView) → Valid inst → IsDirection inst sched direction
      → IsRoom t tasks (room.OneWay track) → MovesSafely t inst sched (motion.OneWay direction track)
  one_way_moves turn.OneWay direction track valid is fits =
      (is, safe_of inst sched direction valid (direction_goes direction is))
  one_way_moves turn.Free direction track valid is fits = absurd fits
