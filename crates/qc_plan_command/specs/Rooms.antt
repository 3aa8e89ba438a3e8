-- inner: room for the waypoints of a plan's cranes.
use Rattle.std.specs.Prelude.{ℕ, ◌≤◌}
use Rattle.qc_model.specs.declared.turn.Turn.{Turn}
use Rattle.qc_model.specs.declared.turn.Turn.TheVariants as turn
use Rattle.qc_plan_command.specs.declared.room.TrackBuffer.{TrackBuffer}
use Rattle.qc_plan_command.specs.declared.room.TrackBuffer.TheVariants as room

-- there is room for each crane of a schedule of so many tasks, whose cranes go this way
abbrev pub IsRoom : Turn → (tasks : ℕ) → TrackBuffer → Type 0
IsRoom turn.OneWay tasks (room.OneWay track) = tasks ≤ track.tasks
IsRoom turn.OneWay tasks (room.Free track) = ⊥
IsRoom turn.Free tasks (room.OneWay track) = ⊥
IsRoom turn.Free tasks (room.Free track) = tasks ≤ track.tasks
