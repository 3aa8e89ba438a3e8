-- public: what contracts see of a track.
use Rattle.std.specs.Prelude.{ℕ, List}
use Rattle.qc_motion.specs.declared.track.Waypoint.{Waypoint}

-- waypoints, and of how many tasks a schedule may be whose waypoints find room
pub record TrackView : Type 0 where
  pub points : List Waypoint
  pub tasks : ℕ
