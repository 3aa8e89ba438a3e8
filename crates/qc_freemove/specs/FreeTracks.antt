-- public: what contracts see of a track.
use Rattle.std.specs.Prelude.{ℕ, List}
use Rattle.qc_freemove.specs.declared.track.HalfPoint.{HalfPoint}

-- points, and of how many tasks a schedule may be whose points find room
pub record FreeTrackView : Type 0 where
  pub points : List HalfPoint
  pub tasks : ℕ
