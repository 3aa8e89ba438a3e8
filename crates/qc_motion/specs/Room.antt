-- inner: what holds of the fields of a track.
use Rattle.std.specs.Prelude.{◌+◌, ◌*◌, ◌≤◌, vec_capacity}
use Rattle.qc_motion.specs.declared.track.Track.TheInside.{Inside}

-- of each task a crane may turn twice, and of each of eight berths; it starts and ends, and one is spare
abbrev pub HasRoom : Inside → Type 0
HasRoom track = 2 * track.tasks + 19 ≤ vec_capacity track.points
