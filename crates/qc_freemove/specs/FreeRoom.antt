-- inner: what holds of the fields of a track.
use Rattle.std.specs.Prelude.{◌+◌, ◌*◌, ◌≤◌, vec_capacity}
use Rattle.qc_freemove.specs.declared.track.FreeTrack.TheInside.{Inside}

-- each task and each of eight berths may turn a crane four times; and four more
abbrev pub HasRoom : Inside → Type 0
HasRoom track = 4 * track.tasks + 36 ≤ vec_capacity track.points
