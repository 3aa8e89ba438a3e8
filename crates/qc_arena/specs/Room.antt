-- inner: what holds of the fields of a trail, so that a note takes no memory.
use Rattle.std.specs.Prelude.{◌≤◌, ◌<◌, ◌^◌, vec_len, vec_capacity}
use Rattle.qc_arena.specs.declared.trail.Trail.TheInside.{Inside}

pub record HasRoom (trail : Inside) : Type 0 where
  pub few : vec_len trail.notes ≤ trail.cap
  pub room : trail.cap ≤ vec_capacity trail.notes
  pub small : trail.cap < 2 ^ 32
