-- inner: what is known of each task before the old order goes on.
use Rattle.std.specs.Prelude.{ℕ, max, if◌then◌else◌, Option, None, Some}
use Rattle.qc_dispatch.specs.Course.{Course, is_waiting, stage_of}
use Rattle.qc_dispatch.specs.Journal.{Journal}
use Rattle.qc_dispatch.specs.Order.{free_of}
use Rattle.qc_rest.specs.Remaining.{over_at}

-- from when on task j may start, whatever leads it
abbrev pub first_go : Course → ℕ → ℕ
first_go c j = max c.clock (free_of c.inst c.plan j)

-- when it is over, if it has begun
abbrev pub first_end : Journal → ℕ → Option ℕ
first_end j i = if is_waiting (stage_of j.course i) then None else Some (over_at j i)
