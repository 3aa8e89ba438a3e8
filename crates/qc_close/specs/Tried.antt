-- inner: what code tries by a tick.
use Rattle.std.specs.Prelude.{ℕ}
use Rattle.qc_model.specs.Closed.{Try}
use Rattle.qc_close.specs.Counts.{try_by}
use Rattle.qc_close.specs.declared.count.Count.{Count}

abbrev pub tried : Count → ℕ → Try
tried c tick = try_by c.travel tick c.frames.now c.left.now
