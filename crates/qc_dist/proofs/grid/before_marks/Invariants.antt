use Rattle.std.proofs.Common.{length}
use Rattle.qc_dist.specs.Tables.{IsGrid}
use Rattle.qc_dist.proofs.BeforeMarks.{among}
use Rattle.qc_dist.proofs.grid.before_marks.Given as goal

abbrev pub invariant-loop-pair : goal.invariant-loop-pair
invariant-loop-pair l =
    IsGrid (among l.inst.before l.pair-index) (length l.inst.tasks) l.marks.items
