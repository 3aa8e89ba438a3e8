use Rattle.std.proofs.Common.{slice_index_or}
use Rattle.qc_dispatch.specs.declared.stage.Stage.TheVariants.{Waiting}
use Rattle.qc_dispatch.specs.Course.{end_in}
use Rattle.qc_dispatch.specs.Waits.{IsNext, open_start}
use Rattle.qc_dispatch.proofs.leader.first_open.Given as goal

abbrev pub invariant-loop-i : goal.invariant-loop-i
invariant-loop-i l = IsNext (open_start l.marks (λ i. end_in (slice_index_or l.stages i Waiting)) l.slots l.task) l.i l.first
