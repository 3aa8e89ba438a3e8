use Rattle.std.proofs.Common.{◌≡◌, map}
use Rattle.std.specs.List.{range_with_len}
use Rattle.qc_dispatch.specs.Course.{is_waiting, stage_of}
use Rattle.qc_rest.proofs.gone.left_marks.Given as goal

abbrev pub invariant-loop-task : goal.invariant-loop-task
invariant-loop-task l = l.left.items ≡ map (λ j. is_waiting (stage_of l.work j)) (range_with_len 0 l.task)
