use Rattle.std.proofs.Common.{is_none, length}
use Rattle.qc_model.specs.Assignments.{crane_in}
use Rattle.qc_close.proofs.OwnLemmas.{OwnTo}
use Rattle.qc_close.proofs.frames.left_tasks.Given as goal

abbrev pub invariant-loop-done : goal.invariant-loop-done
invariant-loop-done l = OwnTo l.inst (λ j. is_none (crane_in l.cranes j)) (length l.inst.tasks) l.done l.left
