use Rattle.std.proofs.Common.{ℕ, ◌<◌, length}
use Rattle.qc_model.specs.Judged.{KeepsBeside}
use Rattle.qc_model.proofs.judge.Judge.first_fault.Given as goal

abbrev pub invariant-loop-first : goal.invariant-loop-first
invariant-loop-first l = (i : ℕ) → i < l.first → KeepsBeside l.self l.rule i (length l.self.inst.tasks)
