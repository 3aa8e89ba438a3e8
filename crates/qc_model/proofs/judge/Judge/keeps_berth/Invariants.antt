use Rattle.std.proofs.Common.{ℕ, ◌<◌}
use Rattle.qc_model.specs.Rules.{KeepsBerth}
use Rattle.qc_model.proofs.judge.Judge.keeps_berth.Given as goal

abbrev pub invariant-loop-number : goal.invariant-loop-number
invariant-loop-number l = (v : ℕ) → v < l.number → KeepsBerth l.self.inst l.self.sched l.task v
