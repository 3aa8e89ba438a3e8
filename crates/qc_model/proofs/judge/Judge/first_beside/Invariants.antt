use Rattle.qc_model.specs.Judged.{KeepsBeside}
use Rattle.qc_model.proofs.judge.Judge.first_beside.Given as goal

abbrev pub invariant-loop-second : goal.invariant-loop-second
invariant-loop-second l = KeepsBeside l.self l.rule l.first l.second
