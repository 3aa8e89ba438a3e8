use Rattle.qc_model.specs.Judge.{IsJudgeable}
use Rattle.qc_sweep.proofs.schedule.written.Given as goal

abbrev pub invariant-loop-task : goal.invariant-loop-task
invariant-loop-task l = IsJudgeable l.inst l.schedule
