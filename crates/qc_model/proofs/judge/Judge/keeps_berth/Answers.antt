use Rattle.std.proofs.Common.{refl, arith}
use Rattle.qc_model.proofs.judge.Judge.keeps_berth.Goals as goal

pub returns : goal.returns
returns c = (λ t v h. c.loop-number.invariant v (omega arith), λ _. refl)
