use Rattle.qc_odds.proofs.PassLemmas.{IsPassed}
use Rattle.qc_odds.proofs.pass.work.Given as goal

abbrev pub invariant-loop-at : goal.invariant-loop-at
invariant-loop-at l = IsPassed l.inst l.slots l.turns l.lengths l.at l.starts
