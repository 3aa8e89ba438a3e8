use Rattle.qc_odds.proofs.EndLemmas.{IsLastOf}
use Rattle.qc_odds.proofs.pass.last_end.Given as goal

abbrev pub invariant-loop-j : goal.invariant-loop-j
invariant-loop-j l = IsLastOf l.lengths l.starts l.j l.last
