use Rattle.std.proofs.Common.{◌≡◌, ◌<◌, ℕ, get_or}
use Rattle.qc_odds.proofs.pass.clear.Given as goal

abbrev pub invariant-loop-start : goal.invariant-loop-start
invariant-loop-start l = (k : ℕ) → k < l.start-index → get_or l.starts k 0 ≡ 0
