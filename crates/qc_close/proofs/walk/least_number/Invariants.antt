use Rattle.std.proofs.Common.{ℕ, ◌<◌, get_or}
use Rattle.qc_close.proofs.walk.least_number.Given as goal

abbrev pub invariant-loop-number : goal.invariant-loop-number
invariant-loop-number l = (n : ℕ) → n < l.number → get_or l.sums n 0 < l.load
