use Rattle.std.proofs.Common.{ℕ}
use Rattle.std.specs.Int.{IsGcd}
use Rattle.qc_num.proofs.ticks.gcd.Given as goal

abbrev pub invariant-loop-small : goal.invariant-loop-small
invariant-loop-small l = (g : ℕ) → IsGcd l.great l.small g → IsGcd l.fn.one l.fn.other g

abbrev pub decreases-loop-small : goal.decreases-loop-small
decreases-loop-small l = l.small
