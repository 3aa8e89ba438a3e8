use Rattle.std.proofs.Common.{◌≡◌, length, reverse}
use Rattle.qc_bayplan.specs.Places.{past_blanks}
use Rattle.qc_bayplan.proofs.text.up_to_blanks.Given as goal

-- only blanks were passed
abbrev pub invariant-loop-last : goal.invariant-loop-last
invariant-loop-last l = reverse (past_blanks (reverse l.text)) ≡ reverse (past_blanks (reverse l.rest))

abbrev pub decreases-loop-last : goal.decreases-loop-last
decreases-loop-last l = length l.rest
