use Rattle.std.proofs.Common.{◌≡◌, length}
use Rattle.qc_bayplan.specs.Places.{past_blanks}
use Rattle.qc_bayplan.proofs.text.past_blanks.Given as goal

-- only blanks were passed
abbrev pub invariant-loop-first : goal.invariant-loop-first
invariant-loop-first l = past_blanks l.text ≡ past_blanks l.rest

abbrev pub decreases-loop-first : goal.decreases-loop-first
decreases-loop-first l = length l.rest
