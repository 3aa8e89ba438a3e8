use Rattle.std.proofs.Common.{◌≡◌, length}
use Rattle.qc_stow.specs.Columns.{without_blanks}
use Rattle.qc_stow.proofs.columns.without_blanks.Given as goal

-- only blanks were passed over
abbrev pub invariant-loop-rest : goal.invariant-loop-rest
invariant-loop-rest l = without_blanks l.field ≡ without_blanks l.text

abbrev pub decreases-loop-rest : goal.decreases-loop-rest
decreases-loop-rest l = length l.text
