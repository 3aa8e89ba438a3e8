use Rattle.std.proofs.Common.{◌≡◌}
use Rattle.qc_edifact.specs.Cuts.{piece_of}
use Rattle.qc_edifact.proofs.signs.Signs.piece.Given as goal

-- the piece is one of what is left
abbrev pub invariant-loop-left : goal.invariant-loop-left
invariant-loop-left l = piece_of l.self l.sign l.text l.number ≡ piece_of l.self l.sign l.rest l.left

abbrev pub decreases-loop-left : goal.decreases-loop-left
decreases-loop-left l = l.left
