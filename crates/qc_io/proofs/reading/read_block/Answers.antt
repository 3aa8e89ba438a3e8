use Rattle.std.proofs.Common.{ℕ, arith}
use Rattle.std.proofs.Math.ListN.{length-take}
use Rattle.qc_io.proofs.Pieces.{takes_more}
use Rattle.qc_io.proofs.reading.read_block.Goals as goal

pub returns-then-count-left-clause-taken : goal.returns-then-count-left-clause-taken
returns-then-count-left-clause-taken g c =
    takes_more _ _ _ _ _ c.in_ok-count.ensures.moved (omega (arith, length-take {A = ℕ}, c.in_ok-count.ensures.at_most))

pub returns-in_err-extend_from_slice-clause-taken : goal.returns-in_err-extend_from_slice-clause-taken
returns-in_err-extend_from_slice-clause-taken g c =
    takes_more _ _ _ _ _ c.in_ok-count.ensures.moved (omega (arith, length-take {A = ℕ}, c.in_ok-count.ensures.at_most))
