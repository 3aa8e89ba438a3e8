use Rattle.std.proofs.Common.{◌<◌, ℕ, List}
use Rattle.qc_rest.specs.Fit.{IsFit}
use Rattle.qc_rest.specs.Limits.{outlook_of, place_at}
use Rattle.qc_rest.proofs.rest.first_unfit.Given as goal

abbrev pub invariant-loop-k : goal.invariant-loop-k
invariant-loop-k l = (goes : List ℕ) (k : ℕ) → k < l.k → IsFit (outlook_of l.journal l.stands goes) (place_at l.places) k
