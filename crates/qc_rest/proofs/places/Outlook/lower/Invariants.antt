use Rattle.qc_rest.specs.Limits.{place_at, view_of}
use Rattle.qc_rest.proofs.PlacingLemmas.{IsLowerFor}
use Rattle.qc_rest.proofs.places.Outlook.lower.Given as goal

abbrev pub invariant-loop-j : goal.invariant-loop-j
invariant-loop-j l = IsLowerFor (view_of l.self) (place_at l.tops) l.k l.j l.lower
