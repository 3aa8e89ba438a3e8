use Rattle.qc_rest.specs.Limits.{view_of}
use Rattle.qc_rest.proofs.PlacingLemmas.{IsUpperFor}
use Rattle.qc_rest.proofs.places.Outlook.upper.Given as goal

abbrev pub invariant-loop-j : goal.invariant-loop-j
invariant-loop-j l = IsUpperFor (view_of l.self) l.k l.j l.upper
