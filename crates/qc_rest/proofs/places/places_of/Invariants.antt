use Rattle.qc_rest.specs.Limits.{outlook_of, place_at}
use Rattle.qc_rest.proofs.PlacingLemmas.{ArePlacesFor}
use Rattle.qc_rest.proofs.places.places_of.Given as goal

abbrev pub invariant-loop-k : goal.invariant-loop-k
invariant-loop-k l = ArePlacesFor (outlook_of l.journal l.stands l.goes) (place_at l.tops) l.k l.places
