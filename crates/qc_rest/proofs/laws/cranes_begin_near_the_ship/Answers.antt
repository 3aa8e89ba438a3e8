use Rattle.qc_rest.proofs.RangeLemmas.{places_above, places_below}
use Rattle.qc_rest.proofs.laws.cranes_begin_near_the_ship.Goals as goal

pub returns : goal.returns
returns c = record { up = places_below; down = places_above }
