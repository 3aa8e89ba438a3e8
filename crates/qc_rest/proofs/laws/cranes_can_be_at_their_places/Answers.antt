use Rattle.qc_rest.proofs.PlaceLemmas.{can_be, in_order}
use Rattle.qc_rest.proofs.laws.cranes_can_be_at_their_places.Goals as goal

pub returns : goal.returns
returns c = record { can_be = can_be; in_order = in_order }
