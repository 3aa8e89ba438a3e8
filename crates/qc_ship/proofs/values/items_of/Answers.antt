use Rattle.qc_ship.proofs.Items.{elements-items_view}
use Rattle.qc_ship.proofs.values.items_of.Goals as goal

pub returns-in-Some : goal.returns-in-Some
returns-in-Some c = rw (c.as_slice.ensures.value, ← c.in-Some.ensures, elements-items_view)
