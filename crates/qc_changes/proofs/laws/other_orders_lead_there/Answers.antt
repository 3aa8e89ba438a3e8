use Rattle.qc_changes.proofs.AheadLemmas.{leads_in_order}
use Rattle.qc_changes.proofs.laws.other_orders_lead_there.Goals as goal

pub returns : goal.returns
returns c = λ first second lifted rows told a b are m is. leads_in_order first second lifted rows a b are m told is
