use Rattle.qc_dispatch.proofs.OneWayLemmas.{not_both}
use Rattle.qc_dispatch.proofs.laws.followed_logs_have_no_fault.Goals as goal

pub returns : goal.returns
returns c = not_both
