use Rattle.qc_run.specs.Inputs.{replanning}
use Rattle.qc_rest_command.specs.Stored.{texts_of}
use Rattle.qc_rest_command.proofs.StoreLemmas.{all_made}
use Rattle.qc_rest_command.proofs.storing.store_all.Goals as goal

pub returns-clause-makes : goal.returns-clause-makes
returns-clause-makes g c =
    all_made (replanning c.args.asked.now) (texts_of c.args.told.now c.args.text.now) _ _ _ _ _ _ _
    c.in_ok-store_text.ensures c.in_ok-store_list.ensures.makes c.store_order.ensures.makes
