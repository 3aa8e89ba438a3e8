use Rattle.qc_run.specs.Inputs.{replanning}
use Rattle.qc_rest_command.proofs.StoreLemmas.{none_told}
use Rattle.qc_rest_command.proofs.command.renew.Goals as goal

pub returns-in-Err-NoRest-clause-writes : goal.returns-in-Err-NoRest-clause-writes
returns-in-Err-NoRest-clause-writes g c =
    none_told (replanning c.args.asked.now) (g.S.Sink.view c.args.shelf.now) c.args.worked c.in-Err-NoRest.told c.requires
    (rw c.in-Err-NoRest.field-0-is at c.in-Err-NoRest.ensures.none)
