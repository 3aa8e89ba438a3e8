use Rattle.qc_dispatch.specs.Following.{journal_of}
use Rattle.qc_rest_command.proofs.NoRestLemmas.{running_inside}
use Rattle.qc_rest_command.proofs.command.rest_by.Goals as goal

pub returns-in-Ok-clause-inside : goal.returns-in-Ok-clause-inside
returns-in-Ok-clause-inside c =
    running_inside (journal_of c.args.worked.now.followed) c.now-now.ensures.plan.1 c.in-Ok.rest.running.items c.in-Ok.ensures.rest.running
