use Rattle.qc_run.specs.Inputs.{replanning}
use Rattle.qc_rest_command.proofs.StoreLemmas.{renewed_on}
use Rattle.qc_rest_command.proofs.command.serve.Goals as goal

pub returns-in-Ok-clause-serves : goal.returns-in-Ok-clause-serves
returns-in-Ok-clause-serves g c =
    renewed_on (replanning c.args.asked.now) (g.S.Sink.view c.args.shelf.now) (g.S.Sink.view c.read_worked.new.shelf) (g.S.Sink.view c.renew.new.shelf)
    c.in-Ok-Worked.worked (rw c.in-Ok-Worked.field-0-is at c.in-Ok-Worked.ensures) c.in-Ok.answer c.in-Ok.ensures.writes c.in-Ok.ensures.read_faults
