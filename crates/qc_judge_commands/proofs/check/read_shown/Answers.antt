use Rattle.std.proofs.Common.{ap, sym, Err}
use Rattle.qc_run.specs.Due.{instance_due}
use Rattle.qc_run.specs.Inputs.{names_of}
use Rattle.qc_run.proofs.StepLemmas.{instance_early, instance_steady, no_fault_yet, step_stops, step_then}
use Rattle.qc_judge_commands.specs.Shown.{IsNoneShown}
use Rattle.qc_judge_commands.proofs.check.read_shown.Goals as goal

pub returns-in_err-inst-clause-none : goal.returns-in_err-inst-clause-none
returns-in_err-inst-clause-none g c = λ fault is.
    let e = rw is at c.from_residual.ensures.1 in
    no_fault_yet instance_due instance_early (names_of c.args.inputs.now) (g.S.Sink.view c.args.shelf.now) (g.S.Sink.view c.read_instance.new.shelf)
    _ c.in_err-inst.ensures.step.err fault (ap Err (sym e)) (λ held. IsNoneShown (names_of c.args.inputs.now) held)

pub returns-in_err-inst-clause-step : goal.returns-in_err-inst-clause-step
returns-in_err-inst-clause-step g c =
    step_stops _ _ _ c.in_err-inst.ensures.step c.from_residual.ensures.1

pub returns-clause-step : goal.returns-clause-step
returns-clause-step g c = step_then _ _ _ instance_steady c.in_ok-inst.ensures.step c.read_tree.ensures.step
