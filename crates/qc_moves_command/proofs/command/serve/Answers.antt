use Rattle.std.proofs.Common.{◌∙◌, refl}
use Rattle.qc_run.specs.Inputs.{moving}
use Rattle.qc_moves_command.proofs.StoreLemmas.{found_behind, over_read}
use Rattle.qc_moves_command.proofs.command.serve.Goals as goal

pub store_found-answer-requires : goal.store_found-answer-requires
store_found-answer-requires g c =
    let view = g.S.Sink.view in
    let step = c.in_ok-plans.ensures in
    record {
      are = found_behind (moving c.args.asked.now) (view c.args.shelf.now) (view c.read_bay_plans.new.shelf) step.files
          c.in_ok-plans.plans step.ok.1 c.in_ok-found.found.changes c.in_ok-found.ensures.between;
      changes = refl;
      told = c.in_ok-found.ensures.told;
    }

pub returns-clause-serves : goal.returns-clause-serves
returns-clause-serves g c =
    let view = g.S.Sink.view in
    let step = c.in_ok-plans.ensures in (
      over_read (moving c.args.asked.now) (view c.args.shelf.now) (view c.read_bay_plans.new.shelf) step.files
          (view c.store_found-answer.new.shelf) step.faults c.store_found-answer.result c.store_found-answer.ensures.writes,
      c.store_found-answer.ensures.read_faults ∙ step.ok.0,
    )
