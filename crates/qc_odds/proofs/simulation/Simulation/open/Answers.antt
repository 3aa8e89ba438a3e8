use Rattle.std.proofs.Common.{◌∙◌}
use Rattle.qc_odds.proofs.SimulatedLemmas.{simulated_none}
use Rattle.qc_odds.proofs.simulation.Simulation.open.Goals as goal

pub returns : goal.returns
returns c = λ past seed.
    simulated_none past c.args.inst.now c.args.plan.now seed c.args.runs c.in_ok-course.course c.in-Ok-open.lists c.in-Ok.odds c.in_ok-course.ensures.inst
    c.in_ok-course.ensures.plan (c.in-Ok-open.ensures.lengths ∙ c.task_count.ensures.count) (c.in-Ok-open.ensures.marked ∙ c.task_count.ensures.count)
    c.in-Ok.ensures
