use Rattle.qc_bayplan.proofs.CourseLemmas.{risen}
use Rattle.qc_bayplan.proofs.step.step_by.Goals as goal

pub step_to-requires-clause-counts : goal.step_to-requires-clause-counts
step_to-requires-clause-counts c =
    risen c.args.number c.args.tag c.args.segment.now c.args.course c.in_ok-behind.behind c.requires.counts c.in_ok-behind.ensures
