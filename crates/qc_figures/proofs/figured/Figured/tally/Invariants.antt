use Rattle.qc_figures.specs.Tallies.{IsTally}
use Rattle.qc_figures.specs.Views.{view_of}
use Rattle.qc_figures.proofs.figured.Figured.tally.Given as goal

-- the tasks so far
abbrev pub invariant-loop-task : goal.invariant-loop-task
invariant-loop-task l = IsTally (view_of l.self) l.crane l.task l.tally
