-- inner: what some tasks of a crane come to.
use Rattle.std.specs.Prelude.{◌≡◌, ℕ, ◌*◌, ◌≤◌}
use Rattle.qc_model.specs.Instance.{ticks_of, task}
use Rattle.qc_model.specs.Numbers.{most_end, most_work}
use Rattle.qc_stow.specs.Moves.{most_moves}
use Rattle.qc_figures.specs.declared.tally.Tally.{Tally}
use Rattle.qc_figures.specs.Figures.{PlanView, last_end_of, moves_in, together}

-- what the tasks below n that crane k does come to
pub record IsTally (p : PlanView) (k n : ℕ) (tally : Tally) : Type 0 where
  pub tasks : tally.tasks ≡ together p.sched k (λ j. 1) n
  pub moves : tally.moves ≡ together p.sched k (λ j. moves_in p.rows (task p.inst j)) n
  pub work : tally.work ≡ together p.sched k (ticks_of p.inst) n
  pub end : tally.end ≡ last_end_of p k n
  pub few_tasks : tally.tasks ≤ n
  pub few_moves : tally.moves ≤ most_moves * n
  pub short : tally.work ≤ most_work * n
  pub soon : tally.end ≤ most_end
