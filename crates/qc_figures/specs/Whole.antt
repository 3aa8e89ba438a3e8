-- public: the figures of a crane make up all ticks of the plan.
use Rattle.std.specs.Prelude.{◌≡◌, ℕ, ◌+◌, ◌*◌}
use Rattle.qc_figures.specs.Figures.{PlanView, figures, plan_end, way_parts}
use Rattle.qc_figures.specs.Motions.{parts}

pub record IsWhole (p : PlanView) (k : ℕ) : Type 0 where
  -- the crane goes for a whole number of ticks, so that none is lost where the figure is told
  pub moving : parts p.way * (figures p k).moving ≡ way_parts p k
  -- the ticks until the crane is ready, of its work, of its way, of waiting, and behind its last end are all from 0 to
  -- the end
  pub ticks :
      (figures p k).not_ready + (figures p k).work + (figures p k).moving + (figures p k).waiting + (figures p k).idle
      ≡ plan_end p
