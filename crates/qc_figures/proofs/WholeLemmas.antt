-- The figures of a crane make up all ticks.
use Rattle.std.proofs.Common.{◌≡◌, ℕ, ◌*◌, ◌/◌, ◌<◌, ◌≤◌, Option, None, Some, List, length, arith}
use Rattle.qc_model.specs.declared.direction.Direction.{Direction}
use Rattle.qc_model.specs.declared.schedule.Slot.{Slot}
use Rattle.qc_model.specs.Instance.{InstanceView, Valid}
use Rattle.qc_model.specs.Judge.{IsJudgeable}
use Rattle.qc_model.specs.Rules.{Feasible, ends}
use Rattle.qc_motion.specs.declared.track.Waypoint.{Waypoint}
use Rattle.qc_figures.specs.Figures.{PlanView, done_at, ready_at, time_moving, track}
use Rattle.qc_figures.specs.Motions.{IsPath, IsWay, parts}
use Rattle.qc_figures.specs.Whole.{IsWhole}
use Rattle.qc_figures.proofs.EvenLemmas.{halves_even}
use Rattle.qc_figures.proofs.TimeLemmas.{ticks_whole, till_by}

way_whole : (inst : InstanceView) (sched : List Slot) (way : Option Direction) (k : ℕ) (points : List Waypoint) → Valid inst
    → k < length inst.cranes → IsPath inst sched way k points → (f t : ℕ) → f ≤ t → t ≤ ends inst sched
    → parts way * (time_moving points (parts way * f) (parts way * t) / parts way)
    ≡ time_moving points (parts way * f) (parts way * t)
way_whole inst sched None k points valid low is f t order early = halves_even inst sched k points valid low is f t order early
way_whole inst sched (Some way) k points valid low is f t order early = alone (time_moving points (1 * f) (1 * t))
  where
    alone : (n : ℕ) → 1 * (n / 1) ≡ n
    alone n = omega arith

pub whole : (p : PlanView) (k : ℕ) → Valid p.inst → IsJudgeable p.inst p.sched → Feasible p.inst p.sched
    → IsWay p.inst p.sched p.way → k < length p.inst.cranes → IsPath p.inst p.sched p.way k (track p k) → IsWhole p k
whole p k valid judgeable feasible way low is = record {
  moving = way_whole p.inst p.sched p.way k (track p k) valid low is (ready_at p k) (done_at p k) (omega arith)
      (till_by p k valid judgeable feasible way low is);
  ticks = ticks_whole p k valid judgeable feasible way low is;
}
