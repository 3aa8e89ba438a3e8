-- public: what an answer tells of a search.
use Rattle.std.specs.Prelude.{◌≡◌, ℕ, ◌≤◌, List, None, Some}
use Rattle.qc_num.specs.declared.bound.Bound.TheVariants.{Least, Never}
use Rattle.qc_freemove.specs.FreeMotion.{IsFreeSafe}
use Rattle.qc_model.specs.declared.schedule.Slot.{Slot}
use Rattle.qc_model.specs.declared.turn.Turn.{Turn}
use Rattle.qc_model.specs.declared.turn.Turn.TheVariants as turn
use Rattle.qc_model.specs.Instance.{InstanceView, Valid}
use Rattle.qc_model.specs.Judge.{IsDirection}
use Rattle.qc_model.specs.Motion.{IsSafe}
use Rattle.qc_model.specs.OneWay.{IsAllowed}
use Rattle.qc_model.specs.Rules.{ends}
use Rattle.qc_search.specs.Run.{DoneView, IsTightEnd}
use Rattle.qc_search.specs.Outcome.{IsReread}
use Rattle.qc_tree.specs.Trees.{NoneEarlier}
use Rattle.qc_plan_command.specs.declared.answer.Motion.{Motion}
use Rattle.qc_plan_command.specs.declared.answer.Motion.TheVariants as motion
use Rattle.qc_plan_command.specs.declared.answer.Planned.{Planned}
use Rattle.qc_plan_command.specs.declared.answer.PlanAnswer.{PlanAnswer}
use Rattle.qc_plan_command.specs.declared.answer.PlanAnswer.TheVariants as answer

-- the end is no later than that of the tight form of a schedule
pub record IsByTightEnd (inst : InstanceView) (end : ℕ) (sched : List Slot) : Type 0 where
  pub tight_end : ℕ
  pub tight : IsTightEnd inst sched tight_end
  pub by : end ≤ tight_end

-- the motion of a schedule is told by the turn of its cranes, and is safe: where they go one way in its direction, and
-- else as that of a feasible schedule
abbrev pub MovesSafely : Turn → InstanceView → List Slot → Motion → Type 0
MovesSafely turn.OneWay inst sched (motion.OneWay direction track) =
    IsDirection inst sched direction × IsSafe inst sched direction
MovesSafely turn.OneWay inst sched (motion.Free track) = ⊥
MovesSafely turn.Free inst sched (motion.OneWay direction track) = ⊥
MovesSafely turn.Free inst sched (motion.Free track) = IsFreeSafe inst sched

-- the best schedule is told, its end, the bound, the number of branchings, the end of the schedule that the
-- search began with, if any, and the best schedule's motion, which is safe; its plan is read as this schedule
pub record TellsPlan (inst : InstanceView) (done : DoneView) (told : Planned) : Type 0 where
  pub sched : List Slot
  pub best : done.best ≡ Some sched
  pub inst_told : told.inst ≡ inst
  pub sched_told : told.sched ≡ sched
  pub kind_told : told.kind ≡ done.kind
  pub end : told.end ≡ ends inst sched
  pub bound : done.bound ≡ Least told.bound
  pub branched : told.branched ≡ done.branched
  pub given : told.given ≡ done.given
  pub safe : MovesSafely inst.turn inst sched told.motion
  pub reread : IsReread inst sched

-- what is told of a plan holds by itself, over a shelf that tells nothing too: its instance is valid, cranes may follow its
-- schedule, with this turn, it ends then, and its motion is safe; none that they may follow ends before the bound
pub record IsSoundPlan (asked : Turn) (told : Planned) : Type 0 where
  pub valid : Valid told.inst
  pub turn_told : told.inst.turn ≡ asked
  pub allowed : IsAllowed told.inst told.sched
  pub end : told.end ≡ ends told.inst told.sched
  pub safe : MovesSafely asked told.inst told.sched told.motion
  pub none_earlier : NoneEarlier told.inst (Least told.bound)
  pub by : told.bound ≤ told.end

abbrev pub IsSoundAnswer : Turn → PlanAnswer → Type 0
IsSoundAnswer asked (answer.Planned told) = IsSoundPlan asked told
IsSoundAnswer asked _ = Unit {0}

-- what an answer tells of a search
abbrev pub Tells : InstanceView → DoneView → PlanAnswer → Type 0
Tells inst done answer.WriteFault = ⊥
Tells inst done (answer.Broken told) = ⊥
Tells inst done (answer.Planned told) = TellsPlan inst done told
Tells inst done (answer.Unplanned bound branched) =
    (done.best ≡ None) × (done.bound ≡ Least bound) × (branched ≡ done.branched)
Tells inst done (answer.Infeasible branched) =
    (done.best ≡ None) × (done.bound ≡ Never) × (branched ≡ done.branched)
