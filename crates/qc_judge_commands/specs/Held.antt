-- public: what an answer tells of a schedule that was judged.
use Rattle.std.specs.Prelude.{◌≡◌, List}
use Rattle.qc_num.specs.declared.bound.Bound.{Bound}
use Rattle.qc_num.specs.declared.bound.Bound.TheVariants.{Least}
use Rattle.qc_model.specs.declared.schedule.Slot.{Slot}
use Rattle.qc_model.specs.Instance.{InstanceView}
use Rattle.qc_model.specs.Judge.{IsDirection}
use Rattle.qc_model.specs.Motion.{IsSafe}
use Rattle.qc_model.specs.OneWay.{GoesOneWay, IsAllowed}
use Rattle.qc_model.specs.Rules.{ends}
use Rattle.qc_judge_commands.specs.declared.answer.Compared.{Compared}
use Rattle.qc_judge_commands.specs.declared.answer.Shown.{Shown}

-- cranes may follow the schedule; its end and the tree's value are told
pub record TellsHeld (inst : InstanceView) (sched : List Slot) (bound : Bound) (told : Compared) : Type 0 where
  pub goes : IsAllowed inst sched
  pub end : told.end ≡ ends inst sched
  pub bound_told : bound ≡ Least told.bound

-- the schedule goes one way and is told, with its direction, in which its motion is safe
pub record TellsShown (inst : InstanceView) (sched : List Slot) (told : Shown) : Type 0 where
  pub goes : GoesOneWay inst sched
  pub inst_told : told.inst ≡ inst
  pub sched_told : told.sched ≡ sched
  pub direction : IsDirection inst sched told.direction
  pub safe : IsSafe inst sched told.direction
