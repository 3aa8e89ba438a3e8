-- inner: what is known ahead of a search, or is to be searched.
use Rattle.std.specs.Prelude.{◌≡◌, IfSome}
use Rattle.qc_model.specs.declared.turn.Turn.TheVariants as turn
use Rattle.qc_model.specs.Instance.{InstanceView, with_turn}
use Rattle.qc_model.specs.Judge.{IsJudgeable}
use Rattle.qc_starts.specs.Tight.{IsSeenSo}
use Rattle.qc_sweep.specs.declared.going.Going.{Going}
use Rattle.qc_sweep.specs.Plans.{IsFirstPlan}
use Rattle.qc_plan_command.specs.declared.ahead.InitialPlan.{InitialPlan}
use Rattle.qc_plan_command.specs.declared.ahead.InitialPlan.TheVariants as ahead

-- the schedule can be judged, and cranes may follow it as it is seen
pub record IsGoing (inst : InstanceView) (going : Going) : Type 0 where
  pub judgeable : IsJudgeable inst going.sched
  pub seen : IsSeenSo inst.turn inst going.sched going.way

-- it is for this instance
abbrev pub IsInitialPlan : InstanceView → InitialPlan → Type 0
IsInitialPlan inst (ahead.Swept found) = (inst.turn ≡ turn.OneWay) × IfSome found (IsFirstPlan inst)
IsInitialPlan inst (ahead.OneWay search) = (inst.turn ≡ turn.Free) × (search.inst ≡ with_turn inst turn.OneWay)
