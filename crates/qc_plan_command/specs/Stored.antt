-- inner: what a search came to whose tree and plan are written.
use Rattle.std.specs.Prelude.{IfSome, Ok}
use Rattle.qc_io.specs.Outside.{View}
use Rattle.qc_model.specs.Instance.{InstanceView}
use Rattle.qc_model.specs.Judge.{IsJudgeable}
use Rattle.qc_search.specs.Run.{DoneView}
use Rattle.qc_starts.specs.Tight.{IsAllowedSo, IsTight}
use Rattle.qc_search.specs.Outcome.{IsReread}
use Rattle.qc_tree.specs.Trees.{NoneEarlier}
use Rattle.qc_plan_command.specs.declared.answer.PlanAnswer.{PlanAnswer}
use Rattle.qc_plan_command.specs.declared.answer.PlanAnswer.TheVariants as answer
use Rattle.qc_plan_command.specs.Account.{IsPlanning}
use Rattle.qc_run.specs.Inputs.{Planning}
use Rattle.qc_plan_command.specs.Found.{Tells}

-- what is known of what the search came to; any answer that tells of it is one that the command may give
pub record IsStored (asked : Planning) (before after : View) (inst : InstanceView) (done : DoneView) : Type 0 where
  pub none_earlier : NoneEarlier inst done.bound
  pub judgeable : IfSome done.best (IsJudgeable inst)
  pub tight : IfSome done.best (IsTight inst)
  pub goes : IfSome done.best (λ sched. IsAllowedSo inst.turn inst sched done.way)
  pub reread : IfSome done.best (IsReread inst)
  pub told : (a : PlanAnswer) → Tells inst done a → IsPlanning asked before after (Ok a)

-- it came to a write that failed
abbrev pub IsCut : Planning → View → View → Type 0
IsCut asked before after = IsPlanning asked before after (Ok answer.WriteFault)
