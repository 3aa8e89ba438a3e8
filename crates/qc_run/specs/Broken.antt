-- public: what is told of a plan that breaks a rule.
use Rattle.std.specs.Prelude.{◌≡◌, ℕ, List, ◌++◌, codes}
use Rattle.qc_model.specs.declared.rules.Break.{Break}
use Rattle.qc_model.specs.declared.rules.Rule.{Rule}
use Rattle.qc_model.specs.declared.rules.Rule.TheVariants as rule
use Rattle.qc_model.specs.declared.schedule.Slot.{Slot}
use Rattle.qc_model.specs.declared.turn.Turn.{Turn}
use Rattle.qc_model.specs.declared.turn.Turn.TheVariants.{OneWay, Free}
use Rattle.qc_model.specs.Instance.{InstanceView, task}
use Rattle.qc_model.specs.Judge.{IsFirstBreak, rule_text}
use Rattle.qc_model.specs.OneWay.{IsAllowedBy}
use Rattle.qc_model.specs.Tasks.{task_text}
use Rattle.qc_run.specs.declared.broken.Broken.{Broken}

-- cranes with this turn may not follow the schedule, and this is the first rule that it breaks on the way up
pub record IsBrokenBy (turn : Turn) (inst : InstanceView) (sched : List Slot) (broken : Break) : Type 0 where
  pub not_allowed : ¬ IsAllowedBy turn inst sched
  pub first : IsFirstBreak inst sched broken

-- that is told, with the names of the tasks
pub record TellsBreakBy (turn : Turn) (inst : InstanceView) (sched : List Slot) (told : Broken) : Type 0 where
  pub broken : Break
  pub is : IsBrokenBy turn inst sched broken
  pub rule_told : told.rule ≡ broken.rule
  pub first_told : told.first ≡ task_text (task inst broken.first)
  pub second_told : told.second ≡ task_text (task inst broken.second)

-- the schedule goes neither way, and its first break is told
abbrev pub TellsBreak : InstanceView → List Slot → Broken → Type 0
TellsBreak = TellsBreakBy OneWay

-- the schedule isn't feasible: it breaks a rule other than that of one way, and the first one is told
abbrev pub TellsRule : InstanceView → List Slot → Broken → Type 0
TellsRule = TellsBreakBy Free

-- the names of the task or of the two tasks at which a rule is broken
abbrev pub tasks_named : Rule → List ℕ → List ℕ → List ℕ
tasks_named rule.Reach first second = first
tasks_named rule.Ready first second = first
tasks_named rule.Travel first second = first ++ codes " " ++ second
tasks_named rule.Before first second = first ++ codes " " ++ second
tasks_named rule.Apart first second = first ++ codes " " ++ second
tasks_named rule.Margin first second = first ++ codes " " ++ second
tasks_named rule.Berth first second = first
tasks_named rule.OneWay first second = first ++ codes " " ++ second

-- what is printed for a plan that breaks a rule
abbrev pub broken_text : Broken → List ℕ
broken_text told =
    codes "Broken " ++ rule_text told.rule ++ codes " " ++ tasks_named told.rule told.first told.second
    ++ codes "\n"
