-- public: what is printed for a tree and for a plan that was judged.
use Rattle.std.specs.Prelude.{ℕ, nat_le, if◌then◌else◌, List, ◌++◌, codes, decimal}
use Rattle.qc_num.specs.declared.bound.Bound.{Bound}
use Rattle.qc_num.specs.declared.bound.Bound.TheVariants.{Least, Never}
use Rattle.qc_model.specs.declared.direction.Direction.{Direction}
use Rattle.qc_model.specs.declared.schedule.Slot.{Slot}
use Rattle.qc_model.specs.Instance.{InstanceView}
use Rattle.qc_model.specs.Rules.{ends}
use Rattle.qc_run.specs.declared.status.Status.{Status}
use Rattle.qc_run.specs.declared.status.Status.TheVariants as status
use Rattle.qc_run.specs.Broken.{broken_text}
use Rattle.qc_run.specs.Texts.{direction_text}
use Rattle.qc_judge_commands.specs.declared.answer.Compared.{Compared}
use Rattle.qc_judge_commands.specs.declared.answer.Judged.{Judged}
use Rattle.qc_judge_commands.specs.declared.answer.Judged.TheVariants as judged

-- what is printed of a tree's value, and the status of a check that reads no plan
abbrev pub bound_text : Bound → List ℕ
bound_text (Least end) = codes "Bound " ++ decimal end ++ codes "\n"
bound_text Never = codes "Infeasible\n"

abbrev pub bound_status : Bound → Status
bound_status (Least end) = status.Done
bound_status Never = status.Infeasible

-- a plan that holds is a best one where its end is at most the tree's value
abbrev pub compared_status : Compared → Status
compared_status told = if nat_le told.end told.bound then status.Optimal else status.Weaker

abbrev pub compared_word : Compared → List ℕ
compared_word told = if nat_le told.end told.bound then codes "Optimal" else codes "Weaker"

-- what is printed for a plan that holds
abbrev pub compared_text : Compared → List ℕ
compared_text told =
    compared_word told ++ codes "\nend " ++ decimal told.end ++ codes "\nbound " ++ decimal told.bound
    ++ codes "\n"

-- what is printed for a check of a plan, and its status
abbrev pub judged_text : Judged → List ℕ
judged_text (judged.Broken told) = broken_text told
judged_text (judged.Compared told) = compared_text told

abbrev pub judged_status : Judged → Status
judged_status (judged.Broken told) = status.Broken
judged_status (judged.Compared told) = compared_status told

-- what is printed ahead of a plan's motion
abbrev pub head_text : Direction → ℕ → List ℕ
head_text way end = codes "direction " ++ direction_text way ++ codes "\nend " ++ decimal end ++ codes "\n"

abbrev pub shown_head : InstanceView → List Slot → Direction → List ℕ
shown_head inst sched way = head_text way (ends inst sched)
