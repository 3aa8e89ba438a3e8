use Rattle.std.proofs.Common.{◌<◌}
use Rattle.qc_model.specs.declared.rules.Rule.{Rule}
use Rattle.qc_model.specs.Judge.{rule_rank, KeepsAll}
use Rattle.qc_model.proofs.rules.first_break.Given as goal

abbrev pub invariant-loop-rule : goal.invariant-loop-rule
invariant-loop-rule l = (rule : Rule) → rule_rank rule < l.rule-index → KeepsAll l.judge.inst l.judge.sched rule
