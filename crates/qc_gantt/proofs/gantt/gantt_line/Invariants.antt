use Rattle.std.proofs.Common.{◌≡◌, ◌+◌, ◌*◌, ◌/◌, ◌++◌, length, map}
use Rattle.std.specs.List.{range_with_len}
use Rattle.qc_model.specs.Rules.{ends}
use Rattle.qc_gantt.specs.GanttText.{mark}
use Rattle.qc_gantt.proofs.gantt.gantt_line.Given as goal

-- so many marks stand behind the first bar
abbrev pub invariant-loop-place : goal.invariant-loop-place
invariant-loop-place l = record {
  marks : l.line
      ≡ l.initial.line ++ map (λ c. mark l.inst l.sched l.crane (c * ends l.inst l.sched / 60)) (range_with_len 0 l.place);
  length : length l.line ≡ 13 + l.place;
}
