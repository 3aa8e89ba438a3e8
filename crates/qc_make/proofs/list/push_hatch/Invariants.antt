use Rattle.std.proofs.Common.{◌≡◌, ◌++◌, take}
use Rattle.std.specs.List.{flat_map}
use Rattle.qc_tasks.specs.InstanceOf.{phases}
use Rattle.qc_make.specs.Draws.{state_after}
use Rattle.qc_make.specs.MadeList.{phase_rows, row_lines}
use Rattle.qc_make.proofs.list.push_hatch.Given as goal

abbrev pub invariant-loop-phase : goal.invariant-loop-phase
invariant-loop-phase l = record {
  state : l.after ≡ state_after l.fn.state l.phase-index;
  text : l.text.items ≡ l.initial.text.items ++ row_lines (flat_map (phase_rows l.fn.state l.hatch) (take l.phase-index phases));
}
