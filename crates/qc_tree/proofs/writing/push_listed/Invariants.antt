use Rattle.std.proofs.Common.{◌≡◌, ◌≤◌, ◌+◌, ◌*◌, ◌++◌, take, length}
use Rattle.qc_tree.specs.Lines.{fields}
use Rattle.qc_tree.proofs.writing.push_listed.Given as goal

abbrev pub invariant-loop-task : goal.invariant-loop-task
invariant-loop-task l = record {
  so_far : l.text ≡ l.word ++ fields (take l.task-index l.tasks);
  short : length l.text ≤ 1 + 5 * l.task-index;
}
