use Rattle.std.proofs.Common.{◌≡◌, map}
use Rattle.std.specs.List.{range_with_len}
use Rattle.qc_rest.specs.Going.{first_go}
use Rattle.qc_rest.specs.Passed.{most_first}
use Rattle.qc_rest.specs.Passing.{StartBy}
use Rattle.qc_rest.proofs.gone.first_goes.Given as goal

abbrev pub invariant-loop-task : goal.invariant-loop-task
invariant-loop-task l = record {
  items : l.firsts.items ≡ map (first_go l.journal.dispatch) (range_with_len 0 l.task);
  soon : StartBy l.firsts.items most_first;
}
