use Rattle.std.proofs.Common.{◌≡◌, map}
use Rattle.std.specs.List.{range_with_len}
use Rattle.qc_dispatch.specs.Following.{journal_of}
use Rattle.qc_rest.specs.Going.{first_end}
use Rattle.qc_rest.specs.Passed.{most_first}
use Rattle.qc_rest.specs.Passing.{EndBy}
use Rattle.qc_rest.proofs.gone.first_ends.Given as goal

abbrev pub invariant-loop-task : goal.invariant-loop-task
invariant-loop-task l = record {
  items : l.ends.items ≡ map (first_end (journal_of l.journal)) (range_with_len 0 l.task);
  soon : EndBy l.ends.items most_first;
}
