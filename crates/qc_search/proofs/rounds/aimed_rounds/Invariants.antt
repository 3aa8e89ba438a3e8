use Rattle.std.proofs.Common.{◌≡◌, ◌≤◌, Option}
use Rattle.qc_io.specs.Outside.{Files}
use Rattle.qc_search.specs.declared.progress.Progress.{Progress}
use Rattle.qc_search.specs.Course.{IsCourse}
use Rattle.qc_search.specs.Progress.{IsBegun}
use Rattle.qc_search.proofs.rounds.aimed_rounds.Given as goal

abbrev pub invariant-loop : goal.invariant-loop
invariant-loop g l = record {
  same : l.roots ≡ l.fn.roots;
  begun : IsBegun l.fn.roots l.progress;
  low : l.course.left ≤ l.fn.first.left;
  comes : (start : Progress) (before : Option Files)
      → IsCourse l.fn.roots start l.name before l.fn.progress (g.S.Sink.view l.fn.shelf).files l.fn.first
      → IsCourse l.fn.roots start l.name before l.progress (g.S.Sink.view l.shelf).files l.course;
  faults : (g.S.Sink.view l.shelf).faults ≡ (g.S.Sink.view l.fn.shelf).faults;
  read_faults : (g.S.Sink.view l.shelf).read_faults ≡ (g.S.Sink.view l.fn.shelf).read_faults;
}
