use Rattle.std.proofs.Common.{◌≡◌, ◌+◌, [], length}
use Rattle.qc_bayplan.specs.Courses.{beginning}
use Rattle.qc_bayplan.specs.Reading.{plan_from}
use Rattle.qc_bayplan.specs.Taken.{HasCounts, IsKept}
use Rattle.qc_bayplan.proofs.reader.read_segments.Given as goal

-- the plan is that of what is still to come, and the containers so far are apart
abbrev pub invariant-loop-entry : goal.invariant-loop-entry
invariant-loop-entry l = record {
  plan : plan_from l.which 1 beginning [] l.fn.segments ≡ plan_from l.which l.number l.course l.containers.items l.entry-iterator;
  counts : HasCounts l.number l.course;
  kept : IsKept l.containers.items l.taken;
  number : l.number + length l.entry-iterator ≡ 1 + length l.fn.segments;
}
