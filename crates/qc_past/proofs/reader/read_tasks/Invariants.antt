use Rattle.std.proofs.Common.{◌≡◌, ◌≤◌, [], length, map, All}
use Rattle.csv.specs.Records.{fields_of}
use Rattle.qc_num.specs.Reading.{each}
use Rattle.qc_past.specs.Past.{IsPastTask, most_past}
use Rattle.qc_past.specs.PastFile.{next_task}
use Rattle.qc_past.proofs.reader.read_tasks.Given as goal

-- the whole reading is this one from here on, and the tasks so far are past tasks
abbrev pub invariant-loop-fields : goal.invariant-loop-fields
invariant-loop-fields l = record {
  all : each next_task [] (map fields_of l.records) ≡ each next_task l.tasks.items (map fields_of l.rest);
  ranges : All IsPastTask l.tasks.items;
  few : length l.tasks.items ≤ most_past;
}

abbrev pub decreases-loop-fields : goal.decreases-loop-fields
decreases-loop-fields l = length l.rest
