use Rattle.std.proofs.Common.{◌≡◌, [], length}
use Rattle.qc_num.specs.Reading.{each}
use Rattle.qc_lines.specs.Lines.{lines_of}
use Rattle.qc_watch.specs.Log.{next_entry}
use Rattle.qc_watch.proofs.reader.read_lines.Given as goal

-- the whole reading is this one from here on
abbrev pub invariant-loop-rest : goal.invariant-loop-rest
invariant-loop-rest l = each (next_entry l.ship) [] (lines_of l.text) ≡ each (next_entry l.ship) l.log (lines_of l.rest)

abbrev pub decreases-loop-rest : goal.decreases-loop-rest
decreases-loop-rest l = length l.rest
