use Rattle.std.proofs.Common.{◌≡◌, ◌≤◌, [], map, drop, length}
use Rattle.csv.specs.Records.{fields_of}
use Rattle.qc_num.specs.Reading.{each}
use Rattle.qc_stow.specs.Moves.{most_moves}
use Rattle.qc_stow.specs.Stow.{next_row}
use Rattle.qc_stow.specs.Taken.{ids_of, slots_taken}
use Rattle.qc_stow.proofs.reader.read_rows.Given as goal

-- the whole reading is this one from here on, and the ids and slots of the rows so far are taken
abbrev pub invariant-loop-fields : goal.invariant-loop-fields
invariant-loop-fields l = record {
  rows : each (next_row l.ship l.at) [] (map fields_of l.records) ≡ each (next_row l.ship l.at) l.rows.items (map fields_of (drop l.fields-index l.records));
  few : length l.rows.items ≤ most_moves;
  ids : l.taken.ids ≡ ids_of l.rows.items;
  slots : l.taken.slots ≡ slots_taken l.rows.items;
}
