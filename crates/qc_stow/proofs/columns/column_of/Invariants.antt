use Rattle.std.proofs.Common.{◌≡◌, drop}
use Rattle.csv.specs.Records.{fields_of}
use Rattle.qc_stow.specs.Columns.{only_place, places_of}
use Rattle.qc_stow.proofs.ColumnFacts.{found_with}
use Rattle.qc_stow.proofs.columns.column_of.Given as goal

-- the one place is the one of those found and those to come
abbrev pub invariant-loop-at : goal.invariant-loop-at
invariant-loop-at l =
    only_place (places_of l.name 0 (fields_of l.header)) ≡ only_place (found_with l.found (places_of l.name l.at (drop l.at (fields_of l.header))))
