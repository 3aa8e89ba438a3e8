-- public: the records of a file of comma-separated values, as the crate `csv` reads them.
use Rattle.std.specs.Prelude.{ℕ, List, [], get_or}
use Rattle.csv.specs.Reading.{default_config, records, strip_bom}

-- the records of a file, each a list of fields: commas, double quotes, nothing trimmed, a byte-order mark at the
-- start dropped
abbrev pub records_of : List ℕ → List (List (List ℕ))
records_of text = records default_config (strip_bom text)

-- the field of a record at a place, empty past the last one
abbrev pub field_of : List (List ℕ) → ℕ → List ℕ
field_of fields at = get_or fields at []
