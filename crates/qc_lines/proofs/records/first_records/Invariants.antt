use Rattle.std.proofs.Common.{◌≡◌, ◌<◌, ◌≤◌, ◌-◌, ℕ, List, Some, map, true, vec_len}
use Rattle.csv.specs.Reading.{Reached, Ready, default_config, source_of, strip_bom}
use Rattle.csv.specs.Records.{fields_of}
use Rattle.csv.specs.declared.parser.State.TheVariants as st
use Rattle.csv.specs.declared.reader.Trim.TheVariants as trim
use Rattle.qc_lines.proofs.records.first_records.Given as goal

abbrev pub invariant-loop-items : goal.invariant-loop-items
invariant-loop-items l = (l.items.rdr.trim ≡ trim.None) × Ready l.items.rdr × (0 < l.items.left) × (l.items.rdr.config ≡ default_config)
    × (y : List ℕ) × (source_of (λ s. Some s.now) l.items.rdr ≡ Some y)
    × Reached default_config st.StartRecord (strip_bom l.fn.text) (map fields_of l.records.items) l.items.rdr.state y
    × (vec_len l.records ≤ l.limit) × (l.items.rdr.flexible ≡ true)

abbrev pub decreases-loop-items : goal.decreases-loop-items
decreases-loop-items l = l.limit - vec_len l.records
