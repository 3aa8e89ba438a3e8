-- inner: the reports of the lines so far, and what taking a further line says.
use Rattle.std.specs.Prelude.{◌≡◌, ℕ, ◌<◌, ◌≤◌, List, [], ◌∷◌, ◌++◌, length, nat_lt, slice_index, IsOk, Result, Ok, Err, ⊤}
use Rattle.qc_num.specs.declared.read_error.ReadError.{ReadError}
use Rattle.qc_num.specs.declared.read_error.ReadError.TheVariants.{Fault, OutOfMemory}
use Rattle.qc_model.specs.Numbers.{most_cranes}
use Rattle.qc_watch.specs.declared.entry.Entry.{Entry}
use Rattle.qc_watch.specs.declared.fault.WatchFault.{WatchFault}
use Rattle.qc_watch.specs.Log.{has_since}
use Rattle.qc_watch.specs.Numbers.{most_lines, past_times}

-- a report of a crane that may be there, at a time of at most twelve digits
pub record IsEntry (entry : Entry) : Type 0 where
  pub crane : entry.crane < most_cranes
  pub at : entry.report.at < past_times

-- the reports of each crane are before the tick at which it may report next, and one of them is the tick before
pub record IsSince (entries : List Entry) (since : List ℕ) : Type 0 where
  pub few : length entries ≤ most_lines
  pub tells : (crane at : ℕ) → crane < most_cranes → has_since entries crane at ≡ nat_lt at (slice_index since crane)

-- a line was taken, whose report stands behind the others, or it has a fault, or it has none and memory ran out
abbrev pub Takes : Result Entry WatchFault → (before after : List Entry) → Result ⊤ (ReadError WatchFault) → Type 0
Takes reading before after (Ok u) = (entry : Entry) × (reading ≡ Ok entry) × (after ≡ before ++ entry ∷ [])
Takes reading before after (Err (Fault fault)) = reading ≡ Err fault
Takes reading before after (Err OutOfMemory) = IsOk reading
