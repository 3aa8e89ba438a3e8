-- public: what a call says that writes a text to a sink.
use Rattle.std.specs.Prelude.{◌≡◌, ℕ, ◌≤◌, List, Result, ⊤, OnOk, OnErr}
use Rattle.std.specs.Io.KnownBytes.{append_known}
use Rattle.qc_io.specs.declared.writing.WriteFault.{WriteFault}
use Rattle.qc_io.specs.Outside.{View, Rose, GrewByPart, beside}

-- faults are counted: none more where the call came through, at least one more where it failed
pub record Counts {A E : Type 0} (before after : ℕ) (result : Result A E) : Type 0 where
  pub unfailed : OnOk result (after ≡ before)
  pub rose : OnErr result (Rose before after)
  pub never_falls : before ≤ after

-- where the call came through, the whole text stands behind what was written and no call of the sink
-- failed; else a front part that isn't the whole, and the count of faults rose
pub record Writes (before after : View) (text : List ℕ) (result : Result ⊤ WriteFault) : Type 0 where
  pub whole : OnOk result (after.written ≡ append_known before.written text)
  pub unfailed : OnOk result (after.faults ≡ before.faults)
  pub part : OnErr result (GrewByPart before.written after.written text)
  pub rose : OnErr result (Rose before.faults after.faults)
  pub beside_stays : beside after ≡ beside before
  pub never_falls : before.faults ≤ after.faults
