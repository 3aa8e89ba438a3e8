-- public: what a call says that only reads from a shelf.
use Rattle.std.specs.Prelude.{◌≡◌, ◌≤◌, true, Result, Err}
use Rattle.qc_io.specs.Outside.{View, Rose}

-- nothing is written and no file changes; and where this holds, no call that reads failed
pub record Reads (before after : View) (through : Type 0) : Type 0 where
  pub written : after.written ≡ before.written
  pub faults : after.faults ≡ before.faults
  pub files : after.files ≡ before.files
  pub made : after.made ≡ before.made
  pub never_falls : before.read_faults ≤ after.read_faults
  pub unfailed : through → after.read_faults ≡ before.read_faults

-- the same of a call that reads on from the open file: it stays open, and the call answers this fault exactly
-- where a call that reads failed
pub record ReadsOn {A E : Type 0} (before after : View) (fault : E) (result : Result A E) : Type 0 where
  pub reads : Reads before after (¬ (◌≡◌ {A = Result A E} result (Err fault)))
  pub reading : after.reading ≡ true
  pub rose : ◌≡◌ {A = Result A E} result (Err fault) → Rose before.read_faults after.read_faults
