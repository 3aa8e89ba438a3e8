-- public: what stays of a shelf whose files are read again.
use Rattle.std.specs.Prelude.{◌≡◌, ◌≤◌}
use Rattle.qc_io.specs.Outside.{View}

-- no file changes, none is begun or finished, and no call that writes fails
pub record LeavesFiles (before after : View) : Type 0 where
  pub files : after.files ≡ before.files
  pub made : after.made ≡ before.made
  pub written : after.written ≡ before.written
  pub faults : after.faults ≡ before.faults
  pub never_falls : before.read_faults ≤ after.read_faults
