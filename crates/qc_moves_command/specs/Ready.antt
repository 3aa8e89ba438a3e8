-- inner: what was found before anything is written.
use Rattle.std.specs.Prelude.{◌≡◌}
use Rattle.qc_io.specs.Outside.{View}
use Rattle.qc_run.specs.Inputs.{Moving}
use Rattle.qc_moves_command.specs.declared.command.Found.{Found}
use Rattle.qc_moves_command.specs.Account.{AreFound}
use Rattle.qc_moves_command.specs.Figures.{figures_of}

-- it is what the files come to, and what is told of it
pub record IsReady (asked : Moving) (before : View) (found : Found) : Type 0 where
  pub are : AreFound asked before
  pub changes : found.changes ≡ are.changes
  pub told : found.told ≡ figures_of are.plans are.changes
