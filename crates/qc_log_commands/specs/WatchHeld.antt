-- public: what an answer tells of reports that were judged.
use Rattle.std.specs.Prelude.{◌≡◌, ℕ, List, slice_index_or}
use Rattle.qc_model.specs.Instance.{no_crane}
use Rattle.qc_ship.specs.Ship.{ShipView}
use Rattle.qc_watch.specs.declared.breach.Breach.{Breach}
use Rattle.qc_watch.specs.declared.report.Report.{Report}
use Rattle.qc_watch.specs.Breach.{IsFirstBreach, IsSafe}
use Rattle.qc_watch.specs.Reports.{count_of}
use Rattle.qc_log_commands.specs.declared.watching.BreachReport.{BreachReport}

-- the name of a crane, counted from 0
abbrev pub crane_name : ShipView → ℕ → List ℕ
crane_name ship crane = (slice_index_or ship.cranes crane no_crane).name

-- every two cranes kept their margin at every moment at which both are known, and the number of reports is told
pub record TellsSafe (ship : ShipView) (lists : List (List Report)) (count : ℕ) : Type 0 where
  pub safe : IsSafe ship lists
  pub count_told : count ≡ count_of lists

-- a breach is told by its time and the names of its cranes
pub record TellsNear (ship : ShipView) (breach : Breach) (told : BreachReport) : Type 0 where
  pub at_told : told.at ≡ breach.at
  pub first_told : told.first ≡ crane_name ship breach.first
  pub second_told : told.second ≡ crane_name ship breach.second

-- two cranes were too near, and the first breach is told
pub record TellsBreach (ship : ShipView) (lists : List (List Report)) (told : BreachReport) : Type 0 where
  pub breach : Breach
  pub first : IsFirstBreach ship lists breach
  pub unsafe : ¬ IsSafe ship lists
  pub tells : TellsNear ship breach told
