-- public: what is printed for a log that was judged.
use Rattle.std.specs.Prelude.{ℕ, List, ◌++◌, codes, decimal}
use Rattle.qc_run.specs.declared.status.Status.{Status}
use Rattle.qc_run.specs.declared.status.Status.TheVariants as status
use Rattle.qc_log_commands.specs.declared.watching.BreachReport.{BreachReport}
use Rattle.qc_log_commands.specs.declared.watching.Watching.{Watching}
use Rattle.qc_log_commands.specs.declared.watching.Watching.TheVariants as watching

-- the number of reports, where all cranes kept their margin
abbrev pub safe_text : ℕ → List ℕ
safe_text count = codes "Safe " ++ decimal count ++ codes "\n"

-- the time of the first report at which two cranes were too near, and their names
abbrev pub near_text : BreachReport → List ℕ
near_text told =
    codes "Breach " ++ decimal told.at ++ codes " " ++ told.first ++ codes " " ++ told.second ++ codes "\n"

abbrev pub watching_text : Watching → List ℕ
watching_text (watching.Safe count) = safe_text count
watching_text (watching.Breach told) = near_text told

abbrev pub watching_status : Watching → Status
watching_status (watching.Safe count) = status.Done
watching_status (watching.Breach told) = status.Breach
