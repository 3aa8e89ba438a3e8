-- public: the account of the command that judges a log: what its answer tells of the reports.
use Rattle.qc_run.specs.declared.watched.Watched.{Watched}
use Rattle.qc_run.specs.Account.{Reader, texts}
use Rattle.qc_run.specs.Due.{watched_due}
use Rattle.qc_log_commands.specs.declared.watching.Watching.{Watching}
use Rattle.qc_log_commands.specs.declared.watching.Watching.TheVariants as watching
use Rattle.qc_log_commands.specs.WatchHeld.{TellsBreach, TellsSafe}
use Rattle.qc_log_commands.specs.WatchTexts.{watching_status, watching_text}

-- the cranes of the ship kept their margin, by the reports of the log, or two of them were too near
abbrev pub TellsWatching : Watched → Watching → Type 0
TellsWatching read (watching.Safe count) = TellsSafe read.ship read.reports count
TellsWatching read (watching.Breach told) = TellsBreach read.ship read.reports told

abbrev pub watch_reader : Reader Watched Watching
watch_reader = record { due = watched_due; tells = TellsWatching; report = texts watching_text watching_status }
