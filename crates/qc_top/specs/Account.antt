-- public: the account of a run, by what the words ask for.
use Rattle.std.specs.Prelude.{◌≡◌, ◌⊎◌, ℕ, ◌<◌, List, length, None, Some}
use Rattle.qc_io.specs.Outside.{View}
use Rattle.qc_log_commands.specs.DispatchAccount.{IsDispatchRun}
use Rattle.qc_judge_commands.specs.Account.{IsPlanCheckRun, IsTreeRun, show_reader, tasks_reader}
use Rattle.qc_moves_command.specs.Account.{IsMovesRun}
use Rattle.qc_odds_command.specs.Account.{IsOddsRun}
use Rattle.qc_picture_command.specs.Account.{picture_reader, report_reader}
use Rattle.qc_plan_command.specs.Account.{IsPlanRun}
use Rattle.qc_rest_command.specs.Account.{IsRestRun}
use Rattle.qc_run.specs.declared.refusal.Refusal.TheVariants as refusal
use Rattle.qc_run.specs.declared.refusal.Stop.{Stop}
use Rattle.qc_run.specs.declared.refusal.Stop.TheVariants as stop
use Rattle.qc_run.specs.declared.status.Status.{Status}
use Rattle.qc_run.specs.declared.status.Status.TheVariants as status
use Rattle.qc_run.specs.Account.{IsReaderRun}
use Rattle.qc_run.specs.Inputs.{Names}
use Rattle.qc_run.specs.Reports.{Prints, PrintsPart, Reports}
use Rattle.qc_run.specs.Texts.{stop_status, stop_text}
use Rattle.qc_sheet_command.specs.Account.{sheet_reader}
use Rattle.qc_trial.specs.Account.{IsTrialRun}
use Rattle.qc_log_commands.specs.WatchAccount.{watch_reader}
use Rattle.qc_words.specs.Asked.{Asked, read, plan, moves, simulate, replan, make, help, version, usage}
use Rattle.qc_words.specs.declared.asked.Reader.{Reader}
use Rattle.qc_words.specs.declared.asked.Reader.TheVariants as reader
use Rattle.qc_words.specs.Commands.{named}
use Rattle.qc_words.specs.Words.{Asks, about}

-- no command is served: nothing is read or written, and this is reported
pub record IsSaid (text : List ℕ) (status_of : Status) (before after out_before out_after : View) (ended : Status)
    : Type 0 where
  pub untouched : after ≡ before
  pub reports : Reports (Prints text) (PrintsPart text) status_of out_before out_after ended

-- the program was asked about: nothing is read or written, and some text is printed
pub record IsAbout (before after out_before out_after : View) (ended : Status) : Type 0 where
  pub text : List ℕ
  pub some : 0 < length text
  pub said : IsSaid text status.Done before after out_before out_after ended

-- the run stops before any command is served
abbrev pub IsStopped : Stop → (before after out_before out_after : View) → Status → Type 0
IsStopped why = IsSaid (stop_text why) (stop_status why)

-- the words are refused
abbrev pub IsUsage : (before after out_before out_after : View) → Status → Type 0
IsUsage = IsStopped (stop.Refused refusal.Usage)

-- making reads and writes no file
pub record IsMakeRun (number hatches cranes : ℕ) (before after out_before out_after : View) (ended : Status) : Type 0 where
  pub untouched : after ≡ before
  pub run : IsTrialRun number hatches cranes out_before out_after ended

-- a command that only reads serves, with these files
abbrev pub IsReadBy : Reader → Names → (before after out_before out_after : View) → Status → Type 0
IsReadBy reader.Check = IsPlanCheckRun
IsReadBy reader.CheckTree = IsTreeRun
IsReadBy reader.Tasks = IsReaderRun tasks_reader
IsReadBy reader.Show = IsReaderRun show_reader
IsReadBy reader.Sheet = IsReaderRun sheet_reader
IsReadBy reader.Watch = IsReaderRun watch_reader
IsReadBy reader.Dispatch = IsDispatchRun
IsReadBy reader.Picture = IsReaderRun picture_reader
IsReadBy reader.Report = IsReaderRun report_reader

-- what is asked for is served by its command
abbrev pub IsRunOf : Asked → (before after out_before out_after : View) → Status → Type 0
IsRunOf (read reader names) = IsReadBy reader names
IsRunOf (plan asked) = IsPlanRun asked
IsRunOf (moves asked) = IsMovesRun asked
IsRunOf (simulate asked) = IsOddsRun asked
IsRunOf (replan asked) = IsRestRun asked
IsRunOf (make n h c) = IsMakeRun n h c
IsRunOf (help of) = IsAbout
IsRunOf version = IsAbout
IsRunOf usage = IsUsage

-- a run: the words ask for something, which is served, or memory is wanting for the words; where they ask about the
-- program, and where no command begins them, no memory is taken
pub record IsRun (words : List (List ℕ)) (before after out_before out_after : View) (ended : Status) : Type 0 where
  pub asked : Asked
  pub asks : Asks words asked
  pub serves :
      IsRunOf asked before after out_before out_after ended
      ⊎ IsStopped stop.OutOfMemory before after out_before out_after ended
  pub told : (asked : Asked) → about words ≡ Some asked → IsRunOf asked before after out_before out_after ended
  pub unnamed : about words ≡ None → named words ≡ None → IsUsage before after out_before out_after ended
