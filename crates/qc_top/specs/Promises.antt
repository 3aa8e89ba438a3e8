-- public: what follows from a run's account, said by itself for whoever reads one status: a record for each command whose
-- account doesn't say it status by status, and what holds whatever is asked for.
use Rattle.std.specs.Prelude.{◌≡◌, ◌⊎◌, ℕ, List, Option, None, Some, IfSome, codes}
use Rattle.std.specs.FinMap.{get}
use Rattle.qc_io.specs.Outside.{View}
use Rattle.qc_judge_commands.specs.Promises.{PlanCheckPromises, TreePromises}
use Rattle.qc_moves_command.specs.Promises.{MovesPromises}
use Rattle.qc_odds_command.specs.Promises.{OddsPromises}
use Rattle.qc_plan_command.specs.Promises.{PlanPromises}
use Rattle.qc_rest_command.specs.Promises.{RestPromises}
use Rattle.qc_run.specs.declared.refusal.Stop.TheVariants as stop
use Rattle.qc_run.specs.declared.status.Status.{Status}
use Rattle.qc_run.specs.declared.status.Status.TheVariants as status
use Rattle.qc_run.specs.Inputs.{Moving, Names, Planning, Replanning, Simulating}
use Rattle.qc_run.specs.Reports.{Prints}
use Rattle.qc_run.specs.Told.{EndsWith}
use Rattle.qc_trial.specs.Account.{TrialPromises}
use Rattle.qc_words.specs.Asked.{Asked, read, plan, moves, simulate, replan, make, help, version, usage}
use Rattle.qc_words.specs.declared.asked.Reader.TheVariants as reader
use Rattle.qc_words.specs.Commands.{named}
use Rattle.qc_words.specs.Words.{Asks, about}
use Rattle.qc_top.specs.Account.{IsAbout, IsStopped, IsUsage}
use Rattle.qc_words.specs.declared.commands.CommandName.{CommandName}

-- a command that writes files is asked for
abbrev pub IsWriting : Asked → Type 0
IsWriting (plan asked) = Unit {0}
IsWriting (moves asked) = Unit {0}
IsWriting (replan asked) = Unit {0}
IsWriting _ = ⊥

-- the file with this name, where there is one, is as it was
abbrev pub Stays : Option (List ℕ) → (before after : View) → Type 0
Stays name before after =
    IfSome name (λ name. IfSome before.files (λ held. IfSome after.files (λ now. get now name ≡ get held name)))

-- the files that the rest of a plan reads are as they were
pub record ReadStays (asked : Replanning) (before after : View) : Type 0 where
  pub ship : Stays asked.inputs.ship before after
  pub stow : Stays asked.inputs.stow before after
  pub plan : Stays asked.inputs.plan before after
  pub log : Stays asked.inputs.log before after

pub record Promises (words : List (List ℕ)) (before after out_before out_after : View) (ended : Status) : Type 0 where
  -- what each command promises: a plan by schedules that go one way, and one by all that are feasible
  pub plans : (asked : Planning) → Asks words (plan asked)
      → PlanPromises asked before after out_before out_after ended
  -- a list of the moves between two bay plans
  pub lists_moves : (asked : Moving) → Asks words (moves asked)
      → MovesPromises asked before after out_before out_after ended
  -- the odds of a plan by what tasks of past calls took
  pub simulates : (asked : Simulating) → Asks words (simulate asked)
      → OddsPromises asked before after out_before out_after ended
  -- what is left of a plan in the middle of its work
  pub writes_rest : (asked : Replanning) → Asks words (replan asked)
      → RestPromises asked before after out_before out_after ended
  -- a check of schedules that go one way, and one of all that are feasible
  pub checks_tree : (names : Names) → Asks words (read reader.CheckTree names)
      → TreePromises names before after out_before out_after ended
  pub checks_plan : (names : Names) → Asks words (read reader.Check names)
      → PlanCheckPromises names before after out_before out_after ended
  pub makes : (n h c : ℕ) → Asks words (make n h c) → TrialPromises n h c out_before out_after ended
  -- a plan leaves the planner's own plan as it is, and the rest of a plan the files that it reads
  pub own_stays : (asked : Planning) → Asks words (plan asked) → Stays asked.inputs.own before after
  pub read_stays : (asked : Replanning) → Asks words (replan asked) → ReadStays asked before after
  -- making leaves the shelf untouched, and all but what writes leave the files
  pub make_leaves : (n h c : ℕ) → Asks words (make n h c) → after ≡ before
  pub files_stay : (asked : Asked) → Asks words asked → ¬ IsWriting asked → after.files ≡ before.files
  -- Usage comes only on words that ask for nothing, and there always, but that memory may be wanting for them; where
  -- no command begins them it is not
  pub usage_words : ended ≡ status.Usage → Asks words usage
  pub refuses : Asks words usage → IsUsage before after out_before out_after ended
      ⊎ IsStopped stop.OutOfMemory before after out_before out_after ended
  pub no_command : about words ≡ None → named words ≡ None → EndsWith status.Usage out_before out_after ended
  -- words that ask about the program are told some text, and nothing is read or written
  pub helps : (of : Option CommandName) → about words ≡ Some (help of) → IsAbout before after out_before out_after ended
  pub tells_version : about words ≡ Some version → IsAbout before after out_before out_after ended
  -- want of memory is told by its line alone
  pub out_of_memory :
      ended ≡ status.OutOfMemory → Prints (codes "OutOfMemory\n") out_before.written out_after.written
