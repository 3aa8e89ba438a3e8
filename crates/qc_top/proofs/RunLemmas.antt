-- What follows from a run's account of itself.
use Rattle.std.proofs.Common.{◌≡◌, ◌≢◌, ◌≤◌, ◌⊎◌, Bool, true, false, not, bytes_eq, ◌||◌, IfSome, ℕ, List, [], ◌∷◌, Option, None, Some, Result, Err, arith, refl, sym, ap, ◌∙◌, subst, inl, inr, codes}
use Rattle.std.proofs.lemmas.Bool.{false≢true}
use Rattle.std.specs.FinMap.{get}
use Rattle.qc_gantt.specs.PlanText.{plan_text}
use Rattle.qc_io.specs.Outside.{Files, View, beside}
use Rattle.qc_log_commands.specs.declared.dispatching.Dispatching.{Dispatching}
use Rattle.qc_log_commands.specs.declared.dispatching.Dispatching.TheVariants as dispatching
use Rattle.qc_log_commands.specs.DispatchAccount.{IsDispatching, StopsDispatch, dispatch_report}
use Rattle.qc_log_commands.specs.DispatchTold.{dispatching_status}
use Rattle.qc_judge_commands.specs.declared.answer.Showing.{Showing}
use Rattle.qc_judge_commands.specs.declared.answer.Showing.TheVariants as showing
use Rattle.qc_judge_commands.specs.Account.{IsJudged, IsTreeFound, StopsPlan, StopsTree, show_reader, tasks_reader}
use Rattle.qc_judge_commands.specs.Reports.{showing_status}
use Rattle.qc_judge_commands.proofs.JudgedLemmas.{plan_check_promises}
use Rattle.qc_judge_commands.proofs.TreeLemmas.{tree_promises}
use Rattle.qc_model.specs.declared.schedule.Slot.{Slot}
use Rattle.qc_model.specs.Instance.{InstanceView}
use Rattle.qc_moves_command.specs.Account.{IsMovesRun}
use Rattle.qc_moves_command.specs.Promises.{MovesPromises}
use Rattle.qc_moves_command.proofs.MovesLemmas.{moves_promises}
use Rattle.qc_odds_command.specs.Account.{IsForecasting, IsOddsRun, StopsForecast}
use Rattle.qc_odds_command.specs.Promises.{OddsPromises}
use Rattle.qc_odds_command.proofs.PromiseLemmas.{odds_promises}
use Rattle.qc_picture_command.specs.Account.{picture_reader, report_reader}
use Rattle.qc_picture_command.specs.declared.answer.Printed.{Printed}
use Rattle.qc_picture_command.specs.declared.answer.Printed.TheVariants as printed
use Rattle.qc_picture_command.specs.Planned.{printed_status}
use Rattle.qc_plan_command.specs.Account.{IsLeft, IsPlanRun, both_files, tree_files}
use Rattle.qc_plan_command.specs.Promises.{PlanPromises}
use Rattle.qc_rest_command.specs.Account.{IsRestRun}
use Rattle.qc_rest_command.specs.Promises.{RestPromises}
use Rattle.qc_rest_command.proofs.RestLemmas.{rest_promises}
use Rattle.qc_search.specs.Stored.{with_plan, with_tree}
use Rattle.qc_plan_command.proofs.PlanLemmas.{plan_promises}
use Rattle.qc_run.specs.declared.refusal.Refusal.TheVariants as refusal
use Rattle.qc_run.specs.declared.refusal.Stop.{Stop}
use Rattle.qc_run.specs.declared.refusal.Stop.TheVariants as stop
use Rattle.qc_run.specs.declared.status.Status.{Status}
use Rattle.qc_run.specs.declared.status.Status.TheVariants as status
use Rattle.qc_run.specs.Account as account
use Rattle.qc_run.specs.Account.{IsFound, IsReaderRun, IsReading}
use Rattle.qc_run.specs.Inputs.{Moving, Names, Planning, Replanning, Simulating}
use Rattle.qc_run.specs.Reports.{Printing, Prints, PrintsPart, Reports}
use Rattle.qc_run.specs.Steps.{Stops}
use Rattle.qc_run.specs.Texts.{stop_status, stop_text}
use Rattle.qc_run.specs.Told.{EndsWith, ReadPromises}
use Rattle.qc_run.proofs.AccountLemmas.{reader_promises, reading_promises}
use Rattle.qc_run.proofs.StatusLemmas.{IsAnswer}
use Rattle.qc_sheet_command.specs.declared.answer.Listing.{Listing}
use Rattle.qc_sheet_command.specs.declared.answer.Listing.TheVariants as listing
use Rattle.qc_sheet_command.specs.Account.{sheet_reader}
use Rattle.qc_sheet_command.specs.Listed.{listing_status}
use Rattle.qc_trial.specs.Account.{IsTrialRun, TrialPromises}
use Rattle.qc_trial.proofs.MadeLemmas.{trial_promises}
use Rattle.qc_tree.specs.Trees.{tree_text}
use Rattle.qc_log_commands.specs.declared.watching.Watching.{Watching}
use Rattle.qc_log_commands.specs.declared.watching.Watching.TheVariants as watching
use Rattle.qc_log_commands.specs.WatchAccount.{watch_reader}
use Rattle.qc_log_commands.specs.WatchTexts.{watching_status}
use Rattle.qc_words.proofs.LimitLemmas.{asked_kept}
use Rattle.qc_words.specs.Asked.{Asked, KeepsLimits, are_different, read, plan, moves, simulate, replan, make, help, version, usage}
use Rattle.qc_words.specs.declared.asked.Reader.{Reader}
use Rattle.qc_words.specs.declared.asked.Reader.TheVariants as reader
use Rattle.qc_words.specs.Words.{Asks}
use Rattle.qc_top.specs.Account.{IsAbout, IsReadBy, IsRun, IsRunOf, IsSaid, IsStopped, IsUsage}
use Rattle.qc_top.specs.Promises.{IsWriting, Promises, ReadStays, Stays}
use Rattle.qc_top.proofs.StayLemmas.{apart_parts, get_other, reads_stay}

-- ---- want of memory for the words, as an answer of each command

-- a command that only reads stopped so before it read anything
stopped : {A : Type 0} (found : A → Type 0) (stops : Stop → Type 0) (names : Names) (v : View) → stops stop.OutOfMemory
    → IsReading found stops names v v (Err stop.OutOfMemory)
stopped found stops names v is =
    record { ok = tt; err = is; may = tt; files = refl; made = refl; faults = refl; read_faults = omega arith }

module _ (v pb pa : View) (ended : Status)
    (reports : Reports (Prints (stop_text stop.OutOfMemory)) (PrintsPart (stop_text stop.OutOfMemory)) (stop_status stop.OutOfMemory) pb pa ended) where
  as_plan : (p : Planning) → IsPlanRun p v v pb pa ended
  as_plan p = record { answer = Err stop.OutOfMemory; serves = (refl, tt, refl, refl, refl); reports = reports }

  as_list : (m : Moving) → IsMovesRun m v v pb pa ended
  as_list m = record { answer = Err stop.OutOfMemory; serves = (refl, tt, refl, refl, refl); reports = reports }

  as_rest : (r : Replanning) → IsRestRun r v v pb pa ended
  as_rest r = record {
    answer = Err stop.OutOfMemory;
    serves = (inl refl, tt, record { files = refl; made = refl; faults = refl });
    reports = reports;
  }

  as_odds : (s : Simulating) → IsOddsRun s v v pb pa ended
  as_odds s = record {
    answer = Err stop.OutOfMemory;
    serves = stopped (IsForecasting s v.files) (StopsForecast s.inputs v v) s.inputs v (inl refl);
    reports = reports;
  }

  as_reader : {X A : Type 0} (of : account.Reader X A) (names : Names) → IsReaderRun of names v v pb pa ended
  as_reader of names = record {
    answer = Err stop.OutOfMemory;
    serves = stopped (IsFound of.due of.tells names v.files) (Stops of.due names v v) names v refl;
    reports = reports;
  }

  as_read : (command : Reader) (names : Names) → IsReadBy command names v v pb pa ended
  as_read reader.Check names = record {
    answer = Err stop.OutOfMemory;
    serves = stopped (IsJudged names v.files) (StopsPlan names v v) names v (inl refl, λ fault e. absurd (cc e));
    reports = reports;
  }
  as_read reader.CheckTree names = record {
    answer = Err stop.OutOfMemory;
    serves = stopped (IsTreeFound names v.files) (StopsTree names v v) names v (refl, λ fault e. absurd (cc e));
    reports = reports;
  }
  as_read reader.Tasks names = as_reader tasks_reader names
  as_read reader.Show names = as_reader show_reader names
  as_read reader.Sheet names = as_reader sheet_reader names
  as_read reader.Watch names = as_reader watch_reader names
  as_read reader.Dispatch names = record {
    answer = Err stop.OutOfMemory;
    serves = stopped (IsDispatching names v.files) (StopsDispatch names v v) names v (inl refl);
    reports = reports;
  }
  as_read reader.Picture names = as_reader picture_reader names
  as_read reader.Report names = as_reader report_reader names

  as_make : (n k c : ℕ) → IsTrialRun n k c pb pa ended
  as_make n k c = record { answer = Err stop.OutOfMemory; serves = tt; reports = reports }

-- ---- no answer ends as a refusal does

show_answers : (a : Showing) → IsAnswer (showing_status a)
show_answers (showing.Broken told) = tt
show_answers (showing.Shown told) = tt

sheet_answers : (a : Listing) → IsAnswer (listing_status a)
sheet_answers (listing.Broken told) = tt
sheet_answers (listing.Listed told) = tt

print_answers : (a : Printed) → IsAnswer (printed_status a)
print_answers (printed.Broken told) = tt
print_answers (printed.Text text) = tt

watch_answers : (a : Watching) → IsAnswer (watching_status a)
watch_answers (watching.Safe count) = tt
watch_answers (watching.Breach told) = tt

dispatch_answers : (a : Dispatching) → IsAnswer (dispatching_status a)
dispatch_answers (dispatching.Broken told) = tt
dispatch_answers (dispatching.Dispatched told) = tt

-- ---- the report

-- beside the sink nothing changes, whatever is served
read_kept : (command : Reader) (names : Names) (before after pb pa : View) (ended : Status)
    → IsReadBy command names before after pb pa ended → (beside pa ≡ beside pb) × (pb.faults ≤ pa.faults)
read_kept reader.Check names before after pb pa ended h = (h.reports.beside_stays, h.reports.never_falls)
read_kept other names before after pb pa ended h = (h.reports.beside_stays, h.reports.never_falls)

pub out_kept : (asked : Asked) (before after pb pa : View) (ended : Status) → IsRunOf asked before after pb pa ended
    → (beside pa ≡ beside pb) × (pb.faults ≤ pa.faults)
out_kept (read command names) before after pb pa ended h = read_kept command names before after pb pa ended h
out_kept (make n k c) before after pb pa ended h = (h.run.reports.beside_stays, h.run.reports.never_falls)
out_kept (help of) before after pb pa ended h = (h.said.reports.beside_stays, h.said.reports.never_falls)
out_kept version before after pb pa ended h = (h.said.reports.beside_stays, h.said.reports.never_falls)
out_kept other before after pb pa ended h = (h.reports.beside_stays, h.reports.never_falls)

-- ---- the planner's own plan

-- two tests of which none passes
none_of : (a b : Bool) → not (a || (b || false)) ≡ true → (a ≡ false) × (b ≡ false)
none_of true b h = absurd (false≢true h)
none_of false true h = absurd (false≢true h)
none_of false false h = (refl, refl)

module _ (asked : Planning) (o : List ℕ) (no_plan : bytes_eq o asked.plan ≡ false) (no_tree : bytes_eq o asked.tree ≡ false)
    (held : Files) where
  plan_other : (mid : Files) (inst : InstanceView) (best : Option (List Slot)) → get mid o ≡ get held o
      → get (with_plan mid asked.plan inst best) o ≡ get held o
  plan_other mid inst None same = same
  plan_other mid inst (Some sched) same = get_other mid asked.plan (plan_text inst sched) o no_plan ∙ same

  now_other : (now : Option Files) (files : Files) → now ≡ Some files → get files o ≡ get held o
      → IfSome now (λ f. get f o ≡ get held o)
  now_other now files is same = subst (λ (m : Option Files). IfSome m (λ f. get f o ≡ get held o)) (sym is) same

  left_other : (now : Option Files) → IsLeft asked held now → IfSome now (λ f. get f o ≡ get held o)
  left_other now (inl is) = now_other now held is refl
  left_other now (inr (inl left)) =
      let s = left.0 in
      now_other now (with_tree held asked.tree s.inst s.tree) left.1
      (get_other held asked.tree (tree_text s.inst s.tree) o no_tree)
  left_other now (inr (inr left)) =
      let s = left.0 in
      let tree = get_other held asked.tree (tree_text s.inst s.tree) o no_tree in
      elim left.1 [
        | inl is ↦ now_other now (tree_files asked held s) is tree
        | inr is ↦ now_other now (both_files asked held s) is (plan_other (tree_files asked held s) s.inst s.done.best tree)
      ]

all_other : (asked : Planning) (o : List ℕ) → bytes_eq o asked.plan ≡ false → bytes_eq o asked.tree ≡ false
    → (before now : Option Files) → IfSome before (λ held. IsLeft asked held now)
    → IfSome before (λ held. IfSome now (λ f. get f o ≡ get held o))
all_other asked o no_plan no_tree None now left = tt
all_other asked o no_plan no_tree (Some held) now left = left_other asked o no_plan no_tree held now left

-- ---- what follows

module _ (words : List (List ℕ)) (before after pb pa : View) (ended : Status) (run : IsRun words before after pb pa ended) where
  -- the words ask for one thing
  serves : (asked : Asked) → Asks words asked
      → IsRunOf asked before after pb pa ended ⊎ IsStopped stop.OutOfMemory before after pb pa ended
  serves asked asks =
      subst (λ (a : Asked). IsRunOf a before after pb pa ended ⊎ IsStopped stop.OutOfMemory before after pb pa ended)
      (sym run.asks ∙ asks) run.serves

  -- a command's run, also where memory was wanting for the words
  served : (Run : View → Type 0)
      → ((reports : Reports (Prints (stop_text stop.OutOfMemory)) (PrintsPart (stop_text stop.OutOfMemory)) (stop_status stop.OutOfMemory) pb pa ended) → Run before)
      → Run after ⊎ IsStopped stop.OutOfMemory before after pb pa ended → Run after
  served Run memory (inl is) = is
  served Run memory (inr h) = subst Run (sym h.untouched) (memory h.reports)

  reads : (command : Reader) (names : Names) → Asks words (read command names) → IsReadBy command names before after pb pa ended
  reads command names asks = served (λ v. IsReadBy command names before v pb pa ended)
      (λ reports. as_read before pb pa ended reports command names) (serves (read command names) asks)

  plans : (asked : Planning) → Asks words (plan asked) → PlanPromises asked before after pb pa ended
  plans asked asks =
      plan_promises asked before after pb pa ended
      (served (λ v. IsPlanRun asked before v pb pa ended) (λ reports. as_plan before pb pa ended reports asked) (serves (plan asked) asks))

  lists_moves : (asked : Moving) → Asks words (moves asked) → MovesPromises asked before after pb pa ended
  lists_moves asked asks =
      moves_promises asked before after pb pa ended
      (served (λ v. IsMovesRun asked before v pb pa ended) (λ reports. as_list before pb pa ended reports asked) (serves (moves asked) asks))

  simulates : (asked : Simulating) → Asks words (simulate asked) → OddsPromises asked before after pb pa ended
  simulates asked asks =
      odds_promises asked before after pb pa ended
      (served (λ v. IsOddsRun asked before v pb pa ended) (λ reports. as_odds before pb pa ended reports asked) (serves (simulate asked) asks))

  writes_rest : (asked : Replanning) → Asks words (replan asked) → RestPromises asked before after pb pa ended
  writes_rest asked asks =
      rest_promises asked before after pb pa ended
      (served (λ v. IsRestRun asked before v pb pa ended) (λ reports. as_rest before pb pa ended reports asked) (serves (replan asked) asks))

  read_stays : (asked : Replanning) → Asks words (replan asked) → ReadStays asked before after
  read_stays asked asks = reads_stay asked before after (writes_rest asked asks).left (subst KeepsLimits asks (asked_kept words)).1

  own_stays : (asked : Planning) → Asks words (plan asked) → Stays asked.inputs.own before after
  own_stays asked asks = by asked.inputs.own (subst KeepsLimits asks (asked_kept words)).1
    where
      written : List (Option (List ℕ))
      written = Some asked.plan ∷ Some asked.tree ∷ []

      by : (own : Option (List ℕ)) → are_different (asked.inputs.ship ∷ asked.inputs.stow ∷ own ∷ written) ≡ true
          → Stays own before after
      by None apart = tt
      by (Some o) apart =
          let behind_ship = (apart_parts asked.inputs.ship (asked.inputs.stow ∷ Some o ∷ written) apart).1 in
          let behind_stow = (apart_parts asked.inputs.stow (Some o ∷ written) behind_ship).1 in
          let none = none_of (bytes_eq o asked.plan) (bytes_eq o asked.tree) (apart_parts (Some o) written behind_stow).0 in
          all_other asked o none.0 none.1 before.files after.files (plans asked asks).plan_stopped

  makes : (n k c : ℕ) → Asks words (make n k c) → TrialPromises n k c pb pa ended
  makes n k c asks = trial_promises n k c pb pa ended (elim (serves (make n k c) asks) [
    | inl is ↦ is.run
    | inr h ↦ as_make before pb pa ended h.reports n k c
  ])

  make_leaves : (n k c : ℕ) → Asks words (make n k c) → after ≡ before
  make_leaves n k c asks = elim (serves (make n k c) asks) [ inl is ↦ is.untouched | inr h ↦ h.untouched ]

  refuses : Asks words usage → IsUsage before after pb pa ended ⊎ IsStopped stop.OutOfMemory before after pb pa ended
  refuses asks = serves usage asks

  -- a stop is reported, or the sink failed
  stop_ends : (why : Stop) → IsStopped why before after pb pa ended → EndsWith (stop_status why) pb pa ended
  stop_ends why h = elim h.reports.ending [
    | inl told ↦ inl told.status
    | inr cut ↦ inr (cut.status, cut.rose)
  ]

  -- what holds whatever is asked for
  record Whatever (asked : Asked) : Type 0 where
    stays : ¬ IsWriting asked → after.files ≡ before.files
    usage_words : ended ≡ status.Usage → Asks words usage
    memory : ended ≡ status.OutOfMemory → Prints (codes "OutOfMemory\n") pb.written pa.written

  by_reads : {A : Type 0} {account : Result A Stop → Type 0} {part : A → Printing} (asked : Asked)
      → ReadPromises account part before after pb pa ended → Whatever asked
  by_reads asked reads =
      record { stays = λ never. reads.files_stay; usage_words = λ e. absurd (reads.no_usage e); memory = reads.out_of_memory }

  -- a command whose account is all that it says
  by_reader : {X A : Type 0} (of : account.Reader X A) → ((answer : A) → IsAnswer (of.report.status answer)) → (names : Names) (asked : Asked)
      → IsReaderRun of names before after pb pa ended → Whatever asked
  by_reader of answers names asked is = by_reads asked (reader_promises of answers names before after pb pa ended is)

  by_command : (command : Reader) (names : Names) (asked : Asked) → IsReadBy command names before after pb pa ended → Whatever asked
  by_command reader.Check names asked is = by_reads asked (plan_check_promises names before after pb pa ended is).reads
  by_command reader.CheckTree names asked is = by_reads asked (tree_promises names before after pb pa ended is).reads
  by_command reader.Tasks names asked is = by_reader tasks_reader (λ inst. tt) names asked is
  by_command reader.Show names asked is = by_reader show_reader show_answers names asked is
  by_command reader.Sheet names asked is = by_reader sheet_reader sheet_answers names asked is
  by_command reader.Watch names asked is = by_reader watch_reader watch_answers names asked is
  by_command reader.Dispatch names asked is =
      by_reads asked
      (reading_promises (IsDispatching names before.files) (StopsDispatch names before after) names dispatch_report dispatch_answers before after pb pa ended is)
  by_command reader.Picture names asked is = by_reader picture_reader print_answers names asked is
  by_command reader.Report names asked is = by_reader report_reader print_answers names asked is

  -- something was said, or memory was wanting for the words
  by_said : (asked : Asked) (text : List ℕ) (wanted : Status) → wanted ≢ status.OutOfMemory → (wanted ≡ status.Usage → Asks words usage)
      → IsSaid text wanted before after pb pa ended ⊎ IsStopped stop.OutOfMemory before after pb pa ended → Whatever asked
  by_said asked text wanted other refused (inl is) = record {
    stays = λ never. ap (λ (v : View). v.files) is.untouched;
    usage_words = λ e. elim is.reports.ending [
      | inl told ↦ refused (sym told.status ∙ e)
      | inr cut ↦ absurd (cc (cut.status, e))
    ];
    memory = λ e. elim is.reports.ending [
      | inl told ↦ absurd (other (sym told.status ∙ e))
      | inr cut ↦ absurd (cc (cut.status, e))
    ];
  }
  by_said asked text wanted other refused (inr h) = record {
    stays = λ never. ap (λ (v : View). v.files) h.untouched;
    usage_words = λ e. elim h.reports.ending [
      | inl told ↦ absurd (cc (told.status, e))
      | inr cut ↦ absurd (cc (cut.status, e))
    ];
    memory = λ e. elim h.reports.ending [
      | inl told ↦ told.printed
      | inr cut ↦ absurd (cc (cut.status, e))
    ];
  }

  by_about : (asked : Asked) → IsAbout before after pb pa ended ⊎ IsStopped stop.OutOfMemory before after pb pa ended
      → Whatever asked
  by_about asked (inl is) = by_said asked is.text status.Done (λ f. cc f) (λ f. absurd (cc f)) (inl is.said)
  by_about asked (inr h) = by_said asked [] status.Done (λ f. cc f) (λ f. absurd (cc f)) (inr h)

  whatever : (asked : Asked) → Asks words asked → Whatever asked
  whatever (plan asked) asks =
      let p = plans asked asks in
      record { stays = λ never. absurd (never tt); usage_words = λ e. absurd (p.no_usage e); memory = p.out_of_memory }
  whatever (moves asked) asks =
      let p = lists_moves asked asks in
      record { stays = λ never. absurd (never tt); usage_words = λ e. absurd (p.no_usage e); memory = p.out_of_memory }
  whatever (replan asked) asks =
      let p = writes_rest asked asks in
      record { stays = λ never. absurd (never tt); usage_words = λ e. absurd (p.no_usage e); memory = p.out_of_memory }
  whatever (simulate asked) asks = by_reads (simulate asked) (simulates asked asks).reads
  whatever (read command names) asks = by_command command names (read command names) (reads command names asks)
  whatever (make n k c) asks = record {
    stays = λ never. ap (λ (v : View). v.files) (make_leaves n k c asks);
    usage_words = λ e. absurd ((makes n k c asks).no_usage e);
    memory = (makes n k c asks).out_of_memory;
  }
  whatever (help of) asks = by_about (help of) (serves (help of) asks)
  whatever version asks = by_about version (serves version asks)
  whatever usage asks =
      by_said usage (stop_text (stop.Refused refusal.Usage)) status.Usage (λ f. cc f) (λ _. asks) (refuses asks)

  pub promises : Promises words before after pb pa ended
  promises = record {
    plans = plans;
    lists_moves = lists_moves;
    simulates = simulates;
    writes_rest = writes_rest;
    own_stays = own_stays;
    read_stays = read_stays;
    checks_tree = λ names asks. tree_promises names before after pb pa ended (reads reader.CheckTree names asks);
    checks_plan = λ names asks. plan_check_promises names before after pb pa ended (reads reader.Check names asks);
    makes = makes;
    make_leaves = make_leaves;
    files_stay = λ asked asks. (whatever asked asks).stays;
    usage_words = (whatever run.asked run.asks).usage_words;
    refuses = refuses;
    no_command = λ other none. stop_ends (stop.Refused refusal.Usage) (run.unnamed other none);
    helps = λ of is. run.told (help of) is;
    tells_version = λ is. run.told version is;
    out_of_memory = (whatever run.asked run.asks).memory;
  }
