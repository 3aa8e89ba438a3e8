-- What follows from the account of a command that only reads.
use Rattle.std.proofs.Common.{◌≡◌, ◌⊎◌, Option, None, Some, Result, Ok, Err, refl, sym, subst, inl, ◌∙◌, IfSome}
use Rattle.qc_io.specs.Outside.{Files, View}
use Rattle.qc_run.specs.declared.refusal.Refusal.{Refusal}
use Rattle.qc_run.specs.declared.refusal.Stop.{Stop}
use Rattle.qc_run.specs.declared.refusal.Stop.TheVariants as stop
use Rattle.qc_run.specs.declared.status.Status.{Status}
use Rattle.qc_run.specs.declared.status.Status.TheVariants as status
use Rattle.qc_run.specs.Account.{IsFound, IsReaderRun, IsReading, IsRunWith, Reader, Reporting}
use Rattle.qc_run.specs.Due.{Contents, contents_in}
use Rattle.qc_run.specs.Inputs.{Names}
use Rattle.qc_run.specs.Reports.{Printing, Prints, answer_prints, answer_status}
use Rattle.qc_run.specs.Steps.{ComesTo, IsStep, Stops}
use Rattle.qc_run.specs.Texts.{refusal_status, refusal_text, stop_status}
use Rattle.qc_run.specs.Told.{EndsAsDue, IsFaultTold, IsRefusal, IsTold, NoneFailed, ReadPromises, ReaderPromises}
use Rattle.qc_run.proofs.StatusLemmas.{IsAnswer, is_own, stop_is_not}
use Rattle.qc_run.proofs.ToldLemmas.{read_promises, unfailed, whole_of}

-- ---- any command that only reads

module _ {A : Type 0} (found : A → Type 0) (stops : Stop → Type 0) (names : Names) (report : Reporting A)
    (answers : (answer : A) → IsAnswer (report.status answer)) (before after pb pa : View) (ended : Status)
    (run : IsRunWith (IsReading found stops names before after) report pb pa ended) where
  pub reading_promises : ReadPromises (IsReading found stops names before after) report.part before after pb pa ended
  reading_promises =
      read_promises (IsReading found stops names before after) report.whole report.part report.status before after pb pa ended run
      (λ answer. is_own (report.status answer) (answers answer)) (λ answer e. subst IsAnswer e (answers answer))
      (λ is. is.may) run.serves.files

  -- a run that ends with the status of an answer found one that has it
  pub answer_found : (wanted : Status) → IsAnswer wanted → ended ≡ wanted → {P : Type 0}
      → ((answer : A) → found answer → report.status answer ≡ wanted → report.whole answer pb.written pa.written → P) → P
  answer_found wanted is e {P} by =
      let told = whole_of (IsReading found stops names before after) report.whole report.part report.status pb pa ended run
      (λ fault. subst IsAnswer (sym e ∙ fault) is) in
      go run.answer run.serves (sym told.0 ∙ e) told.1
    where
      go : (r : Result A Stop) → IsReading found stops names before after r → answer_status report.status r ≡ wanted
          → answer_prints Prints report.whole r pb.written pa.written → P
      go (Ok answer) serves same printed = by answer serves.ok.1 same printed
      go (Err why) serves same printed = absurd (stop_is_not why wanted same (is_own wanted is))

  -- a run that ends with the status of a refusal stopped for it
  pub refusal_found : (wanted : Status) → IsRefusal wanted → ended ≡ wanted → {P : Type 0}
      → ((why : Refusal) → stops (stop.Refused why) → refusal_status why ≡ wanted → Prints (refusal_text why) pb.written pa.written → P) → P
  refusal_found wanted is e {P} by =
      let told = reading_promises.refused (subst IsRefusal (sym e) is) in
      by told.why told.cause.err (sym told.status ∙ e) told.report

  -- where no call failed it ends as each answer and each stop does
  pub ends_as : (ends : Contents → Status → Type 0)
      → (NoneFailed before after pb pa → (held : Files) → before.files ≡ Some held → (answer : A) → found answer
      → ends (contents_in held names) (report.status answer))
      → (NoneFailed before after pb pa → (held : Files) → before.files ≡ Some held → (why : Stop) → stops why
      → ends (contents_in held names) (stop_status why) ⊎ (stop_status why ≡ status.OutOfMemory))
      → EndsAsDue ends names before after pb pa ended
  ends_as ends answers_end stops_end none = go before.files refl
    where
      by : (held : Files) → before.files ≡ Some held → (r : Result A Stop) → IsReading found stops names before after r
          → ends (contents_in held names) (answer_status report.status r) ⊎ (answer_status report.status r ≡ status.OutOfMemory)
      by held told (Ok answer) is = inl (answers_end none held told answer is.ok.1)
      by held told (Err why) is = stops_end none held told why is.err

      go : (files : Option Files) → before.files ≡ files
          → IfSome files (λ held. ends (contents_in held names) ended ⊎ (ended ≡ status.OutOfMemory))
      go None told = tt
      go (Some held) told =
          unfailed (IsReading found stops names before after) report.whole report.part report.status pb pa ended run none.printing
          (λ s. ends (contents_in held names) s ⊎ (s ≡ status.OutOfMemory)) (by held told run.answer run.serves)

-- ---- a command whose account is all that it says

-- what is known whether or not the shelf tells its files, as it is told where it does
pub told_of : {X A : Type 0} (step : Contents → Result X Refusal) (tell : X → A → Type 0) (print : A → Printing) (names : Names) (pb pa : View)
    (files : Option Files) (read : X) (told : A) → ComesTo step names files (Ok read) → tell read told → print told pb.written pa.written
    → IfSome files (λ held. IsTold step tell print names held pb pa)
told_of step tell print names pb pa None read told due tells printed = tt
told_of step tell print names pb pa (Some held) read told due tells printed =
    record { read = read; due = due; told = told; tells = tells; report = printed }

pub fault_of : {X F : Type 0} (step : Contents → Result X Refusal) (kind : F → Refusal) (names : Names) (pb pa : View)
    (files : Option Files) (fault : F) → ComesTo step names files (Err (kind fault)) → Prints (refusal_text (kind fault)) pb.written pa.written
    → IfSome files (λ held. IsFaultTold step kind names held pb pa)
fault_of step kind names pb pa None fault due printed = tt
fault_of step kind names pb pa (Some held) fault due printed = record { fault = fault; due = due; report = printed }

-- ---- the account, from that of the last step

pub reads_found : {X A : Type 0} {step : Contents → Result X Refusal} {names : Names} {before after : View} {found : A → Type 0}
    {stops : Stop → Type 0} {x : X} {answer : A} → IsStep step names before after (Ok x) → found answer
    → IsReading found stops names before after (Ok answer)
reads_found is found = record {
  ok = (is.ok.0, found);
  err = tt;
  may = tt;
  files = is.files;
  made = is.made;
  faults = is.faults;
  read_faults = is.read_faults;
}

pub reads_stopped : {X A : Type 0} {step : Contents → Result X Refusal} {names : Names} {before after : View} {found : A → Type 0}
    {stops : Stop → Type 0} {why : Stop} → IsStep step names before after (Err why) → stops why
    → IsReading found stops names before after (Err why)
reads_stopped is stops = record {
  ok = tt;
  err = stops;
  may = is.may;
  files = is.files;
  made = is.made;
  faults = is.faults;
  read_faults = is.read_faults;
}

-- where the value of the step is told as it is
pub step_account : {A : Type 0} (step : Contents → Result A Refusal) (names : Names) (before after : View) (r : Result A Stop)
    → IsStep step names before after r
    → IsReading (IsFound step (λ read told. told ≡ read) names before.files) (Stops step names before after) names before after r
step_account step names before after (Ok x) is = reads_found is (record { read = x; due = is.ok.1; tells = refl })
step_account step names before after (Err why) is = reads_stopped is is.err

-- ---- what follows

module _ {X A : Type 0} (reader : Reader X A) (answers : (answer : A) → IsAnswer (reader.report.status answer)) (names : Names)
    (before after pb pa : View) (ended : Status) (run : IsReaderRun reader names before after pb pa ended) where
  abbrev found : A → Type 0
  found = IsFound reader.due reader.tells names before.files

  abbrev stops : Stop → Type 0
  stops = Stops reader.due names before after

  pub reader_promises : ReaderPromises reader names before after pb pa ended
  reader_promises = reading_promises found stops names reader.report answers before after pb pa ended run
