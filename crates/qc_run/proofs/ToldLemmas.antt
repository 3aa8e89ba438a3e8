-- What follows from a run's status, whatever its command is.
use Rattle.std.proofs.Common.{◌≡◌, ◌≢◌, ◌⊎◌, Some, Result, Ok, Err, refl, sym, subst, inl, inr, ◌∙◌, codes}
use Rattle.qc_io.specs.Outside.{Files, Rose, View}
use Rattle.qc_run.specs.declared.refusal.Refusal.{Refusal}
use Rattle.qc_run.specs.declared.refusal.Refusal.TheVariants as refusal
use Rattle.qc_run.specs.declared.refusal.Stop.{Stop}
use Rattle.qc_run.specs.declared.refusal.Stop.TheVariants as stop
use Rattle.qc_run.specs.declared.status.Status.{Status}
use Rattle.qc_run.specs.declared.status.Status.TheVariants as status
use Rattle.qc_run.specs.Due.{Contents, contents_in}
use Rattle.qc_run.specs.Inputs.{Names}
use Rattle.qc_run.specs.Reports.{IsRun, Printing, Prints, answer_prints, answer_status}
use Rattle.qc_run.specs.Steps.{Stops}
use Rattle.qc_run.specs.Texts.{refusal_status, stop_status}
use Rattle.qc_run.specs.Told.{EndsBy, IsCutTold, IsRefusal, IsRefusalTold, ReadPromises}
use Rattle.qc_run.proofs.DueLemmas.{stop_is}
use Rattle.qc_run.proofs.StatusLemmas.{IsOwn, stop_is_not}

-- a refusal's status is none of an own answer
refusal_not_own : (s : Status) → IsRefusal s → IsOwn s → ⊥
refusal_not_own status.Usage is own = own
refusal_not_own other is own = assumption (is, own)

module _ {A : Type 0} (account : Result A Stop → Type 0) (whole part : A → Printing) (status_of : A → Status)
    (before after : View) (ended : Status) (run : IsRun account whole part status_of before after ended) where
  -- a run that doesn't end with WriteFault reported whole an answer that has its status
  pub whole_of : ended ≢ status.WriteFault
      → (ended ≡ answer_status status_of run.answer) × answer_prints Prints whole run.answer before.written after.written
  whole_of other = elim run.reports.ending [
    | inl told ↦ (told.status, told.printed)
    | inr cut ↦ absurd (other cut.status)
  ]

  -- a run that doesn't end with WriteFault, and whose answer has its status, of a property of the answer
  pub of_status : (wanted : Status) → ended ≡ wanted → wanted ≢ status.WriteFault → {P : Type 0}
      → ((answer : Result A Stop) → account answer → answer_status status_of answer ≡ wanted
      → answer_prints Prints whole answer before.written after.written → P) → P
  of_status wanted e other {P} by =
      let told = whole_of (λ fault. other (sym e ∙ fault)) in
      by run.answer run.serves (sym told.0 ∙ e) told.1

  module _ (own : (answer : A) → IsOwn (status_of answer)) where
    refusal_by : (answer : Result A Stop) → account answer → IsRefusal (answer_status status_of answer)
        → ended ≡ answer_status status_of answer → answer_prints Prints whole answer before.written after.written
        → IsRefusalTold account before after ended
    refusal_by (Ok answer) serves is e printed = absurd (refusal_not_own (status_of answer) is (own answer))
    refusal_by (Err stop.OutOfMemory) serves is e printed = absurd is
    refusal_by (Err (stop.Refused why)) serves is e printed =
        record { why = why; status = e; cause = serves; report = printed }

    pub refused_told : IsRefusal ended → IsRefusalTold account before after ended
    refused_told is =
        let told = whole_of (λ e. subst IsRefusal e is) in
        refusal_by run.answer run.serves (subst IsRefusal told.0 is) told.0 told.1

    memory_by : (answer : Result A Stop) → answer_status status_of answer ≡ status.OutOfMemory
        → answer_prints Prints whole answer before.written after.written
        → Prints (codes "OutOfMemory\n") before.written after.written
    memory_by (Ok answer) e printed = absurd (subst IsOwn e (own answer))
    memory_by (Err stop.OutOfMemory) e printed = printed
    memory_by (Err (stop.Refused why)) e printed = absurd (no_memory why e)
      where
        no_memory : (why : Refusal) → refusal_status why ≡ status.OutOfMemory → ⊥
        no_memory refusal.Usage e = cc e
        no_memory other e = cc e

    -- want of memory is told by its line alone
    pub memory_told : ended ≡ status.OutOfMemory → Prints (codes "OutOfMemory\n") before.written after.written
    memory_told e = let told = whole_of (λ fault. cc (e, fault)) in memory_by run.answer (sym told.0 ∙ e) told.1

    usage_by : ¬ account (Err (stop.Refused refusal.Usage)) → (answer : Result A Stop) → account answer
        → answer_status status_of answer ≢ status.Usage
    usage_by none (Ok answer) serves e = subst IsOwn e (own answer)
    usage_by none (Err (stop.Refused refusal.Usage)) serves e = none serves
    usage_by none (Err other) serves e = cc e

    -- a command whose account has no Usage doesn't end with it
    pub never_usage : ¬ account (Err (stop.Refused refusal.Usage)) → ended ≢ status.Usage
    never_usage none e =
        let told = whole_of (λ fault. cc (e, fault)) in usage_by none run.answer run.serves (sym told.0 ∙ e)

  -- a run that ends with WriteFault, though no answer of the command has that status, has a sink that failed
  pub cut_told : ((answer : A) → status_of answer ≢ status.WriteFault) → ended ≡ status.WriteFault
      → IsCutTold account part before after
  cut_told none e = elim run.reports.ending [
    | inl told ↦ absurd (by run.answer (sym told.status ∙ e))
    | inr cut ↦ record { rose = cut.rose; answer = run.answer; serves = run.serves; report = cut.printed }
  ]
    where
      by : (answer : Result A Stop) → answer_status status_of answer ≡ status.WriteFault → ⊥
      by (Ok answer) e = none answer e
      by (Err why) e = stop_is_not why status.WriteFault e tt

  -- where no call on the sink failed, what holds of the answer's status holds of the run's
  pub unfailed : ¬ Rose before.faults after.faults → (P : Status → Type 0) → P (answer_status status_of run.answer) → P ended
  unfailed none P holds = elim run.reports.ending [
    | inl told ↦ subst P (sym told.status) holds
    | inr cut ↦ absurd (none cut.rose)
  ]

-- ---- what each command promises that only reads

module _ {A : Type 0} (account : Result A Stop → Type 0) (whole part : A → Printing) (status_of : A → Status)
    (before after pb pa : View) (ended : Status) (run : IsRun account whole part status_of pb pa ended) where
  pub read_promises : ((answer : A) → IsOwn (status_of answer)) → ((answer : A) → status_of answer ≢ status.WriteFault)
      → ¬ account (Err (stop.Refused refusal.Usage)) → after.files ≡ before.files → ReadPromises account part before after pb pa ended
  read_promises own no_fault no_usage files = record {
    refused = refused_told account whole part status_of pb pa ended run own;
    no_usage = never_usage account whole part status_of pb pa ended run own no_usage;
    out_of_memory = memory_told account whole part status_of pb pa ended run own;
    files_stay = files;
    write_fault = cut_told account whole part status_of pb pa ended run no_fault;
  }

-- what stopped is due where no call failed, or it is want of memory
pub stop_due : {A : Type 0} (step : Contents → Result A Refusal) (own : A → Status → Type 0) (names : Names) (before after : View) (held : Files)
    → before.files ≡ Some held → ¬ Rose before.read_faults after.read_faults → (why : Stop) → Stops step names before after why
    → EndsBy own (step (contents_in held names)) (stop_status why) ⊎ (stop_status why ≡ status.OutOfMemory)
stop_due step own names before after held told none stop.OutOfMemory h = inr refl
stop_due step own names before after held told none (stop.Refused why) h =
    inl (rw (stop_is step names before after held told none why h) refl)
