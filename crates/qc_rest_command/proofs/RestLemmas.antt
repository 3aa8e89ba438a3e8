-- What follows from the account of the files of what is left.
use Rattle.std.proofs.Common.{◌≡◌, ◌≢◌, ◌⊎◌, ◌∙◌, ℕ, List, Option, None, Some, Result, Ok, Err, IfSome, refl, sym, subst, inl, inr}
use Rattle.qc_dispatch.specs.Following.{journal_of}
use Rattle.qc_dispatch.specs.Journal.{Journal}
use Rattle.qc_dispatch.specs.Promises.{Keeps}
use Rattle.qc_io.specs.Outside.{Files, View}
use Rattle.qc_model.specs.Instance.{InstanceView, Valid}
use Rattle.qc_model.specs.Rules.{Feasible}
use Rattle.qc_rest.specs.declared.rest.RestError.{RestError}
use Rattle.qc_rest.specs.declared.rest.RestError.TheVariants as error
use Rattle.qc_rest.specs.Whole.{IsNoRest}
use Rattle.qc_run.specs.declared.inputs.Input.TheVariants as input
use Rattle.qc_run.specs.declared.no_rest.NoRest.{NoRest}
use Rattle.qc_run.specs.declared.refusal.Stop.{Stop}
use Rattle.qc_run.specs.declared.status.Status.{Status}
use Rattle.qc_run.specs.declared.status.Status.TheVariants as status
use Rattle.qc_run.specs.Due.{Contents, contents_in, input_due}
use Rattle.qc_run.specs.Inputs.{Replanning}
use Rattle.qc_run.specs.Reports.{Printing, Prints, PrintsPart, answer_prints, answer_status}
use Rattle.qc_run.specs.Steps.{ComesTo, Stops}
use Rattle.qc_run.specs.Texts.{stop_status}
use Rattle.qc_run.specs.Told.{EndsBy, IsCutTold, NoneFailed}
use Rattle.qc_run.proofs.DueLemmas.{comes_due}
use Rattle.qc_run.proofs.StatusLemmas.{IsOwn, stop_is_not}
use Rattle.qc_run.proofs.ToldLemmas.{memory_told, never_usage, of_status, refused_told, stop_due, unfailed, whole_of}
use Rattle.qc_sheet_command.specs.declared.load.Load.{Load}
use Rattle.qc_sheet_command.specs.Due.{load_due}
use Rattle.qc_rest_command.specs.declared.answer.Renewing.{Renewing}
use Rattle.qc_rest_command.specs.declared.answer.Renewing.TheVariants as renewing
use Rattle.qc_rest_command.specs.Account.{IsRenewing, IsRestRun}
use Rattle.qc_rest_command.specs.Promises.{IsBrokenPrinted, IsDoneTold, IsKept, IsNonePrinted, IsStopTold, RestPromises}
use Rattle.qc_rest_command.specs.Ends.{EndsJudged, EndsLogged, EndsRest, HasNoRest}
use Rattle.qc_rest_command.specs.Texts.{TellsNoRest, renewing_status, renewing_text}
use Rattle.qc_rest_command.specs.Worked.{IsLogRefused, StopsRest}
use Rattle.qc_rest_command.proofs.KnownLemmas.{plans_the_whole}
use Rattle.qc_rest_command.proofs.OneRestLemmas.{not_both}

own : (a : Renewing) → IsOwn (renewing_status a)
own renewing.WriteFault = tt
own (renewing.Broken told) = tt
own (renewing.NoRest told) = tt
own (renewing.Renewed told) = tt

abbrev whole : Renewing → Printing
whole a = Prints (renewing_text a)

abbrev part : Renewing → Printing
part a = PrintsPart (renewing_text a)

module _ (asked : Replanning) (before after pb pa : View) (ended : Status) (run : IsRestRun asked before after pb pa ended) where
  abbrev account : Result Renewing Stop → Type 0
  account = IsRenewing asked before after

  -- ---- the answers

  done_told : (r : Result Renewing Stop) → account r → answer_status renewing_status r ≡ status.Done
      → answer_prints Prints whole r pb.written pa.written → IsDoneTold asked before after pb pa
  done_told (Ok (renewing.Renewed told)) serves e report = record {
    told = told;
    renewed = serves.0;
    read_back = serves.0.read_back;
    plans = plans_the_whole asked.inputs before.files told.worked serves.0.ready.worked told.rest serves.0.ready.rest;
    report = report;
  }
  done_told (Ok renewing.WriteFault) serves e report = absurd (cc e)
  done_told (Ok (renewing.Broken told)) serves e report = absurd (cc e)
  done_told (Ok (renewing.NoRest told)) serves e report = absurd (cc e)
  done_told (Err why) serves e report = absurd (stop_is_not why status.Done e tt)

  none_told : (r : Result Renewing Stop) → account r → answer_status renewing_status r ≡ status.NoRest
      → answer_prints Prints whole r pb.written pa.written → IsNonePrinted asked before pb pa
  none_told (Ok (renewing.NoRest told)) serves e report = record { told = told; none = serves.0.0; report = report }
  none_told (Ok renewing.WriteFault) serves e report = absurd (cc e)
  none_told (Ok (renewing.Broken told)) serves e report = absurd (cc e)
  none_told (Ok (renewing.Renewed told)) serves e report = absurd (cc e)
  none_told (Err why) serves e report = absurd (stop_is_not why status.NoRest e tt)

  broken_told : (r : Result Renewing Stop) → account r → answer_status renewing_status r ≡ status.Broken
      → answer_prints Prints whole r pb.written pa.written → IsBrokenPrinted asked before pb pa
  broken_told (Ok (renewing.Broken told)) serves e report = record { told = told; broken = serves.0.0; report = report }
  broken_told (Ok renewing.WriteFault) serves e report = absurd (cc e)
  broken_told (Ok (renewing.NoRest told)) serves e report = absurd (cc e)
  broken_told (Ok (renewing.Renewed told)) serves e report = absurd (cc e)
  broken_told (Err why) serves e report = absurd (stop_is_not why status.Broken e tt)

  -- ---- what is left in the files

  stays : (r : Result Renewing Stop) → account r → answer_status renewing_status r ≢ status.Done
      → answer_status renewing_status r ≢ status.WriteFault → after.files ≡ before.files
  stays (Err why) serves one two = serves.2.files
  stays (Ok renewing.WriteFault) serves one two = absurd (two refl)
  stays (Ok (renewing.Broken told)) serves one two = serves.0.1.files
  stays (Ok (renewing.NoRest told)) serves one two = serves.0.1.files
  stays (Ok (renewing.Renewed told)) serves one two = absurd (one refl)

  leaves : ended ≢ status.Done → ended ≢ status.WriteFault → after.files ≡ before.files
  leaves one two =
      let told = whole_of account whole part renewing_status pb pa ended run two in
      stays run.answer run.serves (λ e. one (told.0 ∙ e)) (λ e. two (told.0 ∙ e))

  kept : (r : Result Renewing Stop) → account r → IsKept asked before after
  kept (Err why) serves = inl serves.2.files
  kept (Ok renewing.WriteFault) serves =
      let s = serves.0 in inr (record { told = s.told; text = s.text; ready = s.ready; left = s.left })
  kept (Ok (renewing.Broken told)) serves = inl serves.0.1.files
  kept (Ok (renewing.NoRest told)) serves = inl serves.0.1.files
  kept (Ok (renewing.Renewed told)) serves =
      let s = serves.0 in inr (record { told = told; text = s.text; ready = s.ready; left = inr (inr (inr s.stored)) })

  -- ---- what the sink got where the run ended with WriteFault

  stop_told : (r : Result Renewing Stop) → account r → answer_status renewing_status r ≡ status.WriteFault
      → pa.faults ≡ pb.faults → answer_prints Prints whole r pb.written pa.written → IsStopTold asked before after pb pa
  stop_told (Ok renewing.WriteFault) serves e faults report =
      record { stopped = serves.0; faults = faults; report = report }
  stop_told (Ok (renewing.Broken told)) serves e faults report = absurd (cc e)
  stop_told (Ok (renewing.NoRest told)) serves e faults report = absurd (cc e)
  stop_told (Ok (renewing.Renewed told)) serves e faults report = absurd (cc e)
  stop_told (Err why) serves e faults report = absurd (stop_is_not why status.WriteFault e tt)

  write_fault : ended ≡ status.WriteFault → IsCutTold account part pb pa ⊎ IsStopTold asked before after pb pa
  write_fault e = elim run.reports.ending [
    | inl told ↦ inr (stop_told run.answer run.serves (sym told.status ∙ e) told.faults told.printed)
    | inr cut ↦ inl (record { rose = cut.rose; answer = run.answer; serves = run.serves; report = cut.printed })
  ]

  -- ---- what is due of the files comes where no call failed

  module _ (none : NoneFailed before after pb pa) (held : Files) (told : before.files ≡ Some held) where
    abbrev contents : Contents
    contents = contents_in held asked.inputs

    abbrev Ends : Status → Type 0
    Ends s = EndsRest contents s ⊎ (s ≡ status.OutOfMemory)

    -- the plan was read and is feasible
    module _ (load : Load) (due : ComesTo load_due asked.inputs before.files (Ok load)) where
      load_is : load_due contents ≡ Ok load
      load_is = comes_due load_due asked.inputs held before.files told (Ok load) due

      judged : (s : Status) → EndsJudged contents load s → Ends s
      judged s h = inl (rw load_is h)

      module _ (feasible : Feasible load.cargo.inst load.sched) where
        logged : (s : Status) → EndsBy (EndsLogged load) (input_due input.Log contents) s → Ends s
        logged s h = judged s (record { broken = λ not. absurd (not feasible); feasible = λ _. h })

        through : (text : List ℕ) → ComesTo (input_due input.Log) asked.inputs before.files (Ok text) → (s : Status) → EndsLogged load text s → Ends s
        through text log s h =
            let log_is = comes_due (input_due input.Log) asked.inputs held before.files told (Ok text) log in
            logged s (rw log_is h)

        log_stops : (why : Stop) → Stops (input_due input.Log) asked.inputs before after why → Ends (stop_status why)
        log_stops why h =
            elim (stop_due (input_due input.Log) (EndsLogged load) asked.inputs before after held told none.reading why h) [
              | inl due ↦ logged (stop_status why) due
              | inr memory ↦ inr memory
            ]

        log_refused : (why : Stop) → IsLogRefused load asked.inputs before after why → Ends (stop_status why)
        log_refused why h =
            subst (λ (w : Stop). Ends (stop_status w)) (sym h.refused)
            (through h.text h.due status.BadLog (inr (record { fault = h.fault; faulty = h.faulty; refused = refl })))

    ends_stopped : (why : Stop) → StopsRest asked.inputs before after why → Ends (stop_status why)
    ends_stopped why (inl stops) = stop_due load_due (EndsJudged contents) asked.inputs before after held told none.reading why stops
    ends_stopped why (inr at_log) = elim at_log.log [
      | inl stops ↦ log_stops at_log.load at_log.due at_log.feasible why stops
      | inr faulty ↦ log_refused at_log.load at_log.due at_log.feasible why faulty
    ]

    no_memory : (inst : InstanceView) (it : RestError) (no_rest : NoRest) → TellsNoRest inst it no_rest → it ≢ error.OutOfMemory
    no_memory inst it no_rest tells e = subst (λ (x : RestError). TellsNoRest inst x no_rest) e tells

    no_rest_of : (j : Journal) → Valid j.course.inst → Keeps j.course → (it : RestError) → IsNoRest j it → it ≢ error.OutOfMemory
        → HasNoRest j
    no_rest_of j valid keeps it why other = record {
      error = it;
      why = why;
      no_memory = other;
      no_rest = λ has. not_both j valid keeps has.0 has.1 it why other;
    }

    answer_ends : (r : Result Renewing Stop) → account r → Ends (answer_status renewing_status r)
    answer_ends (Err why) serves = ends_stopped why serves.0
    answer_ends (Ok renewing.WriteFault) serves = absurd (none.writing serves.0.rose)
    answer_ends (Ok (renewing.Broken shown)) serves =
        let is = serves.0.0 in
        judged is.load is.due status.Broken (record { broken = λ _. refl; feasible = λ feasible. absurd (is.tells.is.not_allowed feasible) })
    answer_ends (Ok (renewing.NoRest shown)) serves =
        let is = serves.0.0 in
        let work = is.is in
        through is.worked.load work.due work.feasible work.text work.log status.NoRest (inl (record {
          journal = journal_of is.worked.followed;
          followed = work.followed;
          by = inr (
            refl,
            no_rest_of (journal_of is.worked.followed) work.valid work.keeps is.error is.none
                (no_memory is.worked.followed.dispatch.inst is.error shown is.tells),
          );
        }))
    answer_ends (Ok (renewing.Renewed shown)) serves =
        let ready = serves.0.ready in
        let work = ready.worked in
        through shown.worked.load work.due work.feasible work.text work.log status.Done (inl (record {
          journal = journal_of shown.worked.followed;
          followed = work.followed;
          by = inl (refl, (shown.rest, ready.rest));
        }))

  complete : NoneFailed before after pb pa → (files : Option Files) → before.files ≡ files
      → IfSome files (λ held. EndsRest (contents_in held asked.inputs) ended ⊎ (ended ≡ status.OutOfMemory))
  complete none None told = tt
  complete none (Some held) told =
      unfailed account whole part renewing_status pb pa ended run none.printing (λ s. EndsRest (contents_in held asked.inputs) s ⊎ (s ≡ status.OutOfMemory))
      (answer_ends none held told run.answer run.serves)

  pub rest_promises : RestPromises asked before after pb pa ended
  rest_promises = record {
    done = λ e. of_status account whole part renewing_status pb pa ended run status.Done e (λ f. cc f) done_told;
    no_rest = λ e. of_status account whole part renewing_status pb pa ended run status.NoRest e (λ f. cc f) none_told;
    broken = λ e. of_status account whole part renewing_status pb pa ended run status.Broken e (λ f. cc f) broken_told;
    leaves = leaves;
    left = kept run.answer run.serves;
    write_fault = write_fault;
    refused = refused_told account whole part renewing_status pb pa ended run own;
    no_usage = never_usage account whole part renewing_status pb pa ended run own (λ h. h.1);
    out_of_memory = memory_told account whole part renewing_status pb pa ended run own;
    complete = λ none. complete none before.files refl;
  }
