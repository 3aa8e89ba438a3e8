-- What follows from the account of a list of moves.
use Rattle.std.proofs.Common.{◌≡◌, ◌≢◌, ◌⊎◌, ◌∙◌, Option, None, Some, Result, Ok, Err, refl, sym, inl, inr, IfSome}
use Rattle.qc_io.specs.Outside.{Files, View}
use Rattle.qc_run.specs.declared.bay_plans.BayPlans.{BayPlans}
use Rattle.qc_run.specs.declared.refusal.Stop.{Stop}
use Rattle.qc_run.specs.declared.status.Status.{Status}
use Rattle.qc_run.specs.declared.status.Status.TheVariants as status
use Rattle.qc_run.specs.Due.{bay_plans_due, contents_in}
use Rattle.qc_run.specs.Inputs.{Moving, bay_plans_named}
use Rattle.qc_run.specs.Reports.{Printing, Prints, PrintsPart, answer_prints, answer_status}
use Rattle.qc_run.specs.Told.{EndsBy, IsCutTold, NoneFailed}
use Rattle.qc_run.proofs.DueLemmas.{comes_due}
use Rattle.qc_run.proofs.StatusLemmas.{IsOwn, stop_is_not}
use Rattle.qc_run.proofs.ToldLemmas.{memory_told, never_usage, of_status, refused_told, stop_due, unfailed, whole_of}
use Rattle.qc_moves_command.specs.declared.answer.MovesAnswer.{MovesAnswer}
use Rattle.qc_moves_command.specs.declared.answer.MovesAnswer.TheVariants as answer
use Rattle.qc_moves_command.specs.Account.{IsListing, IsMovesRun}
use Rattle.qc_moves_command.specs.Figures.{moves_status, moves_text}
use Rattle.qc_moves_command.specs.Promises.{IsDoneTold, IsLeft, IsStopTold, MovesPromises}

own : (a : MovesAnswer) → IsOwn (moves_status a)
own answer.WriteFault = tt
own (answer.Listed told) = tt

abbrev whole : MovesAnswer → Printing
whole a = Prints (moves_text a)

abbrev part : MovesAnswer → Printing
part a = PrintsPart (moves_text a)

module _ (asked : Moving) (before after pb pa : View) (ended : Status) (run : IsMovesRun asked before after pb pa ended) where
  abbrev account : Result MovesAnswer Stop → Type 0
  account = IsListing asked before after

  done_told : (r : Result MovesAnswer Stop) → account r → answer_status moves_status r ≡ status.Done
      → answer_prints Prints whole r pb.written pa.written → IsDoneTold asked before after pb pa
  done_told (Ok (answer.Listed told)) serves e report = record { told = told; listed = serves.0; report = report }
  done_told (Ok answer.WriteFault) serves e report = absurd (cc e)
  done_told (Err why) serves e report = absurd (stop_is_not why status.Done e tt)

  done : ended ≡ status.Done → IsDoneTold asked before after pb pa
  done e = of_status account whole part moves_status pb pa ended run status.Done e (λ f. cc f) done_told

  -- ---- what is left in the files

  stays : (r : Result MovesAnswer Stop) → account r → answer_status moves_status r ≢ status.Done
      → answer_status moves_status r ≢ status.WriteFault → after.files ≡ before.files
  stays (Err why) serves one two = serves.2
  stays (Ok answer.WriteFault) serves one two = absurd (two refl)
  stays (Ok (answer.Listed told)) serves one two = absurd (one refl)

  leaves : ended ≢ status.Done → ended ≢ status.WriteFault → after.files ≡ before.files
  leaves one two =
      let told = whole_of account whole part moves_status pb pa ended run two in
      stays run.answer run.serves (λ e. one (told.0 ∙ e)) (λ e. two (told.0 ∙ e))

  left : (r : Result MovesAnswer Stop) → account r → IsLeft asked before after
  left (Err why) serves = inl serves.2
  left (Ok answer.WriteFault) serves =
      elim serves.0.left [ inl same ↦ inl same | inr stored ↦ inr (serves.0.found, stored) ]
  left (Ok (answer.Listed told)) serves = inr (serves.0.found, serves.0.stored)

  -- ---- what the sink got where the run ended with WriteFault

  stop_told : (r : Result MovesAnswer Stop) → account r → answer_status moves_status r ≡ status.WriteFault
      → pa.faults ≡ pb.faults → answer_prints Prints whole r pb.written pa.written → IsStopTold asked before after pb pa
  stop_told (Ok answer.WriteFault) serves e faults report =
      record { stopped = serves.0; faults = faults; report = report }
  stop_told (Ok (answer.Listed told)) serves e faults report = absurd (cc e)
  stop_told (Err why) serves e faults report = absurd (stop_is_not why status.WriteFault e tt)

  write_fault : ended ≡ status.WriteFault → IsCutTold account part pb pa ⊎ IsStopTold asked before after pb pa
  write_fault e = elim run.reports.ending [
    | inl told ↦ inr (stop_told run.answer run.serves (sym told.status ∙ e) told.faults told.printed)
    | inr cut ↦ inl (record { rose = cut.rose; answer = run.answer; serves = run.serves; report = cut.printed })
  ]

  -- ---- what is due of the files comes where no call failed

  module _ (none : NoneFailed before after pb pa) where
    abbrev ends : BayPlans → Status → Type 0
    ends plans s = s ≡ status.Done

    abbrev Ends : Files → Status → Type 0
    Ends held s = EndsBy ends (bay_plans_due (contents_in held (bay_plans_named asked))) s ⊎ (s ≡ status.OutOfMemory)

    answer_ends : (held : Files) → before.files ≡ Some held → (r : Result MovesAnswer Stop) → account r
        → Ends held (answer_status moves_status r)
    answer_ends held told (Err why) serves =
        stop_due bay_plans_due ends (bay_plans_named asked) before after held told none.reading why serves.0
    answer_ends held told (Ok answer.WriteFault) serves = absurd (none.writing serves.0.rose)
    answer_ends held told (Ok (answer.Listed figures)) serves =
        let due = comes_due bay_plans_due (bay_plans_named asked) held before.files told (Ok serves.0.found.plans) serves.0.found.due in
        inl (rw due refl)

    complete : (files : Option Files) → before.files ≡ files → IfSome files (λ held. Ends held ended)
    complete None told = tt
    complete (Some held) told =
        unfailed account whole part moves_status pb pa ended run none.printing (Ends held)
        (answer_ends held told run.answer run.serves)

  pub moves_promises : MovesPromises asked before after pb pa ended
  moves_promises = record {
    done = done;
    leaves = leaves;
    left = left run.answer run.serves;
    write_fault = write_fault;
    refused = refused_told account whole part moves_status pb pa ended run own;
    no_usage = never_usage account whole part moves_status pb pa ended run own (λ h. h.0);
    out_of_memory = memory_told account whole part moves_status pb pa ended run own;
    complete = λ none. complete none before.files refl;
  }
