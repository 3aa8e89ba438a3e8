-- What the files come to at the log, behind the steps that read the plan.
use Rattle.std.proofs.Common.{◌≡◌, List, ℕ, Option, Result, Ok, Err, IfErr, IfOk, IsSome, refl, subst, inl, inr, ◌∙◌, arith}
use Rattle.qc_dispatch.specs.declared.fault.DispatchFault.{DispatchFault}
use Rattle.qc_dispatch.specs.declared.follow.Followed.{Followed}
use Rattle.qc_dispatch.specs.Following.{journal_of}
use Rattle.qc_dispatch.specs.Journal.{IsFaulty, IsFollowed}
use Rattle.qc_io.specs.Outside.{Files, View}
use Rattle.qc_dispatch.specs.Promises.{Keeps}
use Rattle.qc_model.specs.Instance.{Valid}
use Rattle.qc_model.specs.Rules.{Feasible}
use Rattle.qc_run.specs.declared.broken.Broken.{Broken}
use Rattle.qc_run.specs.declared.inputs.Input.TheVariants as input
use Rattle.qc_run.specs.declared.refusal.LogFault.TheVariants as log
use Rattle.qc_run.specs.declared.refusal.Refusal.TheVariants as refusal
use Rattle.qc_run.specs.declared.refusal.Stop.{Stop}
use Rattle.qc_run.specs.declared.refusal.Stop.TheVariants as stop
use Rattle.qc_run.specs.Broken.{TellsRule}
use Rattle.qc_run.specs.Due.{input_due}
use Rattle.qc_run.specs.Inputs.{Names}
use Rattle.qc_run.specs.Steps.{ComesTo, IsStep, MayStop}
use Rattle.qc_run.proofs.DueLemmas.{stops_from}
use Rattle.qc_sheet_command.specs.declared.load.Load.{Load}
use Rattle.qc_sheet_command.specs.Due.{load_due}
use Rattle.qc_sheet_command.specs.Listed.{IsLoad}
use Rattle.qc_rest_command.specs.declared.reading.Reading.{Reading}
use Rattle.qc_rest_command.specs.declared.reading.Reading.TheVariants as reading
use Rattle.qc_rest_command.specs.Read.{IsRead, IsReadingOf}
use Rattle.qc_rest_command.specs.Worked.{StopsRest}

-- the plan couldn't be read
pub plan_unread : {names : Names} {before after : View} {why : Stop} → IsStep {A = Load} load_due names before after (Err why)
    → IsReadingOf names before after (Err why)
plan_unread first = record {
  ok = tt;
  err = inl first.err;
  may = first.may;
  files = first.files;
  made = first.made;
  faults = first.faults;
  read_faults = first.read_faults;
}

-- the plan breaks a rule
pub plan_broken : {names : Names} {before after : View} {load : Load} → IsStep load_due names before after (Ok load) → (told : Broken)
    → TellsRule load.cargo.inst load.sched told → IsReadingOf names before after (Ok (reading.Broken told))
plan_broken {load = load} first told tells = record {
  ok = (first.ok.0, record { load = load; due = first.ok.1; tells = tells });
  err = tt;
  may = tt;
  files = first.files;
  made = first.made;
  faults = first.faults;
  read_faults = first.read_faults;
}

module _ {names : Names} {before mid after : View} {load : Load} (first : IsStep load_due names before mid (Ok load))
    (feasible : Feasible load.cargo.inst load.sched) where
  -- the log couldn't be read
  pub log_unread : {why : Stop} → IsStep {A = List ℕ} (input_due input.Log) names mid after (Err why) → IsReadingOf names before after (Err why)
  log_unread {why = why} second = record {
    ok = tt;
    err = inr (record {
      load = load;
      due = first.ok.1;
      feasible = feasible;
      log = inl (stops_from (input_due input.Log) names before mid after first.files first.ok.0 why second.err);
    });
    may = second.may;
    files = second.files ∙ first.files;
    made = second.made ∙ first.made;
    faults = second.faults ∙ first.faults;
    read_faults = omega (arith, first.read_faults, second.read_faults);
  }

  module _ {text : List ℕ} (second : IsStep (input_due input.Log) names mid after (Ok text)) where
    read : ComesTo (input_due input.Log) names before.files (Ok text)
    read = subst (λ (f : Option Files). ComesTo (input_due input.Log) names f (Ok text)) first.files second.ok.1

    reads : after.read_faults ≡ before.read_faults
    reads = second.ok.0 ∙ first.ok.0

    through : (result : Result Reading Stop) → IfOk result (IsRead names before.files)
        → IfErr result (StopsRest names before after) → IfErr result (MayStop names) → IsReadingOf names before after result
    through (Ok answer) ok err may = record {
      ok = (reads, ok);
      err = tt;
      may = tt;
      files = second.files ∙ first.files;
      made = second.made ∙ first.made;
      faults = second.faults ∙ first.faults;
      read_faults = omega (arith, first.read_faults, second.read_faults);
    }
    through (Err why) ok err may = record {
      ok = tt;
      err = err;
      may = may;
      files = second.files ∙ first.files;
      made = second.made ∙ first.made;
      faults = second.faults ∙ first.faults;
      read_faults = omega (arith, first.read_faults, second.read_faults);
    }

    pub log_followed : (followed : Followed) → IsFollowed load.cargo.inst load.sched text (journal_of followed) → IsLoad load
        → Valid followed.dispatch.inst → Keeps followed.dispatch
        → IsReadingOf names before after (Ok (reading.Worked (record { load = load; followed = followed })))
    log_followed followed is known valid keeps =
        through (Ok (reading.Worked (record { load = load; followed = followed })))
        (record { due = first.ok.1; feasible = feasible; text = text; log = read; followed = is; known = known; valid = valid; keeps = keeps }) tt tt

    pub log_refused : IsSome names.log → (fault : DispatchFault) → IsFaulty load.cargo.inst load.sched text fault
        → IsReadingOf names before after (Err (stop.Refused (refusal.BadLog (log.Dispatch fault))))
    log_refused named fault faulty =
        through (Err (stop.Refused (refusal.BadLog (log.Dispatch fault)))) tt
        (inr (record {
          load = load;
          due = first.ok.1;
          feasible = feasible;
          log = inr (record { text = text; due = read; fault = fault; faulty = faulty; refused = refl; reads = reads });
        }))
        named

    pub log_unheld : IsReadingOf names before after (Err stop.OutOfMemory)
    log_unheld = through (Err stop.OutOfMemory) tt (inl reads) tt
