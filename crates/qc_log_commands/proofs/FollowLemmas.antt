-- What the command comes to at the log, behind the steps that read the plan.
use Rattle.std.proofs.Common.{◌≡◌, List, ℕ, Option, Result, Ok, Err, IfErr, IfOk, IsSome, refl, subst, inl, inr, ◌∙◌, arith}
use Rattle.qc_dispatch.specs.declared.fault.DispatchFault.{DispatchFault}
use Rattle.qc_dispatch.specs.Following.{journal_of}
use Rattle.qc_dispatch.specs.Journal.{IsFaulty, IsFollowed}
use Rattle.qc_dispatch.specs.Promises.{Keeps}
use Rattle.qc_dispatch.specs.Worked.{with_tasks}
use Rattle.qc_dispatch.proofs.WorkedLemmas.{worked, worked_taken}
use Rattle.qc_freemove.proofs.FreeSafe.{free_safe}
use Rattle.qc_io.specs.Outside.{Files, View}
use Rattle.qc_model.specs.declared.task.Task.{Task}
use Rattle.qc_model.specs.Instance.{HasValidCranes, InstanceView, Valid}
use Rattle.qc_model.specs.Rules.{Feasible}
use Rattle.qc_run.specs.declared.inputs.Input.TheVariants as input
use Rattle.qc_run.specs.declared.reading.Job.{Job}
use Rattle.qc_run.specs.declared.refusal.LogFault.TheVariants as log
use Rattle.qc_run.specs.declared.refusal.Refusal.TheVariants as refusal
use Rattle.qc_run.specs.declared.refusal.Stop.{Stop}
use Rattle.qc_run.specs.declared.refusal.Stop.TheVariants as stop
use Rattle.qc_run.specs.Due.{input_due, job_due}
use Rattle.qc_run.specs.Inputs.{Names}
use Rattle.qc_run.specs.Steps.{ComesTo, IsStep, MayStop}
use Rattle.qc_run.proofs.DueLemmas.{stops_from}
use Rattle.qc_log_commands.specs.declared.dispatching.Dispatched.{Dispatched}
use Rattle.qc_log_commands.specs.declared.dispatching.Dispatching.{Dispatching}
use Rattle.qc_log_commands.specs.declared.dispatching.Dispatching.TheVariants as dispatching
use Rattle.qc_log_commands.specs.DispatchAccount.{IsDispatchAccount, IsDispatching, StopsDispatch}
use Rattle.qc_log_commands.specs.DispatchTold.{TellsCourse}

-- the cranes don't change with the lengths of tasks
cranes_kept : (inst : InstanceView) (tasks : List Task) → HasValidCranes inst → HasValidCranes (with_tasks inst tasks)
cranes_kept inst tasks cranes =
    record { count = cranes.count; ready = cranes.ready; reach = cranes.reach; names = cranes.names; order = cranes.order }

-- what is told of a log that was followed
pub course_told : (text : List ℕ) (told : Dispatched) → Feasible told.job.inst told.job.sched
    → IsFollowed told.job.inst told.job.sched text (journal_of told.followed)
    → Valid told.followed.dispatch.inst × Feasible told.followed.dispatch.inst told.followed.dispatch.plan
    → Keeps told.followed.dispatch → TellsCourse text told
course_told text told feasible followed plan keeps =
    let c = told.followed.dispatch in
    record {
      feasible = feasible;
      followed = followed;
      keeps = keeps;
      worked = worked_taken c keeps;
      safe = λ tasks sched work.
          let goes = worked c tasks sched plan.0 plan.1 keeps work in
          (goes, free_safe (with_tasks c.inst tasks) sched (cranes_kept c.inst tasks plan.0.cranes) goes);
    }

module _ {names : Names} {before mid after : View} {job : Job} (first : IsStep job_due names before mid (Ok job))
    (feasible : Feasible job.inst job.sched) where
  -- the log couldn't be read
  pub log_unread : {why : Stop} → IsStep {A = List ℕ} (input_due input.Log) names mid after (Err why) → IsDispatchAccount names before after (Err why)
  log_unread {why = why} second = record {
    ok = tt;
    err = inr (record {
      job = job;
      due = first.ok.1;
      feasible = feasible;
      log = inl (stops_from (input_due input.Log) names before mid after first.files first.ok.0 why second.err);
    });
    may = second.may;
    files = second.files ∙ first.files;
    made = second.made ∙ first.made;
    faults = second.faults ∙ first.faults;
    read_faults = omega (arith, first.read_faults, second.read_faults);
  }

  module _ {text : List ℕ} (second : IsStep (input_due input.Log) names mid after (Ok text)) where
    read : ComesTo (input_due input.Log) names before.files (Ok text)
    read = subst (λ (f : Option Files). ComesTo (input_due input.Log) names f (Ok text)) first.files second.ok.1

    reads : after.read_faults ≡ before.read_faults
    reads = second.ok.0 ∙ first.ok.0

    through : (result : Result Dispatching Stop) → IfOk result (IsDispatching names before.files)
        → IfErr result (StopsDispatch names before after) → IfErr result (MayStop names) → IsDispatchAccount names before after result
    through (Ok answer) ok err may = record {
      ok = (reads, ok);
      err = tt;
      may = tt;
      files = second.files ∙ first.files;
      made = second.made ∙ first.made;
      faults = second.faults ∙ first.faults;
      read_faults = omega (arith, first.read_faults, second.read_faults);
    }
    through (Err why) ok err may = record {
      ok = tt;
      err = err;
      may = may;
      files = second.files ∙ first.files;
      made = second.made ∙ first.made;
      faults = second.faults ∙ first.faults;
      read_faults = omega (arith, first.read_faults, second.read_faults);
    }

    pub log_followed : (told : Dispatched) → told.job ≡ job → TellsCourse text told
        → IsDispatchAccount names before after (Ok (dispatching.Dispatched told))
    log_followed told same tells =
        through (Ok (dispatching.Dispatched told))
        (record { read = job; due = first.ok.1; tells = record { job_told = same; text = text; log = read; tells = tells } }) tt tt

    pub log_refused : IsSome names.log → (fault : DispatchFault) → IsFaulty job.inst job.sched text fault
        → IsDispatchAccount names before after (Err (stop.Refused (refusal.BadLog (log.Dispatch fault))))
    log_refused named fault faulty =
        through (Err (stop.Refused (refusal.BadLog (log.Dispatch fault)))) tt
        (inr (record {
          job = job;
          due = first.ok.1;
          feasible = feasible;
          log = inr (record { text = text; due = read; fault = fault; faulty = faulty; refused = refl; reads = reads });
        }))
        named

    pub log_unheld : IsDispatchAccount names before after (Err stop.OutOfMemory)
    log_unheld = through (Err stop.OutOfMemory) tt (inl reads) tt
