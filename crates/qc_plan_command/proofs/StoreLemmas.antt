-- What a plan leaves in its files, from what the storing of its search says.
use Rattle.std.proofs.Common.{◌≡◌, ℕ, true, false, List, Option, None, Some, Result, Ok, Err, ◌⊎◌, ◌∙◌, inl, inr, refl, subst, subst₂, IfOk, IfSome, IsSomeAnd, OnErr, OnOk, is_err}
use Rattle.qc_io.specs.Outside.{Files, Rose, View}
use Rattle.qc_model.specs.declared.schedule.Slot.{Slot}
use Rattle.qc_model.specs.declared.direction.Direction.{Direction}
use Rattle.qc_model.specs.declared.direction.Direction.TheVariants.{Up, Down}
use Rattle.qc_model.specs.declared.turn.Turn.{Turn}
use Rattle.qc_model.specs.declared.turn.Turn.TheVariants as turn
use Rattle.qc_model.specs.Instance.{InstanceView, Valid}
use Rattle.qc_model.specs.OneWay.{IsAllowed, IsAllowedBy}
use Rattle.qc_search.specs.Run.{DoneView, IsSound, SearchView, search_from}
use Rattle.qc_starts.specs.Tight.{IsSeenSo}
use Rattle.qc_search.specs.Outcome.{WasOffered}
use Rattle.qc_search.specs.Stored.{IsTreeLeft, IsTreeStored, with_plan}
use Rattle.qc_search.specs.Stored.{IsSearching as IsTreeSearching}
use Rattle.qc_run.specs.declared.reading.OwnJob.{OwnJob}
use Rattle.qc_run.specs.Due.{contents_in, own_job_due}
use Rattle.qc_run.specs.declared.broken.Broken.{Broken}
use Rattle.qc_run.specs.Broken.{TellsBreakBy}
use Rattle.qc_run.specs.Inputs.{Planning}
use Rattle.qc_run.specs.Steps.{ComesTo, IsStep}
use Rattle.qc_run.proofs.DueLemmas.{own_job_turn}
use Rattle.qc_plan_command.specs.declared.answer.PlanAnswer.{PlanAnswer}
use Rattle.qc_plan_command.specs.declared.answer.PlanAnswer.TheVariants as answer
use Rattle.qc_plan_command.specs.Account.{IsLeft, IsPlanning, IsSearched, IsSearching, IsStopped, IsWritten, Writes}
use Rattle.qc_plan_command.specs.Found.{IsSoundAnswer, Tells}
use Rattle.qc_plan_command.specs.Resources.{IsSearchFor, WasRun}

-- what stays as it was is as it was, told or not
pub as_it_was : (P : Files → Type 0) (before after : Option Files) → after ≡ before
    → ((held : Files) → after ≡ Some held → P held) → IfSome before P
as_it_was P None after same by = tt
as_it_was P (Some held) after same by = by held same

-- ---- what the command comes to

-- what a search leaves, said over its instance and the shelf before it was told of
pub was_run : {E : Type 0} (inst : InstanceView) (nodes : ℕ) (now : SearchView) → now ≡ search_from inst nodes now.first
    → (found before_first : Option (List Slot)) → WasOffered inst found before_first now.first → (name : List ℕ)
    → (before mid after : Option Files) → mid ≡ before → (result : Result DoneView E)
    → IfOk result (λ done. IfSome mid (λ held. IsTreeStored now name held after done))
    → OnErr result (IfSome mid (λ held. IsTreeLeft now name held after))
    → IfOk result (IsSound now) → WasRun inst nodes before_first name before after result
was_run inst nodes now is found before_first offered name before mid after same result ok err sound = record {
  found = found;
  first = now.first;
  offered = offered;
  ok = subst₂ (λ (f : Option Files) (s : SearchView). IfOk result (λ done. IfSome f (λ held. IsTreeStored s name held after done)))
      same is ok;
  err = subst₂ (λ (f : Option Files) (s : SearchView). OnErr result (IfSome f (λ held. IsTreeLeft s name held after))) same is err;
  sound = subst (λ (s : SearchView). IfOk result (IsSound s)) is sound;
}

module _ (asked : Planning) (job : OwnJob) (allowed : IfSome job.own (IsAllowed job.inst)) (before created : Option Files)
    (due : ComesTo (own_job_due asked.inputs.own) asked.inputs before (Ok job)) (same : created ≡ before) where
  -- the writing of the search that is due was stopped
  stopped : (now : Option Files) → IfSome before (λ held. IsLeft asked held now)
      → IfSome before (λ held. IsStopped asked held now)
  stopped now = by before due
    where
      by : (files : Option Files) → ComesTo (own_job_due asked.inputs.own) asked.inputs files (Ok job)
          → IfSome files (λ held. IsLeft asked held now) → IfSome files (λ held. IsStopped asked held now)
      by None due left = tt
      by (Some held) due left = record { job = job; due = due; allowed = allowed; left = left }

  -- the plan's file couldn't be begun
  pub at_begin : IfSome before (λ held. IsStopped asked held created)
  at_begin = stopped created (as_it_was (λ held. IsLeft asked held created) before created same (λ held e. inl e))

  -- it was begun, which changed no file, and the search was run
  module _ (valid : Valid job.inst) (search : SearchView) (is : IsSearchFor job.inst asked.nodes job.own search)
      (mid after : Option Files) {E : Type 0} (result : Result DoneView E)
      (ran : WasRun job.inst asked.nodes search.first asked.tree created mid result) where
    abbrev now : SearchView
    now = search_from job.inst asked.nodes ran.first

    -- the search that is due came to what is stored
    abbrev searched : (held : Files) (done : DoneView)
        → ComesTo (own_job_due asked.inputs.own) asked.inputs (Some held) (Ok job)
        → IsTreeStored now asked.tree held mid done → IsSearched asked held
    searched held done due_is stored = record {
      inst = job.inst;
      own = job.own;
      due = due_is;
      turn = own_job_turn asked.inputs.own (contents_in held asked.inputs) job due_is;
      valid = valid;
      allowed = allowed;
      tree = stored.tree;
      done = done;
      found = record {
        first = ran.first;
        begins = record { found = ran.found; own_first = search.first; own_offered = is.offered; offered = ran.offered };
        came = stored.came;
      };
    }

    -- the search that is due has come so far
    abbrev searching : (held : Files)
        → ComesTo (own_job_due asked.inputs.own) asked.inputs (Some held) (Ok job)
        → IsTreeSearching now asked.tree held mid → IsSearching asked held
    searching held due_is stored = record {
      inst = job.inst;
      own = job.own;
      due = due_is;
      allowed = allowed;
      tree = stored.tree;
      found = record {
        first = ran.first;
        begins = record { found = ran.found; own_first = search.first; own_offered = is.offered; offered = ran.offered };
        best = stored.best;
        branched = stored.branched;
        ran = stored.ran;
      };
    }

    -- what then holds of the files with the tree holds of those at entry
    over : (P : Files → Type 0) (held : Files) → mid ≡ Some held → IfSome mid P → P held
    over P held is h = there mid is h
      where
        there : (m : Option Files) → m ≡ Some held → IfSome m P → P held
        there None is h = absurd (cc is)
        there (Some other) is h = let e : other ≡ held = cc in subst P e h

    -- the tree's file couldn't be made
    pub at_tree : IfSome created (λ held. IsTreeLeft now asked.tree held mid)
        → IfSome before (λ held. IsStopped asked held mid)
    at_tree left =
        stopped mid (by before due (subst (λ (f : Option Files). IfSome f (λ held. IsTreeLeft now asked.tree held mid)) same left))
      where
        by : (files : Option Files) → ComesTo (own_job_due asked.inputs.own) asked.inputs files (Ok job)
            → IfSome files (λ held. IsTreeLeft now asked.tree held mid)
            → IfSome files (λ held. IsLeft asked held mid)
        by None due_is left = tt
        by (Some held) due_is (inl same) = inl same
        by (Some held) due_is (inr stored) = inr (inl (searching held due_is stored, stored.files))

    -- the plan's file couldn't be made
    pub at_plan : (done : DoneView) → IfSome created (λ held. IsTreeStored now asked.tree held mid done)
        → IfSome mid (λ held. (after ≡ Some held) ⊎ (after ≡ Some (with_plan held asked.plan job.inst done.best)))
        → IfSome before (λ held. IsStopped asked held after)
    at_plan done stored left =
        stopped after (by before due
        (subst (λ (f : Option Files). IfSome f (λ held. IsTreeStored now asked.tree held mid done)) same stored))
      where
        by : (files : Option Files) → ComesTo (own_job_due asked.inputs.own) asked.inputs files (Ok job)
            → IfSome files (λ held. IsTreeStored now asked.tree held mid done)
            → IfSome files (λ held. IsLeft asked held after)
        by None due_is stored = tt
        by (Some held) due_is stored = inr (inr (
          searched held done due_is stored,
          over (λ files. (after ≡ Some files) ⊎ (after ≡ Some (with_plan files asked.plan job.inst done.best))) _
              stored.files left,
        ))

    -- both were made, and the answer tells of the search
    pub at_end : (done : DoneView) (a : PlanAnswer)
        → IfSome created (λ held. IsTreeStored now asked.tree held mid done)
        → IfSome mid (λ held. after ≡ Some (with_plan held asked.plan job.inst done.best)) → Tells job.inst done a
        → IfSome before (λ held. IsWritten asked held after a)
    at_end done a stored wrote told =
        by before due (subst (λ (f : Option Files). IfSome f (λ held. IsTreeStored now asked.tree held mid done)) same stored)
      where
        by : (files : Option Files) → ComesTo (own_job_due asked.inputs.own) asked.inputs files (Ok job)
            → IfSome files (λ held. IsTreeStored now asked.tree held mid done)
            → IfSome files (λ held. IsWritten asked held after a)
        by None due_is stored = tt
        by (Some held) due_is stored = record {
          search = searched held done due_is stored;
          told = told;
          files = over (λ files. after ≡ Some (with_plan files asked.plan job.inst done.best)) _ stored.files wrote;
        }

-- cranes may follow what they may follow as it is seen
so_allowed : (t : Turn) (inst : InstanceView) (sched : List Slot) (way : Direction) → IsSeenSo t inst sched way
    → IsAllowedBy t inst sched
so_allowed turn.OneWay inst sched Up seen = inl seen
so_allowed turn.OneWay inst sched Down seen = inr seen.0
so_allowed turn.Free inst sched way seen = seen.0

pub seen_allowed : (inst : InstanceView) (way : Direction) (own : Option (List Slot))
    → IfSome own (λ sched. IsSeenSo inst.turn inst sched way) → IfSome own (IsAllowed inst)
seen_allowed inst way None seen = tt
seen_allowed inst way (Some sched) seen = so_allowed inst.turn inst sched way seen

-- the planner's own plan was read, and breaks a rule
pub own_broken : (asked : Planning) (before after : View) (job : OwnJob) (told : Broken)
    → IsStep (own_job_due asked.inputs.own) asked.inputs before after (Ok job)
    → job.inst.turn ≡ asked.inputs.turn
    → IsSomeAnd job.own (λ sched. TellsBreakBy job.inst.turn job.inst sched told)
    → IsPlanning asked before after (Ok (answer.Broken told))
own_broken asked before after job told step turn tells =
    by job.own refl
    (subst (λ (t : Turn). IsSomeAnd job.own (λ sched. TellsBreakBy t job.inst sched told)) turn tells) step
  where
    by : (own : Option (List Slot)) → job.own ≡ own
        → IsSomeAnd own (λ sched. TellsBreakBy asked.inputs.turn job.inst sched told)
        → IsStep (own_job_due asked.inputs.own) asked.inputs before after (Ok job)
        → IsPlanning asked before after (Ok (answer.Broken told))
    by None is tells read = absurd tells
    by (Some sched) is tells read = (
      (
        read.faults,
        record {
          job = job;
          due = read.ok.1;
          sched = sched;
          own = is;
          tells = tells;
          files = read.files;
          made = read.made;
        },
      ),
      read.ok.0,
    )

-- what is planned behind a reading is planned behind what was there before it
module _ (asked : Planning) (before mid after : View) (files : mid.files ≡ before.files)
    (made : mid.made ≡ before.made)
    (faults : mid.faults ≡ before.faults) (reads : mid.read_faults ≡ before.read_faults) where
  written_over : (a : PlanAnswer) → IfSome mid.files (λ held. IsWritten asked held after.files a)
      → IfSome before.files (λ held. IsWritten asked held after.files a)
  written_over a = subst (λ (f : Option Files). IfSome f (λ held. IsWritten asked held after.files a)) files

  pub over_read : (a : PlanAnswer) → IsPlanning asked mid after (Ok a) → IsPlanning asked before after (Ok a)
  over_read answer.WriteFault told = (
    (
      subst (λ (n : ℕ). Rose n after.faults) faults told.0.0,
      subst (λ (f : Option Files). IfSome f (λ held. IsStopped asked held after.files)) files told.0.1,
    ),
    told.1 ∙ reads,
  )
  over_read (answer.Broken broken) told = (
    (
      told.0.0 ∙ faults,
      record {
        job = told.0.1.job;
        due = subst (λ (f : Option Files). ComesTo (own_job_due asked.inputs.own) asked.inputs f
            (Ok told.0.1.job)) files
            told.0.1.due;
        sched = told.0.1.sched;
        own = told.0.1.own;
        tells = told.0.1.tells;
        files = told.0.1.files ∙ files;
        made = told.0.1.made ∙ made;
      },
    ),
    told.1 ∙ reads,
  )
  over_read (answer.Planned found) told =
      ((told.0.0 ∙ faults, written_over (answer.Planned found) told.0.1, told.0.2, told.0.3), told.1 ∙ reads)
  over_read (answer.Unplanned bound branched) told =
      ((told.0.0 ∙ faults, written_over (answer.Unplanned bound branched) told.0.1, told.0.2, tt), told.1 ∙ reads)
  over_read (answer.Infeasible branched) told =
      ((told.0.0 ∙ faults, written_over (answer.Infeasible branched) told.0.1, told.0.2, tt), told.1 ∙ reads)

-- an answer that tells of a search wrote both files
pub writes_told : (asked : Planning) (before after : View) (inst : InstanceView) (done : DoneView)
    (a : PlanAnswer) → Tells inst done a
    → after.faults ≡ before.faults → IfSome before.files (λ held. IsWritten asked held after.files a)
    → after.made ≡ None → IsSoundAnswer asked.inputs.turn a → Writes asked before after a
writes_told asked before after inst done answer.WriteFault told faults written made sound = absurd told
writes_told asked before after inst done (answer.Broken broken) told faults written made sound = absurd told
writes_told asked before after inst done (answer.Planned found) told faults written made sound =
    (faults, written, made, sound)
writes_told asked before after inst done (answer.Unplanned bound branched) told faults written made sound =
    (faults, written, made, tt)
writes_told asked before after inst done (answer.Infeasible branched) told faults written made sound =
    (faults, written, made, tt)

-- what holds of an error holds where the test for one says so
pub by_err : {T E P : Type 0} (r : Result T E) → is_err r ≡ true → OnErr r P → P
by_err (Ok x) e h = absurd (cc e)
by_err (Err why) e h = h

-- and what holds of a value where it says not
pub by_ok : {T E P : Type 0} (r : Result T E) → is_err r ≡ false → OnOk r P → P
by_ok (Ok x) e h = h
by_ok (Err why) e h = absurd (cc e)
