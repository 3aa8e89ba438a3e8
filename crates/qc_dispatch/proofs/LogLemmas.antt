-- What comes of a log, one event and one line more.
use Rattle.std.proofs.Common.{◌≡◌, ◌≢◌, ℕ, Bool, true, false, cond, not, nat_lt, Option, None, Some, ok_or, bytes_eq, codes, refl, ◌+◌, ◌*◌, ◌<◌, ◌≤◌, inl, inr, ◌++◌, List, [], ◌∷◌, length, map, slice_set, ap, sym, subst, ◌∙◌, Result, Ok, Err, append_assoc, arith}
use Rattle.std.specs.List.{after_first, before_first, list_any}
use Rattle.std.proofs.lemmas.List.{length-set}
use Rattle.std.proofs.lemmas.List.Sums.{sum_by-set}
use Rattle.qc_dispatch.specs.declared.event.Event.{Event}
use Rattle.qc_dispatch.specs.declared.fault.DispatchFault.{DispatchFault}
use Rattle.qc_dispatch.specs.declared.grant.Grant.{Grant}
use Rattle.qc_dispatch.specs.declared.fault.DispatchKind.{DispatchKind}
use Rattle.qc_dispatch.specs.declared.fault.DispatchKind.TheVariants as kind
use Rattle.qc_dispatch.specs.declared.report.Report.{Report}
use Rattle.qc_dispatch.specs.declared.report.Report.TheVariants.{Passed, Done, Left}
use Rattle.qc_dispatch.specs.declared.stage.Stage.{Stage}
use Rattle.qc_dispatch.specs.declared.stage.Stage.TheVariants.{Waiting, Running, Ended}
use Rattle.qc_dispatch.specs.Course.{Course, IsGranted, IsPassed, IsQuiet, is_running, is_waiting, left}
use Rattle.qc_dispatch.specs.Events.{started_event}
use Rattle.qc_dispatch.specs.Following.{IsGood, RunsOut, most_passed}
use Rattle.qc_dispatch.specs.Journal.{HasFault, HasFirstFault, IsIdle, Journal, TakesAll, TakesLine, WentOn}
use Rattle.qc_dispatch.specs.Log.{left_in, most_lines, report_in, report_of, task_in, task_named, ticks_in}
use Rattle.qc_lines.specs.Lines.{ended, is_space}
use Rattle.qc_model.specs.Instance.{InstanceView}
use Rattle.qc_num.specs.Digits.{number_in}
use Rattle.qc_num.specs.Reading.{◌>>=◌, require}
use Rattle.qc_dispatch.proofs.Counts.{tally}
use Rattle.qc_model.specs.Numbers.{most_tasks}

-- ---- events until a tick

-- what is still to come until this tick, from here on, comes to the same as from the start on
pub record IsOnWay (start : Journal) (to : ℕ) (here : Journal) : Type 0 where
  pub from : here.course.clock ≤ to
  pub remaining : here.remaining ≡ start.remaining
  pub same : (new : Journal) → WentOn here to new → WentOn start to new

pub at_start : (start : Journal) (to : ℕ) → start.course.clock ≤ to → IsOnWay start to start
at_start start to from = record { from = from; remaining = refl; same = λ new went. went }

-- one start more
pub one_start : (start here : Journal) (to : ℕ) (grant : Grant) (next : Course) (events : List Event) → IsOnWay start to here
    → IsGranted here.course to grant next → events ≡ here.events ++ started_event next.inst grant ∷ []
    → IsOnWay start to (record here { course = next; events = events })
one_start start here to grant next events way granted are = record {
  from = rw granted.after granted.by;
  remaining = way.remaining;
  same = λ new went. way.same new (record {
    grants = grant ∷ went.grants;
    goes = (next, granted, went.goes);
    events = went.events ∙ ap (λ (es : List Event). es ++ map (started_event next.inst) went.grants) are
        ∙ append_assoc here.events (started_event next.inst grant ∷ []) (map (started_event next.inst) went.grants)
        ∙ ap (λ (c : Course). here.events ++ started_event c.inst grant ∷ map (started_event c.inst) went.grants) granted.after;
    remaining = went.remaining;
  });
}

-- no task may start now
pub quiet_then : (old new : Course) (to : ℕ) → old.clock ≤ to → IsPassed old to new → IsQuiet new
quiet_then old new to from passed =
    subst IsQuiet (sym passed.after) (λ j may. passed.none to j from (omega arith) (record { task = may.task; waits = may.waits; free = may.free; clear = may.clear }))

-- a start leaves one task fewer
pub one_left : (old new : Course) (to : ℕ) (grant : Grant) → length new.stages ≡ length new.inst.tasks → IsGranted old to grant new → left new + 1 ≡ left old
one_left old new to grant same granted =
    let p = λ (s : Stage). tally (is_waiting s) in
    let after : length (slice_set old.stages grant.task (Running grant.at)) ≡ length old.inst.tasks =
    subst (λ (c : Course). length c.stages ≡ length c.inst.tasks) granted.after same in
    let before : length old.stages ≡ length old.inst.tasks = sym (length-set old.stages grant.task (Running grant.at)) ∙ after in
    let moved = sum_by-set p old.stages grant.task (Running grant.at) Waiting (omega (arith, granted.may.task, before)) in
    rw granted.after (omega (arith, moved, ap p granted.may.waits))

-- a task that runs, and one that doesn't
pub runs_since : (stage : Stage) → is_running stage ≡ true → (start : ℕ) × (stage ≡ Running start)
runs_since Waiting runs = cc
runs_since (Running start) runs = (start, refl)
runs_since (Ended start end) runs = cc

pub never_since : (stage : Stage) → is_running stage ≡ false → (start : ℕ) → stage ≢ Running start
never_since Waiting rests start = λ e. cc
never_since (Running from) rests start = cc
never_since (Ended from end) rests start = λ e. cc

-- a line reports of a task that doesn't run
pub told_idle : (old : Journal) (before : ℕ) (line : List ℕ) (report : Report) → before < most_lines → report_in old.course.inst line ≡ Ok report
    → IsIdle old.course report → HasFault old before line kind.NotRunning
told_idle old before line report few read idle = (few, record { report = report; read = read; idle = idle })

pub same_report : (read : Result Report DispatchKind) (r s : Report) → read ≡ Ok r → read ≡ Ok s → r ≡ s
same_report read r s one other = cc

ok_or_err : (r : Result Report DispatchKind) (report : Report) (why : DispatchKind) → r ≡ Ok report → r ≡ Err why → ⊥
ok_or_err r report why ok err = cc

-- ---- faults of one line by itself

abbrev IsOfLine : DispatchKind → Type 0
IsOfLine kind.TooMany = ⊥
IsOfLine kind.Line = Unit {0}
IsOfLine kind.UnknownTask = Unit {0}
IsOfLine kind.NotRunning = ⊥

abbrev OfLine : {A : Type 0} → Result A DispatchKind → Type 0
OfLine (Ok a) = Unit {0}
OfLine (Err why) = IsOfLine why

of_bind : {A B : Type 0} (r : Result A DispatchKind) (f : A → Result B DispatchKind) → OfLine r → ((a : A) → OfLine (f a)) → OfLine (r >>= f)
of_bind (Ok a) f p q = q a
of_bind (Err why) f p q = p

of_ok_or : {A : Type 0} (o : Option A) (why : DispatchKind) → IsOfLine why → OfLine (ok_or o why)
of_ok_or None why p = p
of_ok_or (Some a) why p = tt

of_require : (b : Bool) (why : DispatchKind) → IsOfLine why → OfLine (require b why)
of_require true why p = tt
of_require false why p = p

of_cond : {A : Type 0} (b : Bool) (x y : Result A DispatchKind) → OfLine x → OfLine y → OfLine (cond b x y)
of_cond true x y p q = p
of_cond false x y p q = q

of_ticks : (number : List ℕ) → OfLine (ticks_in number)
of_ticks number =
    of_bind {B = ℕ} (ok_or (number_in 9 number) kind.Line) (λ ticks. require (nat_lt 0 ticks) kind.Line >>= λ _. Ok ticks) (of_ok_or (number_in 9 number) kind.Line tt) (λ ticks.
    of_bind {B = ℕ} (require (nat_lt 0 ticks) kind.Line) (λ _. Ok ticks) (of_require (nat_lt 0 ticks) kind.Line tt) (λ _. tt))

of_task : (inst : InstanceView) (name : List ℕ) → OfLine (task_in inst name)
of_task inst name =
    let named : Result ℕ DispatchKind = ok_or (task_named inst name) kind.UnknownTask in
    of_bind {B = ℕ} (require (nat_lt 0 (length name)) kind.Line) (λ _. require (not (list_any is_space name)) kind.Line >>= λ _. named) (of_require (nat_lt 0 (length name)) kind.Line tt) (λ _.
    of_bind {B = ℕ} (require (not (list_any is_space name)) kind.Line) (λ _. named) (of_require (not (list_any is_space name)) kind.Line tt) (λ _.
    of_ok_or (task_named inst name) kind.UnknownTask tt))

of_left : (inst : InstanceView) (rest : List ℕ) → OfLine (left_in inst rest)
of_left inst rest =
    let name = before_first is_space rest in
    of_bind {B = Report} (ticks_in (after_first is_space rest)) (λ ticks. task_in inst name >>= λ task. Ok (Left task ticks)) (of_ticks (after_first is_space rest)) (λ ticks.
    of_bind {B = Report} (task_in inst name) (λ task. Ok (Left task ticks)) (of_task inst name) (λ task. tt))

of_words : (inst : InstanceView) (word rest : List ℕ) → OfLine (report_of inst word rest)
of_words inst word rest =
    let ticks : Result Report DispatchKind = ticks_in rest >>= λ ticks. Ok (Passed ticks) in
    let done : Result Report DispatchKind = task_in inst rest >>= λ task. Ok (Done task) in
    let none : Result Report DispatchKind = Err kind.Line in
    let last : Result Report DispatchKind = cond (bytes_eq word (codes "left")) (left_in inst rest) none in
    of_cond (bytes_eq word (codes "tick")) ticks (cond (bytes_eq word (codes "done")) done last)
    (of_bind {B = Report} (ticks_in rest) (λ ticks. Ok (Passed ticks)) (of_ticks rest) (λ ticks. tt))
    (of_cond (bytes_eq word (codes "done")) done last
    (of_bind {B = Report} (task_in inst rest) (λ task. Ok (Done task)) (of_task inst rest) (λ task. tt))
    (of_cond (bytes_eq word (codes "left")) (left_in inst rest) none (of_left inst rest) tt))

of_report : (inst : InstanceView) (line : List ℕ) → OfLine (report_in inst line)
of_report inst line =
    of_bind {B = Report} (ok_or (ended line) kind.Line) (λ text. report_of inst (before_first is_space text) (after_first is_space text)) (of_ok_or (ended line) kind.Line tt)
    (λ text. of_words inst (before_first is_space text) (after_first is_space text))

-- what a line by itself is refused for is its fault
pub line_fault : (old : Journal) (before : ℕ) (line : List ℕ) (why : DispatchKind) → before < most_lines → report_in old.course.inst line ≡ Err why
    → HasFault old before line why
line_fault old before line why few read = by why (subst OfLine read (of_report old.course.inst line)) read
  where
    by : (why : DispatchKind) → IsOfLine why → report_in old.course.inst line ≡ Err why → HasFault old before line why
    by kind.TooMany of read = absurd of
    by kind.Line of read = (few, read)
    by kind.UnknownTask of read = (few, read)
    by kind.NotRunning of read = absurd of

-- ---- good lines

-- a report that can be followed is a good line
pub good_line : (old : Journal) (before : ℕ) (line : List ℕ) (report : Report) → before < most_lines
    → report_in old.course.inst line ≡ Ok report → ¬ IsIdle old.course report → IsGood old before line
good_line old before line report few read runs kind.TooMany fault = omega (arith, few, fault)
good_line old before line report few read runs kind.NotRunning fault =
    let e = same_report (report_in old.course.inst line) fault.1.report report fault.1.read read in
    runs (subst (IsIdle old.course) e fault.1.idle)
good_line old before line report few read runs kind.Line fault = ok_or_err (report_in old.course.inst line) report kind.Line read fault.1
good_line old before line report few read runs kind.UnknownTask fault = ok_or_err (report_in old.course.inst line) report kind.UnknownTask read fault.1

-- ---- lines

-- what the lines from here on come to is what all lines come to
pub record AreOnWay (start : Journal) (all : List (List ℕ)) (here : Journal) (before : ℕ) (rest : List (List ℕ)) : Type 0 where
  pub quiet : IsQuiet here.course
  pub early : here.course.clock ≤ most_passed * before
  pub few : before ≤ most_lines
  pub room : length here.remaining ≡ most_tasks
  pub same : (new : Journal) → TakesAll here before rest new → TakesAll start 0 all new
  pub faults : (fault : DispatchFault) → HasFirstFault here before rest fault → HasFirstFault start 0 all fault
  pub runs_out : RunsOut here before rest → RunsOut start 0 all

pub first_line : (start : Journal) (all : List (List ℕ)) → IsQuiet start.course → start.course.clock ≡ 0 → length start.remaining ≡ most_tasks
    → AreOnWay start all start 0 all
first_line start all quiet early room = record {
  quiet = quiet;
  early = omega (arith, early);
  few = omega arith;
  room = room;
  same = λ new takes. takes;
  faults = λ fault has. has;
  runs_out = λ out. out;
}

pub one_line : (start : Journal) (all : List (List ℕ)) (here : Journal) (before : ℕ) (line : List ℕ) (lines rest : List (List ℕ)) (next : Journal)
    → lines ≡ line ∷ rest → AreOnWay start all here before lines → TakesLine here before line next → IsQuiet next.course
    → next.course.clock ≤ most_passed * (before + 1) → length next.remaining ≡ most_tasks → AreOnWay start all next (before + 1) rest
one_line start all here before line lines rest next e way takes quiet early room = record {
  quiet = quiet;
  early = early;
  few = omega (arith, takes.few);
  room = room;
  same = λ new more. way.same new (subst (λ (ls : List (List ℕ)). TakesAll here before ls new) (sym e) (next, takes, more));
  faults = λ fault has. way.faults fault (subst (λ (ls : List (List ℕ)). HasFirstFault here before ls fault) (sym e) (inr (next, takes, has)));
  runs_out = λ out. way.runs_out (subst (λ (ls : List (List ℕ)). RunsOut here before ls) (sym e) (inr (next, takes, out)));
}

-- memory runs out at this line
pub out_here : (start : Journal) (all : List (List ℕ)) (here : Journal) (before : ℕ) (line : List ℕ) (lines rest : List (List ℕ))
    → lines ≡ line ∷ rest → AreOnWay start all here before lines → IsGood here before line → RunsOut start 0 all
out_here start all here before line lines rest e way good =
    way.runs_out (subst (λ (ls : List (List ℕ)). RunsOut here before ls) (sym e) (inl good))
