-- A log that was followed is of its plan, and no number of ticks in it is long.
use Rattle.std.proofs.Common.{◌≡◌, ℕ, ◌+◌, ◌<◌, ◌≤◌, inl, inr, Bool, true, false, cond, List, [], ◌∷◌, length, replicate, slice_set, Option, None, Some, ok_or, Result, Ok, Err, bytes_eq, codes, refl, ap, sym, subst, ◌∙◌, arith}
use Rattle.std.specs.Prelude.{nat_lt, slice_index_or}
use Rattle.std.specs.List.{after_first, before_first}
use Rattle.std.proofs.lemmas.Bool.{cases_eq, cases_lt}
use Rattle.std.proofs.lemmas.Grind.{get_or-set_at}
use Rattle.std.proofs.lemmas.List.{get_or-replicate, get_or-set_other, get_or_past, length-replicate, length-set}
use Rattle.qc_num.specs.Digits.{number_in}
use Rattle.qc_num.specs.Reading.{◌>>=◌, require}
use Rattle.qc_num.proofs.DigitLemmas.{number_some, plain_parts, value_fits}
use Rattle.qc_lines.specs.Lines.{ended, is_space, lines_of}
use Rattle.qc_dispatch.specs.declared.fault.DispatchKind.{DispatchKind}
use Rattle.qc_dispatch.specs.declared.fault.DispatchKind.TheVariants as kind
use Rattle.qc_dispatch.specs.declared.follow.Remaining.{Remaining}
use Rattle.qc_dispatch.specs.declared.grant.Grant.{Grant}
use Rattle.qc_dispatch.specs.declared.report.Report.{Report}
use Rattle.qc_dispatch.specs.declared.report.Report.TheVariants.{Passed, Done, Left}
use Rattle.qc_dispatch.specs.Course.{Course, past_moments}
use Rattle.qc_dispatch.specs.Following.{most_passed}
use Rattle.qc_dispatch.specs.Journal.{Follows, Goes, IsFollowed, Journal, TakesAll, WentOn}
use Rattle.qc_dispatch.specs.Log.{left_in, report_in, report_of, task_in, ticks_in}
use Rattle.qc_dispatch.specs.Promises.{Keeps}
use Rattle.qc_model.specs.declared.schedule.Slot.{Slot}
use Rattle.qc_model.specs.Instance.{InstanceView, Valid}
use Rattle.qc_model.specs.Numbers.{most_tasks}
use Rattle.qc_model.specs.Rules.{Feasible}
use Rattle.qc_rest.specs.Known.{AreShort, IsKnown}

-- ---- what a line reports

abbrev IsBrief : Report → Type 0
IsBrief (Passed ticks) = Unit {0}
IsBrief (Done task) = Unit {0}
IsBrief (Left task ticks) = ticks ≤ most_passed

abbrev IfBrief : Result Report DispatchKind → Type 0
IfBrief (Ok report) = IsBrief report
IfBrief (Err why) = Unit {0}

brief_bind : {A : Type 0} (r : Result A DispatchKind) (f : A → Result Report DispatchKind) → ((a : A) → r ≡ Ok a → IfBrief (f a)) → IfBrief (r >>= f)
brief_bind (Ok a) f each = each a refl
brief_bind (Err why) f each = tt

brief_cond : (b : Bool) (x y : Result Report DispatchKind) → IfBrief x → IfBrief y → IfBrief (cond b x y)
brief_cond true x y p q = p
brief_cond false x y p q = q

abbrev IfShort : Result ℕ DispatchKind → Type 0
IfShort (Ok ticks) = ticks ≤ most_passed
IfShort (Err why) = Unit {0}

short_require : (b : Bool) (n : ℕ) → n ≤ most_passed → IfShort (require b kind.Line >>= λ _. Ok n)
short_require true n low = low
short_require false n low = tt

short_number : (o : Option ℕ) → ((n : ℕ) → o ≡ Some n → n ≤ most_passed)
    → IfShort (ok_or o kind.Line >>= λ ticks. require (nat_lt 0 ticks) kind.Line >>= λ _. Ok ticks)
short_number None small = tt
short_number (Some n) small = short_require (nat_lt 0 n) n (small n refl)

number_low : (text : List ℕ) (n : ℕ) → number_in 9 text ≡ Some n → n ≤ most_passed
number_low text n e =
    let (plain, value) = number_some 9 text n (sym e) in
    let parts = plain_parts text 9 plain in
    let fits = value_fits text 9 parts.digits parts.few in
    omega (arith, value, fits)

short_ticks : (number : List ℕ) → IfShort (ticks_in number)
short_ticks number = short_number (number_in 9 number) (number_low number)

short_at : (r : Result ℕ DispatchKind) (n : ℕ) → IfShort r → r ≡ Ok n → n ≤ most_passed
short_at (Ok m) n low e = let same : m ≡ n = cc e in omega (arith, low, same)
short_at (Err why) n low e = absurd (cc e)

brief_left : (inst : InstanceView) (rest : List ℕ) → IfBrief (left_in inst rest)
brief_left inst rest =
    brief_bind (ticks_in (after_first is_space rest)) (λ ticks. task_in inst (before_first is_space rest) >>= λ task. Ok (Left task ticks)) (λ ticks is.
    brief_bind (task_in inst (before_first is_space rest)) (λ task. Ok (Left task ticks)) (λ task _.
    short_at (ticks_in (after_first is_space rest)) ticks (short_ticks (after_first is_space rest)) is))

brief_words : (inst : InstanceView) (word rest : List ℕ) → IfBrief (report_of inst word rest)
brief_words inst word rest =
    let ticks : Result Report DispatchKind = ticks_in rest >>= λ ticks. Ok (Passed ticks) in
    let done : Result Report DispatchKind = task_in inst rest >>= λ task. Ok (Done task) in
    let none : Result Report DispatchKind = Err kind.Line in
    let last : Result Report DispatchKind = cond (bytes_eq word (codes "left")) (left_in inst rest) none in
    brief_cond (bytes_eq word (codes "tick")) ticks (cond (bytes_eq word (codes "done")) done last)
    (brief_bind (ticks_in rest) (λ ticks. Ok (Passed ticks)) (λ ticks _. tt))
    (brief_cond (bytes_eq word (codes "done")) done last
    (brief_bind (task_in inst rest) (λ task. Ok (Done task)) (λ task _. tt))
    (brief_cond (bytes_eq word (codes "left")) (left_in inst rest) none (brief_left inst rest) tt))

brief_report : (inst : InstanceView) (line : List ℕ) → IfBrief (report_in inst line)
brief_report inst line =
    brief_bind (ok_or (ended line) kind.Line) (λ text. report_of inst (before_first is_space text) (after_first is_space text))
    (λ text _. brief_words inst (before_first is_space text) (after_first is_space text))

brief_at : (r : Result Report DispatchKind) (report : Report) → IfBrief r → r ≡ Ok report → IsBrief report
brief_at (Ok s) report brief e = subst IsBrief (cc e) brief
brief_at (Err why) report brief e = absurd (cc e)

-- ---- what a log keeps

record IsOf (inst : InstanceView) (plan : List Slot) (j : Journal) : Type 0 where
  inst_is : j.course.inst ≡ inst
  plan_is : j.course.plan ≡ plan
  room : length j.remaining ≡ most_tasks
  short : AreShort j.remaining

record AreSame (old new : Course) : Type 0 where
  inst_same : new.inst ≡ old.inst
  plan_same : new.plan ≡ old.plan

goes_same : (old : Course) (to : ℕ) (grants : List Grant) (new : Course) → Goes old to grants new → AreSame old new
goes_same old to [] new passed = record { inst_same = ap (λ (c : Course). c.inst) passed.after; plan_same = ap (λ (c : Course). c.plan) passed.after }
goes_same old to (grant ∷ grants) new (next, granted, goes) =
    let rest = goes_same next to grants new goes in record {
      inst_same = rest.inst_same ∙ ap (λ (c : Course). c.inst) granted.after;
      plan_same = rest.plan_same ∙ ap (λ (c : Course). c.plan) granted.after;
    }

went_of : (inst : InstanceView) (plan : List Slot) (old : Journal) (to : ℕ) (new : Journal) → WentOn old to new → IsOf inst plan old → IsOf inst plan new
went_of inst plan old to new went is =
    let same = goes_same old.course to went.grants new.course went.goes in record {
      inst_is = same.inst_same ∙ is.inst_is;
      plan_is = same.plan_same ∙ is.plan_is;
      room = ap length went.remaining ∙ is.room;
      short = subst AreShort (sym went.remaining) is.short;
    }

short_set : (told : List (Option Remaining)) (task : ℕ) (r : Remaining) → r.ticks ≤ most_passed → AreShort told → AreShort (slice_set told task (Some r))
short_set told task r low short i s e = elim (cases_eq i task) [
  | inr other ↦ short i s (sym (get_or-set_other told task i (Some r) None other) ∙ e)
  | inl same ↦ elim (cases_lt task (length told)) [
    | inl inside ↦
        let at = get_or-set_at told task i (Some r) None same inside in
        let is : r ≡ s = cc (at, e) in
        omega (arith, low, ap (λ (t : Remaining). t.ticks) is)
    | inr past ↦
        let none = get_or_past (slice_set told task (Some r)) i None (omega (arith, past, same, length-set told task (Some r))) in
        absurd (cc (none, e))
  ]
]

follows_of : (inst : InstanceView) (plan : List Slot) (old : Journal) (report : Report) (new : Journal) → IsBrief report → Follows old report new
    → IsOf inst plan old → IsOf inst plan new
follows_of inst plan old (Passed ticks) new brief went is = went_of inst plan old (old.course.clock + ticks) new went is
follows_of inst plan old (Done task) new brief took is = went_of inst plan _ took.after.clock new took.went (record {
  inst_is = ap (λ (c : Course). c.inst) took.ended.after ∙ is.inst_is;
  plan_is = ap (λ (c : Course). c.plan) took.ended.after ∙ is.plan_is;
  room = is.room;
  short = is.short;
})
follows_of inst plan old (Left task ticks) new brief took is = record {
  inst_is = ap (λ (j : Journal). j.course.inst) took.after ∙ is.inst_is;
  plan_is = ap (λ (j : Journal). j.course.plan) took.after ∙ is.plan_is;
  room = ap (λ (j : Journal). length j.remaining) took.after ∙ length-set old.remaining task _ ∙ is.room;
  short = subst (λ (j : Journal). AreShort j.remaining) (sym took.after) (short_set old.remaining task _ brief is.short);
}

takes_of : (inst : InstanceView) (plan : List Slot) (old : Journal) (before : ℕ) (lines : List (List ℕ)) (new : Journal) → TakesAll old before lines new
    → IsOf inst plan old → IsOf inst plan new
takes_of inst plan old before [] new same is = subst (IsOf inst plan) (sym same) is
takes_of inst plan old before (line ∷ lines) new (next, takes, rest) is =
    let brief = brief_at (report_in old.course.inst line) takes.report (brief_report old.course.inst line) takes.read in
    takes_of inst plan next (before + 1) lines new rest (follows_of inst plan old takes.report next brief takes.follows is)

abbrev nothing : Option Remaining
nothing = None

none_told : (n i : ℕ) (r : Remaining) → slice_index_or (replicate n nothing) i nothing ≡ Some r → ⊥
none_told n i r e = elim (cases_lt i n) [
  | inl low ↦ cc (get_or-replicate n i nothing nothing low, e)
  | inr past ↦ cc (get_or_past (replicate n nothing) i nothing (omega (arith, past, length-replicate n nothing)), e)
]

followed_of : (inst : InstanceView) (plan : List Slot) (text : List ℕ) (j : Journal) → IsFollowed inst plan text j → IsOf inst plan j
followed_of inst plan text j followed =
    takes_of inst plan followed.first 0 (lines_of text) j followed.takes
    (went_of inst plan _ 0 followed.first followed.begins (record {
      inst_is = refl;
      plan_is = refl;
      room = length-replicate most_tasks nothing;
      short = λ i r e. absurd (none_told most_tasks i r e);
    }))

-- what is known of a log that was followed
pub plan_of : (inst : InstanceView) (plan : List Slot) (text : List ℕ) (j : Journal) → IsFollowed inst plan text j → plan ≡ j.course.plan
plan_of inst plan text j followed = sym (followed_of inst plan text j followed).plan_is

pub inst_of : (inst : InstanceView) (plan : List Slot) (text : List ℕ) (j : Journal) → IsFollowed inst plan text j → inst ≡ j.course.inst
inst_of inst plan text j followed = sym (followed_of inst plan text j followed).inst_is

pub known_of : (inst : InstanceView) (plan : List Slot) (text : List ℕ) (j : Journal) → IsFollowed inst plan text j → Valid j.course.inst
    → Feasible j.course.inst j.course.plan → Keeps j.course → j.course.clock < past_moments → IsKnown j
known_of inst plan text j followed valid feasible keeps early =
    let is = followed_of inst plan text j followed in record {
      valid = valid;
      feasible = feasible;
      keeps = keeps;
      early = early;
      room = is.room;
      short = is.short;
    }
