-- The schedule that slots give, and that of a list of records.
use Rattle.std.proofs.Common.{◌≡◌, ℕ, ◌+◌, ◌<◌, ◌^◌, ◌++◌, ◌∷◌, ◌==◌, List, [], zero, suc, length, get_or, take, All, Option, None, Some, Result, Ok, Err, refl, sym, ap, subst, inl, inr, ◌∙◌, arith, IfOk, ok_or, option_map}
use Rattle.std.proofs.lemmas.Bool.{cases_Bool, cases_lt}
use Rattle.std.proofs.lemmas.List.{length-take, take_all}
use Rattle.std.proofs.lemmas.List.Elements.{All-head, All-tail}
use Rattle.std.proofs.lemmas.List.FromFn.{get_or-map-range_with_len, length-map-range_with_len}
use Rattle.qc_num.specs.declared.read_error.ReadError.{ReadError}
use Rattle.qc_num.specs.Reading.{◌>>=◌, IsReading, each, require}
use Rattle.qc_num.proofs.ReadingLemmas.{bind_ok, same_ok, with_fault_ok}
use Rattle.qc_model.specs.declared.schedule.Slot.{Slot}
use Rattle.qc_model.specs.Instance.{InstanceView}
use Rattle.qc_model.specs.Judge.{IsJudgeable}
use Rattle.qc_model.specs.Rules.{no_slot}
use Rattle.qc_gantt.specs.Entries.{is_header, slot_given}
use Rattle.qc_gantt.specs.Plan.{all_given, next_entry, numbered, plan_of, schedule_of, slots_given, slots_of}
use Rattle.qc_gantt.specs.declared.entry.Entry.{Entry}
use Rattle.qc_gantt.specs.declared.fault.PlanFault.{PlanFault}
use Rattle.qc_gantt.specs.declared.fault.PlanKind.TheVariants as kind
use Rattle.qc_gantt.proofs.EntryLemmas.{IsEntryOf, all_entries, ok_or_ok}

-- a slot that is missing
pub missing : (slots : List (Option Slot)) (i : ℕ) → i < length slots → get_or slots i None ≡ None → all_given slots ≡ None
missing [] i lt none = absurd (omega arith)
missing (None ∷ slots) i lt none = refl
missing (Some s ∷ slots) zero lt none = cc
missing (Some s ∷ slots) (suc i) lt none = ap (option_map (λ ss. s ∷ ss)) (missing slots i (omega arith) none)

-- slots that are those of a schedule
pub given_by : (slots : List (Option Slot)) (sched : List Slot) → length sched ≡ length slots
    → ((i : ℕ) → i < length slots → get_or slots i None ≡ Some (get_or sched i no_slot)) → all_given slots ≡ Some sched
given_by [] [] same h = refl
given_by [] (s ∷ ss) same h = absurd (omega (arith, same))
given_by (o ∷ os) [] same h = absurd (omega (arith, same))
given_by (o ∷ os) (s ∷ ss) same h =
    let rest = given_by os ss (omega (arith, same)) (λ i lt. h (suc i) (omega arith)) in
    let first : o ≡ Some s = h 0 (omega arith) in
    rw (first, rest) refl

-- and the other way round
pub record IsGiven (slots : List (Option Slot)) (sched : List Slot) : Type 0 where
  pub all : length sched ≡ length slots
  pub same : (i : ℕ) → i < length slots → get_or slots i None ≡ Some (get_or sched i no_slot)

pub given_is : (slots : List (Option Slot)) (sched : List Slot) → all_given slots ≡ Some sched → IsGiven slots sched
given_is [] sched e = let is : [] ≡ sched = cc in subst (IsGiven []) is (record { all = refl; same = λ i lt. absurd (omega arith) })
given_is (None ∷ slots) sched e = cc
given_is (Some s ∷ slots) sched e = by (given_is slots) (all_given slots) refl e
  where
    by : ((ss : List Slot) → all_given slots ≡ Some ss → IsGiven slots ss) → (o : Option (List Slot)) → all_given slots ≡ o
        → option_map (λ ss. s ∷ ss) o ≡ Some sched → IsGiven (Some s ∷ slots) sched
    by next None rest e = cc
    by next (Some ss) rest e =
        let is : s ∷ ss ≡ sched = cc in
        let more = next ss rest in
        subst (IsGiven (Some s ∷ slots)) is (record { all = ap suc more.all; same = λ i. at more i })
      where
        at : IsGiven slots ss → (i : ℕ) → i < length (Some s ∷ slots) → get_or (Some s ∷ slots) i None ≡ Some (get_or (s ∷ ss) i no_slot)
        at more zero lt = refl
        at more (suc i) lt = more.same i (omega arith)

-- ---- a plan can be judged
slot_tells : (inst : InstanceView) (es : List Entry) (j : ℕ) (s : Slot) → slot_given es j ≡ Some s → All (IsEntryOf inst) es → (s.crane < length inst.cranes) × (s.start < 10 ^ 12)
slot_tells inst [] j s e all = cc
slot_tells inst (x ∷ es) j s e all = elim (cases_Bool (x.task == j)) [
  | inl same ↦
      let is : x.slot ≡ s = cc (rw same at e) in
      let one = All-head (IsEntryOf inst) x es all in
      subst (λ (y : Slot). (y.crane < length inst.cranes) × (y.start < 10 ^ 12)) is (one.crane, one.start)
  | inr other ↦ slot_tells inst es j s (rw other at e) (All-tail (IsEntryOf inst) x es all)
]

pub plan_judgeable : (inst : InstanceView) (records : List (List (List ℕ))) (sched : List Slot) → plan_of inst records ≡ Ok sched → IsJudgeable inst sched
plan_judgeable inst [] sched read = cc
plan_judgeable inst (header ∷ records) sched read =
    let (u, titled, rest) = bind_ok (numbered 1 (require (is_header header) kind.Header)) (λ _. schedule_of inst records) sched read in
    let (slots, given, all) = bind_ok (slots_of inst records) (λ slots. numbered (length records + 2) (ok_or (all_given slots) kind.TaskMissing)) sched rest in
    let (entries, are, made) = bind_ok (each (next_entry inst) [] records) (λ entries. Ok (slots_given inst entries)) slots given in
    let has = given_is slots sched (ok_or_ok (all_given slots) kind.TaskMissing sched (with_fault_ok _ (ok_or (all_given slots) kind.TaskMissing) sched all)) in
    let is : slots_given inst entries ≡ slots = same_ok made in
    let n = length inst.tasks in
    let size : length slots ≡ n = sym (ap length is) ∙ length-map-range_with_len (slot_given entries) 0 n in
    let at : (j : ℕ) → j < n → slot_given entries j ≡ Some (get_or sched j no_slot) = λ j lt.
    sym (get_or-map-range_with_len (slot_given entries) 0 n j j None lt (omega arith)) ∙ ap (λ (os : List (Option Slot)). get_or os j None) is ∙ has.same j (rw size lt) in
    let tells = λ (j : ℕ) (lt : j < n). slot_tells inst entries j (get_or sched j no_slot) (at j lt) (all_entries inst records entries are).0.each_one in
    record {
      all_tasks = has.all ∙ size;
      crane_range = λ j lt. (tells j lt).0;
      start_range = λ j lt. let small = (tells j lt).1 in omega (arith, small);
    }

-- ---- no record behind the first one too many counts
module _ {A B E : Type 0} (judge : List B → A → Result B E) (why : E) where
  each_front : (before : List B) (k : ℕ) (xs : List A) → each judge before (take k xs) ≡ Err why → each judge before xs ≡ Err why
  each_front before zero xs e = cc
  each_front before (suc k) [] e = e
  each_front before (suc k) (x ∷ xs) e = by (λ b. each_front (before ++ b ∷ []) k xs) (judge before x) e
    where
      by : ((b : B) → each judge (before ++ b ∷ []) (take k xs) ≡ Err why → each judge (before ++ b ∷ []) xs ≡ Err why) → (r : Result B E)
          → (r >>= λ b. each judge (before ++ b ∷ []) (take k xs)) ≡ Err why → (r >>= λ b. each judge (before ++ b ∷ []) xs) ≡ Err why
      by next (Ok b) e = next b e
      by next (Err other) e = e

pub front_counts : (inst : InstanceView) (records : List (List (List ℕ))) → plan_of inst (take (length inst.tasks + 2) records) ≡ plan_of inst records
front_counts inst [] =
    let two : length inst.tasks + 2 ≡ suc (length inst.tasks + 1) = omega arith in
    rw two refl
front_counts inst (header ∷ records) =
    let two : length inst.tasks + 2 ≡ suc (length inst.tasks + 1) = omega arith in
    rw two (ap (λ (r : Result (List Slot) PlanFault). numbered 1 (require (is_header header) kind.Header) >>= λ _. r) (rest records))
  where
    by : (records : List (List (List ℕ))) → length inst.tasks + 1 < length records → (r : Result (List Entry) PlanFault) → each (next_entry inst) [] (take (length inst.tasks + 1) records) ≡ r
        → schedule_of inst (take (length inst.tasks + 1) records) ≡ schedule_of inst records
    by records many (Ok entries) read = absurd (omega (arith, (all_entries inst (take (length inst.tasks + 1) records) entries read).1, length-take (length inst.tasks + 1) records))
    by records many (Err why) read = rw (read, each_front (next_entry inst) why [] (length inst.tasks + 1) records read) refl

    rest : (records : List (List (List ℕ))) → schedule_of inst (take (length inst.tasks + 1) records) ≡ schedule_of inst records
    rest records = elim (cases_lt (length inst.tasks + 1) (length records)) [
      | inl many ↦ by records many (each (next_entry inst) [] (take (length inst.tasks + 1) records)) refl
      | inr few ↦ ap (schedule_of inst) (take_all (length inst.tasks + 1) records (omega arith))
    ]

pub reading_judgeable : (inst : InstanceView) (records : List (List (List ℕ))) (result : Result (List Slot) (ReadError PlanFault))
    → IsReading (λ (sched : List Slot). sched) (plan_of inst records) result → IfOk result (λ sched. IsJudgeable inst sched)
reading_judgeable inst records (Ok sched) read = plan_judgeable inst records sched read
reading_judgeable inst records (Err why) read = tt
