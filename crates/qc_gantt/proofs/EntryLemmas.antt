-- The slots that records give, and what entries keep.
use Rattle.std.proofs.Common.{◌≡◌, ℕ, ◌+◌, ◌<◌, ◌≤◌, ◌^◌, ◌++◌, ◌∷◌, ◌==◌, eqb, List, [], drop, Bool, true, false, cond, length, get_or, map, All, Option, None, Some, Result, Ok, Err, refl, sym, ap, subst, inl, inr, ◌∙◌, arith, find, IfSome, is_some, ok_or, option_map, replicate, slice_set}
use Rattle.std.specs.List.{IsDistinct, list_any}
use Rattle.std.specs.Option.{option_or}
use Rattle.std.proofs.lemmas.Bool.{cases_Bool}
use Rattle.std.proofs.lemmas.Bool.Decides.{nat_tests}
use Rattle.std.proofs.lemmas.Cmp.{nat_eq_equiv}
use Rattle.std.proofs.lemmas.List.{at_drop_all, at_drop_more, length_push, get_or_default, get_or-replicate, get_or-set_other, get_or-set_same, length-map, length-replicate, length-set, map-append, same_lists}
use Rattle.std.proofs.lemmas.List.Elements.{All-head, All-nil, All-push, All-tail}
use Rattle.std.proofs.lemmas.List.Folds.{find-append}
use Rattle.std.proofs.lemmas.List.FromFn.{get_or-map-range_with_len, length-map-range_with_len}
use Rattle.std.proofs.lemmas.List.Quantifiers.{position-Some}
use Rattle.std.proofs.lemmas.Map.Keys.{IsDistinct-push}
use Rattle.std.proofs.lemmas.Map.Steps.{length-le_from_distinct_below}
use Rattle.qc_num.specs.Digits.{number_in}
use Rattle.qc_num.specs.Reading.{◌>>=◌, each, require}
use Rattle.qc_num.proofs.DigitLemmas.{number_some, plain_parts, value_fits}
use Rattle.qc_num.proofs.ReadingLemmas.{bind_ok, each-keeps, length-each, same_ok, with_fault_ok}
use Rattle.qc_model.specs.declared.schedule.Slot.{Slot}
use Rattle.qc_model.specs.Instance.{InstanceView, ticks_of}
use Rattle.qc_model.specs.Tasks.{task_text}
use Rattle.qc_lines.specs.Records.{field_of}
use Rattle.qc_gantt.specs.Entries.{beside, ends_as, entry_after, entry_beside, entry_in, new_to, slot_given}
use Rattle.qc_gantt.specs.Names.{crane_names, number_of, task_names}
use Rattle.qc_gantt.specs.Plan.{next_entry, slots_given, slots_of}
use Rattle.qc_gantt.specs.declared.entry.Entry.{Entry}
use Rattle.qc_gantt.specs.declared.fault.PlanKind.{PlanKind}
use Rattle.qc_gantt.specs.declared.fault.PlanKind.TheVariants as kind
use Rattle.qc_gantt.proofs.NameLemmas.{none_there}

-- ---- slots beside the entries that gave them
or_none : {A : Type 0} (o : Option A) → option_or o None ≡ o
or_none None = refl
or_none (Some a) = refl

push_by : (o : Option Entry) (e : Entry) (b : Bool)
    → option_map (λ (x : Entry). x.slot) (option_or o (cond b (Some e) None)) ≡ option_or (option_map (λ (x : Entry). x.slot) o) (cond b (Some e.slot) None)
push_by None e true = refl
push_by None e false = refl
push_by (Some x) e b = refl

pub given_push : (es : List Entry) (e : Entry) (j : ℕ)
    → slot_given (es ++ e ∷ []) j ≡ option_or (slot_given es j) (cond (e.task == j) (Some e.slot) None)
given_push es e j =
    ap (option_map (λ (x : Entry). x.slot)) (find-append (λ x. x.task == j) es (e ∷ []))
    ∙ push_by (find (λ x. x.task == j) es) e (e.task == j)

-- the slots that these entries give to the first n tasks
pub record Holds (n : ℕ) (slots : List (Option Slot)) (entries : List Entry) : Type 0 where
  pub all : length slots ≡ n
  pub given : (j : ℕ) → j < n → get_or slots j None ≡ slot_given entries j

pub holds_none : (n : ℕ) → Holds n (replicate n None) []
holds_none n = record { all = length-replicate n None; given = λ j lt. get_or-replicate n j None None lt }

pub holds_more : (n : ℕ) (slots : List (Option Slot)) (entries : List Entry) (e : Entry) → e.task < n → Holds n slots entries → is_some (get_or slots e.task None) ≡ false
    → Holds n (slice_set slots e.task (Some e.slot)) (entries ++ e ∷ [])
holds_more n slots entries e lt holds free = record {
  all = length-set slots e.task (Some e.slot) ∙ holds.all;
  given = λ j jl. elim (cases_Bool (e.task == j)) [
    | inl same ↦
        let alike : e.task ≡ j = grind (arith, nat_tests, same) in
        let inside : e.task < length slots = rw holds.all lt in
        let none : slot_given entries j ≡ None = subst (λ (k : ℕ). slot_given entries k ≡ None) alike (sym (holds.given e.task lt) ∙ none_there (get_or slots e.task None) free) in
        subst (λ (k : ℕ). get_or (slice_set slots e.task (Some e.slot)) k None ≡ Some e.slot) alike (get_or-set_same slots e.task (Some e.slot) None inside)
        ∙ sym (given_push entries e j ∙ rw (none, same) refl)
    | inr other ↦
        get_or-set_other slots e.task j (Some e.slot) None (λ same. grind (arith, nat_tests, other, same))
        ∙ holds.given j jl
        ∙ sym (given_push entries e j ∙ rw other (or_none (slot_given entries j)))
  ];
}

pub holds_all : (inst : InstanceView) (slots : List (Option Slot)) (entries : List Entry) → Holds (length inst.tasks) slots entries → slots_given inst entries ≡ slots
holds_all inst slots entries holds =
    let n = length inst.tasks in
    let size = length-map-range_with_len (slot_given entries) 0 n in
    same_lists (slots_given inst entries) slots (size ∙ sym holds.all) (λ k d lt.
    let inside : k < n = omega (arith, size) in
    get_or-map-range_with_len (slot_given entries) 0 n k k d inside (omega arith)
    ∙ sym (holds.given k inside) ∙ get_or_default slots k None d (rw holds.all inside))

-- where the slots are those of the entries, both tell the same of a record
pub beside_is : (inst : InstanceView) (slots : List (Option Slot)) (entries : List Entry) → Holds (length inst.tasks) slots entries
    → (fields : List (List ℕ)) → ((e : Entry) → entry_in inst fields ≡ Ok e → e.task < length inst.tasks)
    → entry_beside inst slots fields ≡ entry_after inst entries fields
beside_is inst slots entries holds fields inside = by (entry_in inst fields) inside
  where
    by : (r : Result Entry PlanKind) → ((e : Entry) → r ≡ Ok e → e.task < length inst.tasks) → (r >>= beside slots) ≡ (r >>= new_to entries)
    by (Err why) h = refl
    by (Ok e) h = rw (holds.given e.task (h e refl)) refl

-- ---- what a record tells
pub ok_or_ok : {A E : Type 0} (o : Option A) (why : E) (a : A) → ok_or o why ≡ Ok a → o ≡ Some a
ok_or_ok None why a e = cc
ok_or_ok (Some x) why a e = ap Some (same_ok e)

pub named_inside : {X : Type 0} (f : X → List ℕ) (xs : List X) (name : List ℕ) (k : ℕ) → number_of (map f xs) name ≡ Some k → k < length xs
named_inside f xs name k e = rw length-map at (position-Some _ (map f xs) k [] e).0

pub found_inside : {X : Type 0} (f : X → List ℕ) (xs : List X) (name : List ℕ) (o : Option ℕ) → o ≡ number_of (map f xs) name → IfSome o (λ k. k < length xs)
found_inside f xs name None e = tt
found_inside f xs name (Some k) e = named_inside f xs name k (sym e)

-- the task and the crane of an entry are there, and its start has at most 12 digits
pub record IsEntryOf (inst : InstanceView) (e : Entry) : Type 0 where
  pub task : e.task < length inst.tasks
  pub crane : e.slot.crane < length inst.cranes
  pub start : e.slot.start < 10 ^ 12

pub entry_tells : (inst : InstanceView) (fields : List (List ℕ)) (e : Entry) → entry_in inst fields ≡ Ok e → IsEntryOf inst e
entry_tells inst fields e read =
    let (u, four, rest) = bind_ok (require (length fields == 4) kind.Fields) _ e read in
    let (task, named, rest) = bind_ok (ok_or (number_of (task_names inst) (field_of fields 0)) kind.UnknownTask) _ e rest in
    let (crane, called, rest) = bind_ok (ok_or (number_of (crane_names inst) (field_of fields 1)) kind.UnknownCrane) _ e rest in
    let (start, starts, rest) = bind_ok (ok_or (number_in 12 (field_of fields 2)) kind.Number) _ e rest in
    let (end, ends, rest) = bind_ok (ok_or (number_in 12 (field_of fields 3)) kind.Number) (λ end. ends_as inst task crane start end) e rest in
    let (u, right, rest) = bind_ok (require (end == start + ticks_of inst task) kind.EndWrong) (λ _. Ok (record { task = task; slot = record { crane = crane; start = start } })) e rest in
    let is = same_ok rest in
    let number = number_some 12 (field_of fields 2) start (sym (ok_or_ok _ kind.Number start starts)) in
    let plain = plain_parts (field_of fields 2) 12 number.0 in
    let small : start < 10 ^ 12 = rw number.1 (value_fits (field_of fields 2) 12 plain.digits plain.few) in
    let known : task < length inst.tasks = named_inside task_text inst.tasks (field_of fields 0) task (ok_or_ok _ kind.UnknownTask task named) in
    let there : crane < length inst.cranes = named_inside (λ c. c.name) inst.cranes (field_of fields 1) crane (ok_or_ok _ kind.UnknownCrane crane called) in
    subst (IsEntryOf inst) is (record { task = known; crane = there; start = small })

-- ---- what entries keep: no two have one task
pub record AreEntries (inst : InstanceView) (entries : List Entry) : Type 0 where
  pub distinct : IsDistinct eqb (map (λ e. e.task) entries)
  pub each_one : All (IsEntryOf inst) entries

has_none : (es : List Entry) (j : ℕ) → is_some (slot_given es j) ≡ false → list_any (eqb j) (map (λ e. e.task) es) ≡ false
has_none [] j none = refl
has_none (e ∷ es) j none = elim (cases_Bool (e.task == j)) [
  | inl same ↦ cc (rw same at none)
  | inr other ↦
      let apart : (j == e.task) ≡ false = grind (arith, nat_tests, other) in
      rw apart (has_none es j (rw other at none))
]

below_all : (inst : InstanceView) (es : List Entry) (q : ℕ) → All (IsEntryOf inst) es → list_any (eqb q) (map (λ e. e.task) es) ≡ true → q < length inst.tasks
below_all inst [] q all any = cc
below_all inst (e ∷ es) q all any = elim (cases_Bool (q == e.task)) [
  | inl same ↦ let alike : q ≡ e.task = grind (arith, nat_tests, same) in rw alike (All-head (IsEntryOf inst) e es all).task
  | inr other ↦ below_all inst es q (All-tail (IsEntryOf inst) e es all) (rw other at any)
]

pub new_is : (earlier : List Entry) (found e : Entry) → new_to earlier found ≡ Ok e → (is_some (slot_given earlier found.task) ≡ false) × (found ≡ e)
new_is earlier found e read = elim (cases_Bool (is_some (slot_given earlier found.task))) [
  | inl had ↦ cc (rw had at read)
  | inr free ↦ (free, same_ok (rw free at read))
]

pub entries_more : (inst : InstanceView) (earlier : List Entry) (fields : List (List ℕ)) (e : Entry) → AreEntries inst earlier → next_entry inst earlier fields ≡ Ok e
    → AreEntries inst (earlier ++ e ∷ [])
entries_more inst earlier fields e are read =
    let (found, entry, new) = bind_ok (entry_in inst fields) (new_to earlier) e (with_fault_ok _ (entry_after inst earlier fields) e read) in
    let (free, is) = new_is earlier found e new in
    let tells = subst (IsEntryOf inst) is (entry_tells inst fields found entry) in
    let none = subst (λ (x : Entry). is_some (slot_given earlier x.task) ≡ false) is free in
    record {
      distinct = rw map-append (IsDistinct-push nat_eq_equiv (map (λ (x : Entry). x.task) earlier) e.task are.distinct (has_none earlier e.task none));
      each_one = All-push (IsEntryOf inst) earlier e are.each_one tells;
    }

pub no_entries : (inst : InstanceView) → AreEntries inst []
unfolding IsDistinct
no_entries inst = record { distinct = tt; each_one = All-nil (IsEntryOf inst) }

pub few_entries : (inst : InstanceView) (entries : List Entry) → AreEntries inst entries → length entries ≤ length inst.tasks
few_entries inst entries are =
    rw length-map at (length-le_from_distinct_below (map (λ (x : Entry). x.task) entries) (length inst.tasks) are.distinct (λ q any. below_all inst entries q are.each_one any))

pub all_entries : (inst : InstanceView) (records : List (List (List ℕ))) (entries : List Entry) → each (next_entry inst) [] records ≡ Ok entries
    → AreEntries inst entries × (length records ≤ length inst.tasks)
all_entries inst records entries read =
    let are = each-keeps (next_entry inst) (AreEntries inst) (entries_more inst) [] records entries (no_entries inst) read in
    (are, omega (arith, few_entries inst entries are, length-each (next_entry inst) [] records entries read))

-- ---- the records so far, behind the header
pub record SoFar (inst : InstanceView) (all rest : List (List (List ℕ))) (slots : List (Option Slot)) (at : ℕ) : Type 0 where
  pub entries : List Entry
  pub goes_on : each (next_entry inst) [] all ≡ each (next_entry inst) entries rest
  pub holds : Holds (length inst.tasks) slots entries
  pub are : AreEntries inst entries
  pub count : length entries ≡ at

pub nothing_yet : (inst : InstanceView) (all : List (List (List ℕ))) → SoFar inst all all (replicate (length inst.tasks) None) 0
nothing_yet inst all = record { entries = []; goes_on = refl; holds = holds_none (length inst.tasks); are = no_entries inst; count = refl }

module _ (inst : InstanceView) (all rest : List (List (List ℕ))) (slots : List (Option Slot)) (at : ℕ) (fields : List (List ℕ))
    (so_far : SoFar inst all (fields ∷ rest) slots at) where
  step : entry_beside inst slots fields ≡ entry_after inst so_far.entries fields
  step = beside_is inst slots so_far.entries so_far.holds fields (λ e read. (entry_tells inst fields e read).task)

  -- one record more
  pub so_far_more : (e : Entry) → entry_beside inst slots fields ≡ Ok e → SoFar inst all rest (slice_set slots e.task (Some e.slot)) (at + 1)
  so_far_more e read =
      let after : entry_after inst so_far.entries fields ≡ Ok e = sym step ∙ read in
      let next : next_entry inst so_far.entries fields ≡ Ok e = rw after refl in
      let (found, entry, new) = bind_ok (entry_in inst fields) (new_to so_far.entries) e after in
      let (free, is) = new_is so_far.entries found e new in
      let lt : e.task < length inst.tasks = subst (λ (x : Entry). x.task < length inst.tasks) is (entry_tells inst fields found entry).task in
      let open' : is_some (get_or slots e.task None) ≡ false = ap is_some (so_far.holds.given e.task lt) ∙ subst (λ (x : Entry). is_some (slot_given so_far.entries x.task) ≡ false) is free in
      record {
        entries = so_far.entries ++ e ∷ [];
        goes_on = so_far.goes_on ∙ rw next refl;
        holds = holds_more (length inst.tasks) slots so_far.entries e lt so_far.holds open';
        are = entries_more inst so_far.entries fields e so_far.are next;
        count = length_push so_far.entries e ∙ ap (λ n. n + 1) so_far.count;
      }

  -- a record with a fault
  pub so_far_fault : (why : PlanKind) → entry_beside inst slots fields ≡ Err why → slots_of inst all ≡ Err (record { number = at + 2; kind = why })
  so_far_fault why read =
      let after : entry_after inst so_far.entries fields ≡ Err why = sym step ∙ read in
      rw (so_far.goes_on, after, so_far.count) refl

pub so_far_few : (inst : InstanceView) (all rest : List (List (List ℕ))) (slots : List (Option Slot)) (at : ℕ) → SoFar inst all rest slots at → at ≤ length inst.tasks
so_far_few inst all rest slots at so_far = omega (arith, few_entries inst so_far.entries so_far.are, so_far.count)

-- all records
pub so_far_all : (inst : InstanceView) (all : List (List (List ℕ))) (slots : List (Option Slot)) (at : ℕ) → SoFar inst all [] slots at
    → (slots_of inst all ≡ Ok slots) × (length all ≤ length inst.tasks)
so_far_all inst all slots at so_far =
    (rw so_far.goes_on (ap Ok (holds_all inst slots so_far.entries so_far.holds)), (all_entries inst all so_far.entries so_far.goes_on).1)

-- the next record comes first of those that are left, and behind the last one there is none
module _ {X : Type 0} (f : X → List (List ℕ)) (xs : List X) (i : ℕ) (inst : InstanceView) (all : List (List (List ℕ))) (slots : List (Option Slot)) where
  pub so_far_next : (x : X) → i < length xs → x ≡ get_or xs i x → SoFar inst all (map f (drop i xs)) slots i → SoFar inst all (f x ∷ map f (drop (i + 1) xs)) slots i
  so_far_next x lt at so_far =
      let here : drop i xs ≡ x ∷ drop (i + 1) xs = at_drop_more (λ (ys : List X). ys) xs i x lt ∙ ap (λ y. y ∷ drop (i + 1) xs) (sym at) in
      subst (λ (ys : List X). SoFar inst all (map f ys) slots i) here so_far

  pub so_far_end : length xs ≤ i → SoFar inst all (map f (drop i xs)) slots i → SoFar inst all [] slots i
  so_far_end past so_far = subst (λ (ys : List X). SoFar inst all (map f ys) slots i) (at_drop_all (λ (ys : List X). ys) xs i past) so_far
