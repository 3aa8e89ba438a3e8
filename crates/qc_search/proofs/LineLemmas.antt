-- Which leaves can be written.
use Rattle.std.proofs.Common.{◌≡◌, ℕ, ◌+◌, ◌*◌, ◌<◌, ◌≤◌, Bool, true, false, IsTrue, map, option_and_then, option_map, List, [], ◌∷◌, All, length, drop, Option, None, Some, refl, ap, sym, subst, ◌∙◌, cond, arith, ◌&&◌, nat_le, nat_lt}
use Rattle.std.proofs.lemmas.Bool.{and_parts, leb-true, ltb-true}
use Rattle.std.proofs.lemmas.List.{length-map, take_at}
use Rattle.std.proofs.lemmas.List.Elements.{All-cons, All-map}
use Rattle.std.specs.List.{list_all, refill}
use Rattle.qc_num.specs.declared.bound.Bound.TheVariants.{Least, Never}
use Rattle.qc_bounds.specs.declared.leaves.LeafKind.{LeafKind}
use Rattle.qc_bounds.specs.declared.leaves.LeafKind.TheVariants as kind
use Rattle.qc_close.specs.Model.{Decision, most_tasks, InstanceView, are_tasks, is_ring, leaf_value, work, work_over, ticks_over, cranes_of, early, least, all_clash, all_differ, is_doable, is_packed, span}
use Rattle.qc_close.proofs.SpanLemmas.{packed_few, packed_range}
use Rattle.qc_tree.specs.Lines.{AreTasks, IsLine, IsTask}
use Rattle.qc_tree.specs.Trees.{in_file, leaf_text, whole_line}
use Rattle.qc_search.specs.Lines.{AreNumbers, IsLeafBy, IsWritable, leaf_line, leaf_of}

-- tasks as they are numbered in a file
named : (tasks : List ℕ) → AreNumbers tasks → AreTasks (in_file tasks)
named tasks h = (omega (arith, length-map tasks (λ j. j + 1), h.0), All-map IsTask (λ j. j + 1) tasks (λ k d low. omega (arith, h.1 k d low)))

pub written : (leaf : LeafKind) (tasks : List ℕ) → IsWritable leaf tasks → IsLine (leaf_line leaf) (in_file tasks)
written kind.Chain tasks h = named tasks h
written kind.Ring tasks h = (omega (arith, length-map tasks (λ j. j + 1), h.0), named tasks h.1)
written (kind.Work end) tasks h = (h.1, omega (arith, h.2))
written (kind.Clash end) tasks h = (omega (arith, length-map tasks (λ j. j + 1), h.0), named tasks h.1)

-- ---- a leaf that holds

some_true : {A : Type 0} (b : Bool) (x : Option A) (v : A) → cond b x None ≡ Some v → b ≡ true
some_true true x v e = refl
some_true false x v e = absurd (cc e)

all_below : (n m : ℕ) (tasks : List ℕ) → n ≤ m → list_all (λ j. nat_lt j n) tasks ≡ true → All (λ j. j < m) tasks
all_below n m [] few t = λ k d low. absurd (omega arith)
all_below n m (j ∷ tasks) few t =
    let both = and_parts (nat_lt j n) (list_all (λ i. nat_lt i n) tasks) t in
    All-cons (λ i. i < m) j tasks (omega (arith, ltb-true j n both.0, few)) (all_below n m tasks few both.1)

numbers_of : (inst : InstanceView) (tasks : List ℕ) → length inst.tasks ≤ most_tasks → are_tasks inst tasks ≡ true
    → AreNumbers tasks
numbers_of inst tasks few t =
    let both = and_parts (nat_le (length tasks) most_tasks) (list_all (λ j. nat_lt j (length inst.tasks)) tasks) t in
    (leb-true (length tasks) most_tasks both.0, all_below (length inst.tasks) most_tasks tasks few both.1)

-- the work shows an end only where it is at least 1 and the work doesn't fit before it
pub work_shown : (inst : InstanceView) (ds : List Decision) (end : ℕ)
    → leaf_value inst ds (work end) ≡ Some (Least end) → (1 ≤ end) × IsTrue (work_over inst ds end)
work_shown inst ds end e =
    let holds = work_over inst ds end in
    let all = some_true (nat_le 1 end && holds) (Some (Least end)) (Least end) e in
    let both = and_parts (nat_le 1 end) holds all in
    (leb-true 1 end both.0, both.1)

-- tasks that show an end are packed
packed_shown : (b : Bool) (ticks end : ℕ) (first : (ℕ → ℕ) → ℕ) (starts : Option (ℕ → ℕ))
    → option_map Least (option_and_then (λ begins. option_map (λ n. first begins + n) (cond b (Some ticks) None)) starts)
    ≡ Some (Least end)
    → b ≡ true
packed_shown true ticks end first starts e = refl
packed_shown false ticks end first None e = absurd (cc e)
packed_shown false ticks end first (Some begins) e = absurd (cc e)

pub writable : (inst : InstanceView) (ds : List Decision) (leaf : LeafKind) (tasks : List ℕ)
    → length inst.tasks ≤ most_tasks → IsLeafBy inst ds leaf tasks → IsWritable leaf tasks
writable inst ds kind.Chain tasks few h =
    numbers_of inst tasks few (some_true (are_tasks inst tasks) _ _ h.chain)
writable inst ds kind.Ring tasks few h =
    let all = some_true (are_tasks inst tasks && nat_le 2 (length tasks) && is_ring inst ds tasks) (Some Never) Never h in
    let two = and_parts (are_tasks inst tasks && nat_le 2 (length tasks)) (is_ring inst ds tasks) all in
    let one = and_parts (are_tasks inst tasks) (nat_le 2 (length tasks)) two.0 in
    (leb-true 2 (length tasks) one.1, numbers_of inst tasks few one.0)
writable inst ds (kind.Work end) tasks few h =
    (subst AreNumbers (sym h.0) (omega arith, λ k d low. absurd (omega arith)), (work_shown inst ds end h.2).0, h.1)
writable inst ds (kind.Clash end) tasks few h =
    let cranes = cranes_of inst ds in
    let all = packed_shown (is_packed inst cranes tasks) (ticks_over inst tasks + inst.travel * span inst cranes tasks) end
    (λ begins. least (map begins tasks)) (early inst ds) h.1 in
    let range = packed_range inst cranes tasks all in
    let some = and_parts (nat_lt 0 (length tasks)) (list_all (is_doable inst cranes) tasks)
    (and_parts (nat_lt 0 (length tasks) && list_all (is_doable inst cranes) tasks) (all_differ tasks)
    (and_parts (nat_lt 0 (length tasks) && list_all (is_doable inst cranes) tasks && all_differ tasks)
    (all_clash inst cranes tasks) all).0).0 in (
      ltb-true 0 (length tasks) some.0,
      (omega (arith, packed_few inst cranes tasks all), λ k d low. omega (arith, range k d low)),
    )

-- ---- tasks that were numbered anew in their place

pub refilled : (tasks news : List ℕ) → length news ≡ length tasks → refill (length tasks) tasks news ≡ news
refilled tasks news same = take_at news (drop (length news) tasks) (length tasks) same

-- the line of the tasks in their place
pub written_in : (leaf : LeafKind) (old new : List ℕ) → new ≡ in_file old → IsWritable leaf old
    → IsLine (leaf_line leaf) (refill (length old) old new)
written_in leaf old new is can =
    let count : length new ≡ length old = ap (λ (l : List ℕ). length l) is ∙ length-map old (λ j. j + 1) in
    subst (IsLine (leaf_line leaf)) (sym (refilled old new count ∙ is)) (written leaf old can)

-- and its text
pub leaf_written : (leaf : LeafKind) (old new : List ℕ) → new ≡ in_file old
    → whole_line (leaf_line leaf) (refill (length old) old new) ≡ leaf_text (leaf_of leaf old)
leaf_written leaf old new is =
    let count : length new ≡ length old = ap (λ (l : List ℕ). length l) is ∙ length-map old (λ j. j + 1) in
    ap (whole_line (leaf_line leaf)) (refilled old new count ∙ is) ∙ by_kind leaf
  where
    by_kind : (leaf : LeafKind) → whole_line (leaf_line leaf) (in_file old) ≡ leaf_text (leaf_of leaf old)
    by_kind kind.Chain = refl
    by_kind kind.Ring = refl
    by_kind (kind.Work end) = refl
    by_kind (kind.Clash end) = refl
