-- The nodes that must still come, and the decisions that lead to them.
use Rattle.std.proofs.Common.{◌≡◌, ℕ, ◌+◌, ◌-◌, ◌<◌, ◌≤◌, Bool, true, false, cond, List, [], ◌∷◌, ◌++◌, length, map, sym, ap, refl, subst, arith, None, Some, Option, IfSome}
use Rattle.std.proofs.lemmas.Bool.{lt-ltb, and_from}
use Rattle.std.proofs.lemmas.List.{length-append, length-map}
use Rattle.qc_num.specs.declared.bound.Bound.{Bound}
use Rattle.qc_dist.specs.Children.{IsNextChild, behind, later}
use Rattle.qc_dist.specs.Node.{IsOpen}
use Rattle.qc_dist.proofs.ChildLemmas.{cranes_count, cranes_from}
use Rattle.qc_close.specs.Model.{Decision, Assign, Order, IsClosable, no_starts, InstanceView, Valid, crane_numbers, HasStarts, IsInReach, most_cranes, is_in_reach, reaches}
use Rattle.qc_starts.specs.Seen.{HasNone}
use Rattle.qc_model.proofs.NodeLemmas.{conflict_inside}
use Rattle.qc_tree.specs.Trees.{children}
use Rattle.qc_tree.proofs.OrderLemmas.{may_conflict, may_order_low}
use Rattle.qc_search.specs.Lines.{IsNamed}
use Rattle.qc_search.specs.declared.branch.Branch.{Branch}
use Rattle.qc_search.specs.declared.branch.Branch.TheVariants.{Pair, Task}
use Rattle.qc_search.specs.Walk.{IsChild, IsOpenBranch, WereMade, first_of, from_child, from_node, sign_of, steps_left}

module _ (inst : InstanceView) where
  -- the nodes that come after a child are those from the next one on
  pub next_due : (ds : List Decision) (d : Decision) (next : Option Decision) → IsNextChild inst d next
      → IsOpen inst ds d → later inst ds d ++ behind inst ds ≡ from_child inst ds next
  next_due ds d None none is_open = ap (λ more. more ++ behind inst ds) (none ds is_open)
  next_due ds d (Some next) some is_open = ap (λ more. more ++ behind inst ds) (some ds is_open).1

  pub next_child_is : (ds : List Decision) (d : Decision) (next : Option Decision)
      → IsNextChild inst d next → IsChild inst ds d → IfSome next (IsChild inst ds)
  next_child_is ds d None is child = tt
  next_child_is ds d (Some next) is child = ((is ds child.0).0, child.1)

  -- how many nodes must come behind a child
  pub next_count : (ds : List Decision) (d : Decision) (next : Option Decision)
      → IsNextChild inst d next → IsChild inst ds d
      → length (from_child inst ds (Some d)) ≡ length (from_child inst ds next) + 1
  next_count ds d next is child =
      let e = ap (λ (l : List (List Decision)). length l) (next_due ds d next is child.0) in
      omega (arith, e)

  -- the children of a branching, and the first of them
  pub branch_due : Valid inst → (ds : List Decision) (branch : Branch) → IsOpenBranch inst ds branch
      → children inst ds (sign_of branch) ++ behind inst ds ≡ from_child inst ds (Some (first_of branch))
  branch_due v ds (Task j) is_open =
      ap (λ ks. map (λ k. Assign j k ∷ ds) ks ++ behind inst ds) (cranes_from inst 0 v.cranes.count.0)
  branch_due v ds (Pair i j) is_open =
      ap (λ b. (Order i j ∷ ds) ∷ (cond b ((Order j i ∷ ds) ∷ []) [] ++ behind inst ds))
      (sym (lt-ltb i j (may_order_low inst.turn inst v ds i j is_open.0)))

  pub branch_child : Valid inst → (ds : List Decision) (branch : Branch) → IsOpenBranch inst ds branch
      → HasStarts inst ds → IsChild inst ds (first_of branch)
  branch_child v ds (Task j) is_open starts = ((is_open.0, v.cranes.count.0, is_open.1), starts)
  branch_child v ds (Pair i j) is_open starts = ((may_conflict inst.turn inst ds i j is_open.0, is_open.1), starts)

  -- a line can name the tasks of a branching
  pub branch_named : Valid inst → (ds : List Decision) (branch : Branch) → IsOpenBranch inst ds branch → IsNamed branch
  branch_named v ds (Task j) is_open = omega (arith, is_open.0, v.tasks.count)
  branch_named v ds (Pair i j) is_open =
      let r = conflict_inside inst v ds i j (may_conflict inst.turn inst ds i j is_open.0) in
      (omega (arith, r.0, v.tasks.count), omega (arith, r.1, v.tasks.count))

  few_children : Valid inst → (ds : List Decision) (branch : Branch)
      → length (children inst ds (sign_of branch)) ≤ most_cranes
  few_children v ds (Task j) =
      omega (arith, length-map (crane_numbers inst) (λ k. Assign j k ∷ ds), cranes_count inst, v.cranes.count.1)
  few_children v ds (Pair i j) = omega arith

  -- a branching leaves fewer lines that may come
  pub branch_fewer : Valid inst → (ds : List Decision) (branch : Branch) → IsOpenBranch inst ds branch
      → (limit branched : ℕ) → branched < limit
      → steps_left (from_child inst ds (Some (first_of branch))) limit (branched + 1)
      < steps_left (from_node inst ds) limit branched
  branch_fewer v ds branch is_open limit branched left =
      let due = ap (λ (l : List (List Decision)). length l) (branch_due v ds branch is_open) in
      let count = length-append (children inst ds (sign_of branch)) (behind inst ds) in
      let less : limit - branched ≡ (limit - (branched + 1)) + 1 = omega (arith, left) in
      omega (arith, due, count, few_children v ds branch, less)

  -- decisions that were made where they were open lie within reach
  pub made_in_reach : (ds : List Decision) → WereMade inst ds → IsInReach inst ds
  made_in_reach [] made = refl
  made_in_reach (Assign j k ∷ ds) made =
      and_from (reaches inst j k) (is_in_reach inst ds) made.1 (made_in_reach ds made.2)
  made_in_reach (Order i j ∷ ds) made = made_in_reach ds made.2

  -- a node that isn't closed has starts
  pub not_stuck : (ds : List Decision) (u : Bound) (stuck : Bool) → HasNone inst ds stuck
      → ¬ IsClosable inst ds u → stuck ≡ false
  not_stuck ds u true none unclosed = absurd (unclosed (no_starts none))
  not_stuck ds u false none unclosed = refl

  pub has_starts : (ds : List Decision) (stuck : Bool) → HasNone inst ds stuck → stuck ≡ false → HasStarts inst ds
  has_starts ds stuck none e = subst (HasNone inst ds) e none
