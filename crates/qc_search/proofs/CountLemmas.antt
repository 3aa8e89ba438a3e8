-- No tree has more branchings than what is left to decide allows.
use Rattle.std.proofs.Common.{◌≡◌, ℕ, suc, ◌+◌, ◌-◌, ◌*◌, ◌^◌, ◌<◌, ◌≤◌, cond, max, List, [], ◌∷◌, ◌++◌, length, map, ◌/◌, refl, ap, ap₂, ◌∙◌, arith, mul-le-mul_left, sum_by}
use Rattle.std.proofs.Math.Nat.{mul_comm, one-le-pow, pow-le-pow_right, pow-suc, suc-mul}
use Rattle.std.proofs.lemmas.List.FromFn.{length-range_with_len}
use Rattle.std.proofs.lemmas.List.Sums.{sum_by-append, sum_by-cons}
use Rattle.qc_model.proofs.NodeLemmas.{conflict_turned, unsettled_unordered}
use Rattle.qc_dist.proofs.Room.{assigned_less, none_left, order_less, unassigned, unordered_left}
use Rattle.qc_close.specs.Model.{Decision, Down, Turn, OneWay, Free, InstanceView, Valid, order_pairs, order_pairs_by, crane_numbers, mirror}
use Rattle.qc_model.specs.declared.decision.Decision.TheVariants as decide
use Rattle.qc_model.proofs.MirrorLemmas.{seen_valid}
use Rattle.qc_model.proofs.SeenLemmas.{seen-crane_count, seen-task_count}
use Rattle.qc_tree.proofs.OrderLemmas.{may_conflict}
use Rattle.qc_tree.specs.Trees.{Holds, IsPart, IsSecond, IsTree, Leads, Node, Sign, Tree, branches, branchings, children, leaf, on_pair, on_task, tree_branchings}
use Rattle.qc_search.specs.Run.{branching_limit, parts_by}

-- of base parts, each with room for q branchings, one is left over for the branching itself
more_base : (base n q : ℕ) → base ^ n ≡ suc q → base ^ suc n ≡ q * base + base
more_base base n q e = pow-suc base n ∙ ap (λ x. x * base) e ∙ suc-mul q base

module _ (inst : InstanceView) (v : Valid inst) (base : ℕ) (two : 2 ≤ base) (cranes : length inst.cranes ≤ base) where
  -- how much is left to decide
  abbrev open_count : List Decision → ℕ
  open_count ds = unassigned inst ds + unordered_left inst ds

  -- how many branchings a part of this node has at most
  abbrev room : List Decision → ℕ
  room ds = base ^ open_count ds - 1

  some : (n : ℕ) → base ^ n ≡ suc (base ^ n - 1)
  some n = omega (arith, one-le-pow n base (omega (arith, two)))

  -- where less is left, the room is less
  less_room : (n : ℕ) (ds : List Decision) → open_count ds ≤ n → room ds ≤ base ^ n - 1
  less_room n ds low =
      omega (arith, pow-le-pow_right {n = base} (omega (arith, two)) {i = open_count ds} {j = n} low)

  crowd : (f : ℕ → List Decision) (q : ℕ) → ((k : ℕ) → room (f k) ≤ q) → (ks : List ℕ)
      → sum_by room (map f ks) ≤ length ks * q
  crowd f q few [] = omega arith
  crowd f q few (k ∷ ks) =
      omega (arith, sum_by-cons room (f k) (map f ks), few k, crowd f q few ks, suc-mul (length ks) q)

  -- a branching and the rooms of its children fit into its own room
  step_room : (ds : List Decision) (sign : Sign) → Holds inst ds sign
      → cond (branches sign) 1 0 + sum_by room (children inst ds sign) ≤ room ds
  step_room ds (leaf shows) holds = omega arith
  step_room ds (on_task j) holds =
      let n = open_count ds - 1 in
      let less = λ (k : ℕ). assigned_less inst ds j k holds.0 holds.1 in
      let q = base ^ n - 1 in
      let is : open_count ds ≡ suc n = omega (arith, less 0) in
      omega (
        arith,
        crowd (λ k. decide.Assign j k ∷ ds) q (λ k. less_room n (decide.Assign j k ∷ ds) (omega (arith, less k)))
            (crane_numbers inst),
        ap (λ x. x * q) (length-range_with_len 0 (length inst.cranes)),
        mul_comm (length inst.cranes) q,
        mul-le-mul_left q cranes,
        more_base base n q (some n),
        ap (λ x. base ^ x) is,
        two,
      )
  step_room ds (on_pair i j) holds =
      let n = open_count ds - 1 in
      let un = unsettled_unordered inst ds i j holds.1 in
      let conflict = may_conflict inst.turn inst ds i j holds.0 in
      let first = order_less inst v ds i j conflict un.0 un.1 in
      let second = order_less inst v ds j i (conflict_turned inst ds i j conflict) un.1 un.0 in
      let q = base ^ n - 1 in
      let one = decide.Order i j ∷ ds in
      let other = decide.Order j i ∷ ds in
      let is : open_count ds ≡ suc n = omega (arith, first) in
      omega (
        arith,
        sum_by-cons room one (other ∷ []),
        sum_by-cons room other [],
        less_room n one (omega (arith, first)),
        less_room n other (omega (arith, second)),
        mul-le-mul_left q two,
        more_base base n q (some n),
        ap (λ x. base ^ x) is,
        two,
      )

  few : (nodes : List Node) (due left : List (List Decision)) → Leads inst due nodes left
      → branchings nodes ≤ sum_by room due
  few [] due left h = omega arith
  few (node ∷ nodes) [] left h = absurd h
  few (node ∷ nodes) (ds ∷ more) left h =
      omega (
        arith,
        sum_by-cons (λ (n : Node). cond (branches n.sign) 1 0) node nodes,
        few nodes (children inst ds node.sign ++ more) left h.2,
        sum_by-append room (children inst ds node.sign) more,
        step_room ds node.sign h.1,
        sum_by-cons room ds more,
      )

  pub few_in_part : (nodes : List Node) → IsPart inst nodes
      → branchings nodes + 1 ≤ base ^ (length inst.tasks + order_pairs inst)
  few_in_part nodes is =
      let n = length inst.tasks + order_pairs inst in
      omega (
        arith,
        few nodes ([] ∷ []) [] is,
        sum_by-cons room [] [],
        less_room n [] (omega (arith, none_left inst)),
        some n,
      )

-- the mirror has as many pairs that may get an order
mirror_pairs : (inst : InstanceView) → order_pairs (mirror inst) ≡ order_pairs inst
mirror_pairs inst = by_turn inst.turn
  where
    by_turn : (turn : Turn) → order_pairs_by turn (mirror inst) ≡ order_pairs_by turn inst
    by_turn OneWay = refl
    by_turn Free = ap (λ (n : ℕ). n * (n - 1) / 2) (seen-task_count inst Down)

-- a tree has fewer branchings than the limit
pub few_in_tree : (inst : InstanceView) → Valid inst → (tree : Tree) → IsTree inst tree
    → tree_branchings tree < branching_limit inst
few_in_tree inst v tree is = by_turn inst.turn is.down
  where
    base : ℕ
    base = max 2 (length inst.cranes)

    most : ℕ
    most = base ^ (length inst.tasks + order_pairs inst)

    up : branchings tree.up + 1 ≤ most
    up = few_in_part inst v base (omega arith) (omega arith) tree.up is.up

    by_turn : (turn : Turn) → IsSecond turn inst tree.down
        → branchings tree.up + branchings tree.down < parts_by turn * most
    by_turn OneWay part =
        let same = seen-crane_count inst Down in
        let down = few_in_part (mirror inst) (seen_valid inst v Down) base (omega arith) (omega (arith, same))
        tree.down part in
        omega (arith, up, down, ap₂ (λ (m k : ℕ). base ^ (m + k)) (seen-task_count inst Down) (mirror_pairs inst))
    by_turn Free none = omega (arith, up, ap branchings none)
