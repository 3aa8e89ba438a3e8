-- No schedule of the instance's turn ends earlier than the value of a tree.
use Rattle.std.proofs.Common.{◌≡◌, ℕ, zero, suc, ◌+◌, ◌<◌, ◌≤◌, inl, inr, List, [], ◌∷◌, ◌++◌, length, map, Option, None, Some, IsSome, ◌⊎◌, max, refl, ap, subst, sym, arith, unwrap_or}
use Rattle.std.proofs.lemmas.Bool.{cases_lt, false≢true}
use Rattle.std.specs.List.{range_with_len}
use Rattle.qc_num.specs.declared.bound.Bound.{Bound}
use Rattle.qc_num.specs.declared.bound.Bound.TheVariants.{Least, Never}
use Rattle.qc_num.specs.Bounds.{IsAtMost}
use Rattle.qc_num.proofs.BoundLemmas.{first_through, second_through}
use Rattle.qc_close.specs.Model.{Decision, Slot, Task, Turn, OneWay, Free, GoesBy, InstanceView, Valid, leaf_value, Agrees, Conflicts, Fits, IsSettled, IsAllowedBy, mirror, mirror_schedule, mirror_slot, mirror_task, Feasible, crane_of, ends, last_end, starts}
use Rattle.qc_model.specs.declared.decision.Decision.TheVariants as decide
use Rattle.qc_laws.proofs.NodeLemmas.{leaf_le}
use Rattle.qc_model.proofs.MirrorLemmas.{mirror_valid}
use Rattle.qc_model.proofs.NodeLemmas.{conflict_turned, settled_turned, unsettled_unordered}
use Rattle.qc_model.proofs.TurnLemmas.{by_feasible, goes_by}
use Rattle.qc_tree.specs.Trees.{Holds, IsSecond, IsTree, Leads, Node, NoneEarlier, Sign, Tree, children, leaf, node_value, on_pair, on_task, part_value, sign_value, tree_value}
use Rattle.qc_tree.proofs.OrderLemmas.{conflict_clear, may_conflict}

shown_through : (o : Option Bound) (c : Bound) → IsSome o → ((b : Bound) → o ≡ Some b → IsAtMost b c)
    → IsAtMost (unwrap_or o Never) c
shown_through None c some h = absurd (false≢true some)
shown_through (Some b) c some h = h b refl

-- ---- nodes that come, for a schedule that agrees with one that must come

module _ (inst : InstanceView) (v : Valid inst) (sched : List Slot) (g : GoesBy inst.turn inst sched) where
  feasible : Feasible inst sched
  feasible = by_feasible inst.turn inst sched g

  -- the schedule agrees with the node of these decisions
  abbrev Meets : List Decision → Type 0
  Meets ds = Fits inst ds × Agrees inst ds sched

  abbrev MeetsOne : List (List Decision) → Type 0
  MeetsOne [] = ⊥
  MeetsOne (ds ∷ more) = Meets ds ⊎ MeetsOne more

  among_first : (one two : List (List Decision)) → MeetsOne one → MeetsOne (one ++ two)
  among_first [] two h = absurd h
  among_first (ds ∷ one) two (inl h) = inl h
  among_first (ds ∷ one) two (inr h) = inr (among_first one two h)

  among_second : (one two : List (List Decision)) → MeetsOne two → MeetsOne (one ++ two)
  among_second [] two h = h
  among_second (ds ∷ one) two h = inr (among_second one two h)

  among_numbers : (f : ℕ → List Decision) (k a n : ℕ) → a ≤ k → k < a + n → Meets (f k)
      → MeetsOne (map f (range_with_len a n))
  among_numbers f k a zero low high h = absurd (omega arith)
  among_numbers f k a (suc n) low high h = elim (cases_lt a k) [
    | inl l ↦ inr (among_numbers f k (a + 1) n (omega arith) (omega arith) h)
    | inr l ↦
        let e : k ≡ a = omega arith in
        inl (subst (λ (x : ℕ). Meets (f x)) e h)
  ]

  -- task i is first of two that conflict
  order_fits : (ds : List Decision) (i j : ℕ) → Fits inst ds → Conflicts inst ds i j
      → (¬ IsSettled inst ds i j) → Fits inst (decide.Order i j ∷ ds)
  order_fits ds i j fits conflict unsettled =
      let unordered = unsettled_unordered inst ds i j unsettled in
      (conflict, unordered.0, unordered.1, fits)

  -- a schedule that agrees with a branching agrees with one of its children
  on_one_task : (ds : List Decision) (j : ℕ) → Meets ds → Holds inst ds (on_task j)
      → MeetsOne (children inst ds (on_task j))
  on_one_task ds j m holds =
      let k = crane_of sched j in
      let there : k < length inst.cranes = feasible.crane_range j holds.0 in
      among_numbers (λ c. decide.Assign j c ∷ ds) k 0 (length inst.cranes) (omega arith) (omega arith)
      ((holds.0, there, holds.1, m.0), (refl, m.1))

  on_one_pair : (ds : List Decision) (i j : ℕ) → Meets ds → Holds inst ds (on_pair i j)
      → MeetsOne (children inst ds (on_pair i j))
  on_one_pair ds i j m holds =
      let conflict = may_conflict inst.turn inst ds i j holds.0 in
      elim (conflict_clear inst v ds sched feasible m.1 i j conflict) [
        | inl sooner ↦ inl (order_fits ds i j m.0 conflict holds.1, (sooner, m.1))
        | inr later ↦
            let unsettled = λ (s : IsSettled inst ds j i). holds.1 (settled_turned inst ds j i s) in
            inr (inl (order_fits ds j i m.0 (conflict_turned inst ds i j conflict) unsettled, (later, m.1)))
      ]

  -- where it agrees with a node that must come, the next node shows no later end, or it agrees with one that must
  -- come behind this
  line_met : (sign : Sign) (ds : List Decision) (more : List (List Decision)) → Holds inst ds sign
      → MeetsOne (ds ∷ more)
      → IsAtMost (sign_value inst ds sign) (Least (ends inst sched))
      ⊎ MeetsOne (children inst ds sign ++ more)
  line_met sign ds more holds (inr m) = inr (among_second (children inst ds sign) more m)
  line_met (leaf shows) ds more holds (inl m) =
      inl (shown_through (leaf_value inst ds shows) (Least (ends inst sched)) holds
      (λ b e. leaf_le inst ds sched g m.1 v m.0 shows b e))
  line_met (on_task j) ds more holds (inl m) =
      inr (among_first (children inst ds (on_task j)) more (on_one_task ds j m holds))
  line_met (on_pair i j) ds more holds (inl m) =
      inr (among_first (children inst ds (on_pair i j)) more (on_one_pair ds i j m holds))

  -- it ends no earlier than the least value of the nodes that come
  nodes_met : (nodes : List Node) (due : List (List Decision)) → Leads inst due nodes []
      → MeetsOne due → IsAtMost (part_value inst nodes) (Least (ends inst sched))
  nodes_met [] due h m = absurd (subst MeetsOne h m)
  nodes_met (node ∷ nodes) [] h m = absurd h
  nodes_met (node ∷ nodes) (ds ∷ more) h m =
      let end = Least (ends inst sched) in
      let first = node_value inst node in
      let rest = part_value inst nodes in
      elim (line_met node.sign ds more h.1 m) [
        | inl one ↦
            first_through first rest end
            (subst (λ (d : List Decision). IsAtMost (sign_value inst d node.sign) end) (sym h.0) one)
        | inr next ↦
            second_through first rest end
            (nodes_met nodes (children inst ds node.sign ++ more) h.2 next)
      ]

-- ---- a tree, for every schedule that cranes may follow

-- the end of a schedule is that of its mirror
mirrored_end : (inst : InstanceView) (tasks : List Task) (sched : List Slot)
    → last_end (map (mirror_task inst) tasks) (starts (map (mirror_slot inst) sched)) ≡ last_end tasks (starts sched)
mirrored_end inst [] sched = refl
mirrored_end inst (t ∷ ts) [] = refl
mirrored_end inst (t ∷ ts) (s ∷ ss) = ap (λ n. max (s.start + t.ticks) n) (mirrored_end inst ts ss)

module _ (inst : InstanceView) (v : Valid inst) (tree : Tree) (is : IsTree inst tree) (sched : List Slot) where
  abbrev up : Bound
  up = part_value inst tree.up

  abbrev down : Bound
  down = part_value (mirror inst) tree.down

  abbrev end : Bound
  end = Least (ends inst sched)

  bound_by : (turn : Turn) → inst.turn ≡ turn → IsSecond turn inst tree.down
      → IsAllowedBy turn inst sched → IsAtMost (tree_value inst tree) end
  bound_by OneWay one second (inl goes) =
      first_through up down end
      (nodes_met inst v sched (goes_by inst.turn inst sched goes) tree.up ([] ∷ []) is.up (inl (tt, tt)))
  bound_by OneWay one second (inr goes) =
      let turned = mirror_schedule inst sched in
      let met =
      nodes_met (mirror inst) (mirror_valid inst v) turned (goes_by inst.turn (mirror inst) turned goes.mirrored)
      tree.down ([] ∷ []) second (inl (tt, tt)) in
      let same : ends (mirror inst) turned ≡ ends inst sched = mirrored_end inst inst.tasks sched in
      second_through up down end (subst (λ (n : ℕ). IsAtMost down (Least n)) same met)
  bound_by Free free second goes =
      first_through up down end
      (nodes_met inst v sched (subst (λ (t : Turn). GoesBy t inst sched) (sym free) goes) tree.up ([] ∷ []) is.up
      (inl (tt, tt)))

pub tree_bound : (inst : InstanceView) → Valid inst → (tree : Tree) → IsTree inst tree
    → NoneEarlier inst (tree_value inst tree)
tree_bound inst v tree is sched goes = bound_by inst v tree is sched inst.turn refl is.down goes
