-- Which leaves are steps, out of reach, closed or given up, and the lines of steps.
use Rattle.std.proofs.Common.{◌≡◌, ℕ, ◌+◌, ◌<◌, ◌≤◌, ◌⊎◌, inl, inr, Bool, true, false, not, List, [], ◌∷◌, ◌++◌, Result, Ok, Err, Option, None, Some, IfOk, IsSome, unwrap_or, refl, ap, sym, subst, ◌∙◌, arith, is_some}
use Rattle.std.proofs.lemmas.Bool.{cond-true, and_parts}
use Rattle.std.specs.Prelude.{⊤}
use Rattle.qc_io.specs.declared.writing.WriteFault.{WriteFault}
use Rattle.qc_io.specs.Outside.{View}
use Rattle.qc_io.specs.Writes.{Writes}
use Rattle.qc_num.specs.declared.bound.Bound.{Bound}
use Rattle.qc_num.specs.declared.bound.Bound.TheVariants.{Least, Never}
use Rattle.qc_num.specs.Bounds.{IsAtMost, lesser}
use Rattle.qc_num.specs.Paths.{HasRoom}
use Rattle.qc_num.proofs.BoundLemmas.{at_most_never, at_most_through, lesser_never, second_through}
use Rattle.smallvec.specs.SmallVec.{SmallVec}
use Rattle.qc_bounds.specs.declared.leaves.LeafKind.{LeafKind}
use Rattle.qc_bounds.specs.declared.leaves.LeafKind.TheVariants as kind
use Rattle.qc_bounds.specs.Closed.{IsClosedBy, IsSpentBy}
use Rattle.qc_bounds.proofs.ClosedLemmas.{never_out_of_reach, one_end}
use Rattle.qc_dist.specs.Children.{behind, later}
use Rattle.qc_dist.specs.Node.{Node}
use Rattle.qc_close.specs.Model.{Decision, Assign, Order, Direction, IsClosable, IsWorkBound, complete, ends_late, no_starts, out_of_reach, work_late, InstanceView, Valid, Leaf, chain, is_out_of_reach, leaf_value, reach, HasStarts, IsComplete, IsInReach, IsNodeEnd, reaches, most_tasks, last_end, is_in_reach}
use Rattle.qc_starts.specs.Seen.{IsReached, IsWhy}
use Rattle.qc_tree.specs.Trees.{leaf_text, sign_text, sign_value}
use Rattle.qc_tree.specs.Trees as signs
use Rattle.qc_search.specs.declared.branch.Branch.{Branch}
use Rattle.qc_search.specs.declared.progress.Progress.{Progress}
use Rattle.qc_search.specs.Earned.{IsChainTo, IsClosedAt, IsGivenUp, IsClashLate}
use Rattle.qc_search.specs.Lines.{IsLeafBy, leaf_of}
use Rattle.qc_search.specs.Progress.{IsPassed, IsSoon, IsStep, IsTaken, Visits, WritesNodes, cutoff, emptied, left_by}
use Rattle.qc_search.specs.Walk.{IsOpenBranch, first_of, from_child, from_node, sign_of}
use Rattle.qc_search.proofs.DescentLemmas.{branch_due}
use Rattle.qc_search.proofs.LineLemmas.{work_shown}
use Rattle.qc_search.proofs.NodesLemmas.{from_path, step_written}
use Rattle.qc_search.proofs.StepLemmas.{IsLeafStep, branch_step, cut_before, leaf_step, same_but}

-- ---- out of reach

out_of : (inst : InstanceView) (ds : List Decision) (d : Decision) → ¬ IsReached inst d
    → is_out_of_reach inst (d ∷ ds) ≡ true
out_of inst ds (Assign j k) away = by_test (reaches inst j k) away
  where
    by_test : (b : Bool) → ¬ (b ≡ true) → not b ≡ true
    by_test true away = absurd (away refl)
    by_test false away = refl
out_of inst ds (Order i j) away = absurd (away tt)

reached_in : (inst : InstanceView) (ds : List Decision) (d : Decision) → IsInReach inst (d ∷ ds) → IsReached inst d
reached_in inst ds (Assign j k) h = (and_parts (reaches inst j k) (is_in_reach inst ds) h).0
reached_in inst ds (Order i j) h = tt

-- a child out of reach
pub reach_step : (inst : InstanceView) (way : Direction) (ds : List Decision) (d : Decision) (now : Progress)
    → ¬ IsReached inst d → IsStep inst way (d ∷ ds) (signs.leaf reach) now now
reach_step inst way ds d now away =
    let out = out_of inst ds d away in
    let shows : leaf_value inst (d ∷ ds) reach ≡ Some Never =
    cond-true (is_out_of_reach inst (d ∷ ds)) (Some Never) None out in
    let value : sign_value inst (d ∷ ds) (signs.leaf reach) ≡ Never =
    ap (λ (o : Option Bound). unwrap_or o Never) shows in
    let same : lesser now.bound (sign_value inst (d ∷ ds) (signs.leaf reach)) ≡ now.bound =
    ap (lesser now.bound) value ∙ lesser_never now.bound in
    subst (λ (b : Bound). IsStep inst way (d ∷ ds) (signs.leaf reach) now (record now { bound = b })) same
    (leaf_step inst way (d ∷ ds) reach now now now.path refl (λ h. subst IsSoon (sym same) h) (record {
      holds = ap is_some shows;
      closed = λ _. record {
        out_of_reach = λ _. refl;
        no_starts = λ within. absurd (within out);
        complete = λ within. absurd (within out);
        late = λ within. absurd (within out);
      };
      given_up = λ open_node. absurd (open_node (out_of_reach out));
      meets = inl (record { same = refl; late = λ begins all within least. absurd (away (reached_in inst ds d within)) });
      late = λ left. subst (IsAtMost (cutoff now)) (sym value) (at_most_never (cutoff now));
    }))

-- ---- closed, and given up

-- the leaf holds
pub leaf_closes : (inst : InstanceView) (ds : List Decision) (u : Bound) (leaf : LeafKind) (tasks : List ℕ)
    → IsClosedBy inst ds u leaf tasks → IsLeafBy inst ds leaf tasks
leaf_closes inst ds u kind.Chain tasks h = h.0
leaf_closes inst ds u kind.Ring tasks h = h.ring
leaf_closes inst ds u (kind.Work end) tasks h = (h.0.empty, h.0.soon, h.0.shows)
leaf_closes inst ds u (kind.Clash end) tasks h = (h.0.soon, h.0.shows)

pub leaf_spends : (inst : InstanceView) (ds : List Decision) (leaf : LeafKind) (tasks : List ℕ)
    → IsSpentBy inst ds leaf tasks → IsLeafBy inst ds leaf tasks
leaf_spends inst ds kind.Chain tasks h = h.0
leaf_spends inst ds kind.Ring tasks h = h.ring
leaf_spends inst ds (kind.Work end) tasks h = (h.0.empty, h.0.soon, h.0.shows)
leaf_spends inst ds (kind.Clash end) tasks h = (h.0.soon, h.0.shows)

holds_by : (inst : InstanceView) (ds : List Decision) (leaf : LeafKind) (tasks : List ℕ)
    → IsLeafBy inst ds leaf tasks → IsSome (leaf_value inst ds (leaf_of leaf tasks))
holds_by inst ds kind.Chain tasks h = ap is_some h.chain
holds_by inst ds kind.Ring tasks h = ap is_some h
holds_by inst ds (kind.Work end) tasks h = ap is_some h.2
holds_by inst ds (kind.Clash end) tasks h = ap is_some h.1

why_starts : (inst : InstanceView) (ds : List Decision) (tasks : List ℕ) → IsWhy inst ds tasks → HasStarts inst ds
why_starts inst ds tasks why = record { starts = why.ends.starts; meets = why.ends.least.meets }

chain_to : (inst : InstanceView) (ds : List Decision) (tasks : List ℕ) (why : IsWhy inst ds tasks)
    → IsChainTo inst ds why.end (chain tasks)
chain_to inst ds tasks why = record { tasks = tasks; is = refl; value = why.chain }

-- a bound is no later than the end that it is
at_most_is : (u : Bound) (end : ℕ) → u ≡ Least end → IsAtMost u (Least end)
at_most_is u end e = subst (λ (v : Bound). IsAtMost v (Least end)) (sym e) (omega arith)

closed_as : (inst : InstanceView) (ds : List Decision) (u : Bound) (leaf : LeafKind) (tasks : List ℕ)
    → IsInReach inst ds → IsClosedBy inst ds u leaf tasks → IsClosedAt inst ds u (leaf_of leaf tasks)
closed_as inst ds u kind.Chain tasks within h = record {
  out_of_reach = λ out. absurd (never_out_of_reach inst ds within out);
  no_starts = λ _ none. absurd (none (why_starts inst ds tasks h.0));
  complete = λ _ _ _. (h.0.end, h.0.ends, chain_to inst ds tasks h.0);
  late = λ _ _ more.
      record { end = h.0.end; value = h.0.chain; late = due h.1 more };
}
  where
    due : IsComplete inst ds ⊎ IsAtMost u (Least h.0.end) → ¬ IsComplete inst ds → IsAtMost u (Least h.0.end)
    due (inl all) more = absurd (more all)
    due (inr late) more = late
closed_as inst ds u kind.Ring tasks within h = record {
  out_of_reach = λ out. absurd (never_out_of_reach inst ds within out);
  no_starts = λ _ _. (tasks, refl);
  complete = λ _ starts. absurd (h.none starts);
  late = λ _ starts. absurd (h.none starts);
}
closed_as inst ds u (kind.Work end) tasks within h = record {
  out_of_reach = λ out. absurd (never_out_of_reach inst ds within out);
  no_starts = λ _ none. absurd (none h.0.starts);
  complete = λ _ _ all. absurd (h.0.undecided all);
  late = λ _ _ _. record { end = end; value = h.0.shows; late = at_most_is u end h.1 };
}
closed_as inst ds u (kind.Clash end) tasks within h = record {
  out_of_reach = λ out. absurd (never_out_of_reach inst ds within out);
  no_starts = λ _ none. absurd (none h.0.starts);
  complete = λ _ _ all. absurd (h.0.undecided all);
  late = λ _ _ _. record { end = end; value = h.0.shows; late = h.1 };
}

-- a leaf that stands for a node that isn't closed lists packed tasks
packed_as : (inst : InstanceView) (ds : List Decision) (u : Bound) (leaf : LeafKind) (tasks : List ℕ)
    → IsClosedBy inst ds u leaf tasks → ¬ IsClosable inst ds u → IsClashLate inst ds u (leaf_of leaf tasks)
packed_as inst ds u kind.Chain tasks h open_node = by_due h.1
  where
    by_due : IsComplete inst ds ⊎ IsAtMost u (Least h.0.end) → IsClashLate inst ds u (chain tasks)
    by_due (inl all) = absurd (open_node (complete all))
    by_due (inr late) = absurd (open_node (ends_late (record { end = h.0.end; is = h.0.ends; late = late })))
packed_as inst ds u kind.Ring tasks h open_node = absurd (open_node (no_starts h.none))
packed_as inst ds u (kind.Work end) tasks h open_node =
    let both = work_shown inst ds end h.0.shows in
    absurd (open_node (work_late (record { end = end; positive = both.0; holds = both.1; late = at_most_is u end h.1 })))
packed_as inst ds u (kind.Clash end) tasks h open_node = record {
  tasks = tasks;
  is = refl;
  late = record { end = end; value = h.0.shows; late = h.1 };
}

given_as : (inst : InstanceView) (ds : List Decision) (u : Bound) (leaf : LeafKind) (tasks : List ℕ)
    → IsSpentBy inst ds leaf tasks → ¬ IsClosable inst ds u → IsGivenUp inst ds (leaf_of leaf tasks)
given_as inst ds u kind.Chain tasks h open_node = by_due h.1
  where
    by_due : IsComplete inst ds ⊎ ((bound : ℕ) × IsWorkBound inst ds bound × (bound ≤ h.0.end))
        → IsGivenUp inst ds (chain tasks)
    by_due (inl all) = absurd (open_node (complete all))
    by_due (inr low) = record {
      value = h.0.end;
      is = h.0.chain;
      end = h.0.end;
      ends = h.0.ends;
      no_less = omega arith;
      bound = low.0;
      works = low.1;
      no_shorter = low.2;
    }
given_as inst ds u kind.Ring tasks h open_node = absurd (open_node (no_starts h.none))
given_as inst ds u (kind.Work end) tasks h open_node = record {
  value = end;
  is = h.0.shows;
  end = h.2.0;
  ends = h.2.1;
  no_less = omega (arith, h.2.2);
  bound = end;
  works = h.1;
  no_shorter = omega arith;
}
given_as inst ds u (kind.Clash end) tasks h open_node = record {
  value = end;
  is = h.0.shows;
  end = h.2.0;
  ends = h.2.1;
  no_less = h.2.2;
  bound = h.1.0;
  works = h.1.1;
  no_shorter = h.1.2;
}

-- the end that was met once the node's schedule is taken, or passed by, is no later than the node's own
met_by_end : (inst : InstanceView) (way : Direction) (ds : List Decision) (old mid : Progress) (end : ℕ)
    → IsPassed inst ds old mid ⊎ IsTaken inst way ds old mid → IsInReach inst ds → IsComplete inst ds
    → IsNodeEnd inst ds end → IsAtMost mid.incumbent_end (Least end)
met_by_end inst way ds old mid end (inl p) within all e =
    subst (λ (c : Progress). IsAtMost c.incumbent_end (Least end)) (sym p.same)
    (subst (λ (n : ℕ). IsAtMost old.incumbent_end (Least n)) (sym e.ends) (p.late e.starts all within e.least))
met_by_end inst way ds old mid end (inr t) within all e =
    let mine : IsNodeEnd inst ds (last_end inst.tasks t.begins) =
    record { starts = t.begins; least = t.least; ends = refl } in
    subst (λ (c : Progress). IsAtMost c.incumbent_end (Least end)) (sym t.is)
    (omega (arith, one_end inst ds end (last_end inst.tasks t.begins) e mine))

-- the leaf of a closed node shows no end sooner than the one that was met
closed_late : (inst : InstanceView) (way : Direction) (ds : List Decision) (old mid : Progress) (leaf : LeafKind)
    (tasks : List ℕ) → IsPassed inst ds old mid ⊎ IsTaken inst way ds old mid → IsInReach inst ds
    → IsClosedBy inst ds (cutoff old) leaf tasks → IsAtMost (cutoff mid) (sign_value inst ds (signs.leaf (leaf_of leaf tasks)))
closed_late inst way ds old mid kind.Chain tasks meets within h =
    subst (IsAtMost (cutoff mid)) (sym (ap (λ (o : Option Bound). unwrap_or o Never) h.0.chain)) (by_due h.1)
  where
    by_due : IsComplete inst ds ⊎ IsAtMost (cutoff old) (Least h.0.end) → IsAtMost (cutoff mid) (Least h.0.end)
    by_due (inl all) =
        second_through mid.aim mid.incumbent_end (Least h.0.end) (met_by_end inst way ds old mid h.0.end meets within all h.0.ends)
    by_due (inr late) = at_most_through (cutoff mid) (cutoff old) (Least h.0.end) (cut_before inst way ds old mid meets) late
closed_late inst way ds old mid kind.Ring tasks meets within h =
    subst (IsAtMost (cutoff mid)) (sym (ap (λ (o : Option Bound). unwrap_or o Never) h.ring)) (at_most_never (cutoff mid))
closed_late inst way ds old mid (kind.Work end) tasks meets within h =
    subst (IsAtMost (cutoff mid)) (sym (ap (λ (o : Option Bound). unwrap_or o Never) h.0.shows))
    (at_most_through (cutoff mid) (cutoff old) (Least end) (cut_before inst way ds old mid meets) (at_most_is (cutoff old) end h.1))
closed_late inst way ds old mid (kind.Clash end) tasks meets within h =
    subst (IsAtMost (cutoff mid)) (sym (ap (λ (o : Option Bound). unwrap_or o Never) h.0.shows))
    (at_most_through (cutoff mid) (cutoff old) (Least end) (cut_before inst way ds old mid meets) h.1)

module _ (inst : InstanceView) (way : Direction) (ds : List Decision) (leaf : LeafKind) (old : Progress) where
  -- the leaf that closes the node, behind the meeting of it
  pub closed_step : (mid : Progress) → IsPassed inst ds old mid ⊎ IsTaken inst way ds old mid → IsInReach inst ds
      → IsClosedBy inst ds (cutoff old) leaf old.path.items
      → IsLeafStep inst way ds (leaf_of leaf old.path.items) old mid
  closed_step mid meets within by = record {
    holds = holds_by inst ds leaf old.path.items (leaf_closes inst ds (cutoff old) leaf old.path.items by);
    closed = λ _. closed_as inst ds (cutoff old) leaf old.path.items within by;
    given_up = λ open_node. inl (packed_as inst ds (cutoff old) leaf old.path.items by open_node);
    meets = meets;
    late = λ left. closed_late inst way ds old mid leaf old.path.items meets within by;
  }

  -- the leaf of a node that isn't branched on any more
  pub spent_step : ¬ IsClosable inst ds (cutoff old) → old.branched ≡ old.limit
      → IsSpentBy inst ds leaf old.path.items → IsLeafStep inst way ds (leaf_of leaf old.path.items) old old
  spent_step open_node spent by = record {
    holds = holds_by inst ds leaf old.path.items (leaf_spends inst ds leaf old.path.items by);
    closed = λ closable. absurd (open_node closable);
    given_up = λ _. inr (spent, given_as inst ds (cutoff old) leaf old.path.items by open_node);
    meets = inl (record { same = refl; late = λ begins all within least. absurd (open_node (complete all)) });
    late = λ left. absurd (omega (arith, left, spent));
  }

-- ---- their lines

soon_lesser : (a b : Bound) → IsSoon b → IsSoon a → IsSoon (lesser a b)
soon_lesser (Least a) (Least b) h k = omega arith
soon_lesser (Least a) Never h k = k
soon_lesser Never b h k = h

-- the line of a leaf that was met between, whose value was taken into the bound
leaf_written : {before after : View} (inst : InstanceView) (way : Direction) (ds : List Decision)
    (more : List (List Decision)) (shows : Leaf) (old mid new : Progress) (value : Bound) (result : Result ⊤ WriteFault)
    → IsLeafStep inst way ds shows old mid → leaf_value inst ds shows ≡ Some value → IsSoon value
    → new ≡ record mid { bound = lesser mid.bound value; path = new.path }
    → new.path.capacity ≡ mid.path.capacity → Writes before after (leaf_text shows) result
    → WritesNodes [] before after inst way (ds ∷ more) (left_by (λ _. more) result) old new result
leaf_written inst way ds more shows old mid new value result step valued soon is capacity w =
    let shown : sign_value inst ds (signs.leaf shows) ≡ value = ap (λ (o : Option Bound). unwrap_or o Never) valued in
    step_written ds more (signs.leaf shows) old new result
    (subst (λ (c : Progress). IsStep inst way ds (signs.leaf shows) old c)
    (ap (λ (b : Bound). record mid { bound = lesser mid.bound b; path = new.path }) shown ∙ sym is)
    (leaf_step inst way ds shows old mid new.path capacity
    (λ h. soon_lesser mid.bound _ (subst IsSoon (sym shown) soon) h) step)) w

module _ {before after : View} (inst : InstanceView) (way : Direction) (ds : List Decision) (leaf : LeafKind)
    (old new : Progress) (value : Bound) (soon : IsSoon value) (result : Result ⊤ WriteFault) where
  pub closed_written : (mid : Progress) → IsPassed inst ds old mid ⊎ IsTaken inst way ds old mid → IsInReach inst ds
      → IsClosedBy inst ds (cutoff old) leaf old.path.items
      → leaf_value inst ds (leaf_of leaf old.path.items) ≡ Some value
      → new ≡ record mid { bound = lesser mid.bound value; path = new.path }
      → new.path.capacity ≡ mid.path.capacity
      → Writes before after (leaf_text (leaf_of leaf mid.path.items)) result
      → WritesNodes [] before after inst way (from_node inst ds) (left_by (λ _. behind inst ds) result) old new result
  closed_written mid meets within by valued is capacity w =
      let tasks = ap (λ (p : SmallVec ℕ). p.items) (same_but inst way ds old mid meets).path in
      leaf_written inst way ds (behind inst ds) (leaf_of leaf old.path.items) old mid new value result
      (closed_step inst way ds leaf old mid meets within by) valued soon is capacity
      (subst (λ (t : List ℕ). Writes before after (leaf_text (leaf_of leaf t)) result) tasks w)

  pub spent_written : ¬ IsClosable inst ds (cutoff old) → old.branched ≡ old.limit
      → IsSpentBy inst ds leaf old.path.items
      → leaf_value inst ds (leaf_of leaf old.path.items) ≡ Some value
      → new ≡ record old { bound = lesser old.bound value; path = new.path }
      → new.path.capacity ≡ old.path.capacity
      → Writes before after (leaf_text (leaf_of leaf old.path.items)) result
      → WritesNodes [] before after inst way (from_node inst ds) (left_by (λ _. behind inst ds) result) old new result
  spent_written open_node spent by valued is capacity w =
      leaf_written inst way ds (behind inst ds) (leaf_of leaf old.path.items) old old new value result
      (spent_step inst way ds leaf old open_node spent by) valued soon is capacity w

-- the line of a branching
pub branch_written : {before after : View} (inst : InstanceView) (way : Direction) (ds : List Decision) (branch : Branch)
    (old : Progress) (result : Result ⊤ WriteFault) → Valid inst → IsOpenBranch inst ds branch → ¬ IsClosable inst ds (cutoff old)
    → old.branched < old.limit → Writes before after (sign_text (sign_of branch)) result
    → WritesNodes [] before after inst way (from_node inst ds)
    (left_by (λ _. from_child inst ds (Some (first_of branch))) result) old
    (record old { branched = old.branched + 1 }) result
branch_written {before} {after} inst way ds branch old result v is_open unclosed left w =
    let new = record old { branched = old.branched + 1 } in
    subst (λ (l : List (List Decision)). WritesNodes [] before after inst way (from_node inst ds) (left_by (λ _. l) result)
    old new result) (branch_due inst v ds branch is_open)
    (step_written ds (behind inst ds) (sign_of branch) old new result
    (branch_step inst way ds old unclosed left branch is_open) w)

-- the line of a child that is out of reach: those from the next one on are left
pub reach_written : {before after : View} (inst : InstanceView) (way : Direction) (ds : List Decision) (d : Decision)
    (now : Progress) (result : Result ⊤ WriteFault) → ¬ IsReached inst d → Writes before after (leaf_text reach) result
    → WritesNodes [] before after inst way (from_child inst ds (Some d))
    (left_by (λ _. later inst ds d ++ behind inst ds) result) now now result
reach_written inst way ds d now result away w =
    step_written (d ∷ ds) (later inst ds d ++ behind inst ds) (signs.leaf reach) now now result
    (reach_step inst way ds d now away) w

-- ---- what a node is left with

module _ {before after : View} (node : Node) (way : Direction) (old new : Progress) where
  -- one without children
  pub visits_leaf : (result : Result (Option Decision) WriteFault) → IfOk result (λ child. child ≡ None)
      → WritesNodes [] before after node.inst way (from_node node.inst node.decisions)
      (left_by (λ _. behind node.inst node.decisions) (emptied result)) old new (emptied result)
      → new.branched ≡ old.branched → new.limit ≡ old.limit → old.branched ≤ old.limit
      → Visits before after node way old new result
  visits_leaf (Ok None) none line branched limit few = record {
    line = line;
    child = tt;
    fewer = omega (arith, branched, limit);
    few = omega (arith, branched, limit, few);
  }
  visits_leaf (Ok (Some child)) none line branched limit few = absurd (cc none)
  visits_leaf (Err fault) none line branched limit few = record { line = line; child = tt; fewer = tt; few = tt }

  -- what closing a node does to the room for a leaf's tasks tells nothing
  pub visits_from : (path : SmallVec ℕ) (result : Result (Option Decision) WriteFault)
      → (HasRoom most_tasks old.path → HasRoom most_tasks path)
      → Visits before after node way (record old { path = path }) new result → Visits before after node way old new result
  visits_from path result room v = record {
    line = from_path old path room v.line;
    child = v.child;
    fewer = v.fewer;
    few = v.few;
  }
