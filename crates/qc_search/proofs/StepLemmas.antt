-- The line of one node as a step of the search: a leaf, or a branching.
use Rattle.std.proofs.Common.{Contains, ◌≡◌, ℕ, ◌+◌, ◌<◌, ◌⊎◌, inl, inr, List, [], ◌∷◌, ◌++◌, length, IsSome, Option, Some, refl, ap, ap₂, sym, subst, ◌∙◌, arith}
use Rattle.std.proofs.lemmas.List.Elements.{Contains-append_left, Contains-push}
use Rattle.std.proofs.lemmas.List.FromFn.{length-map-range_with_len}
use Rattle.qc_num.specs.declared.bound.Bound.{Bound}
use Rattle.qc_num.specs.declared.bound.Bound.TheVariants.{Least, Never}
use Rattle.qc_num.specs.Bounds.{IsAtMost, lesser}
use Rattle.qc_num.proofs.BoundLemmas.{at_most_lesser, at_most_same, at_most_through, lesser_first, lesser_never, same_least, second_through}
use Rattle.smallvec.specs.SmallVec.{SmallVec}
use Rattle.qc_bounds.proofs.ClosedLemmas.{one_end}
use Rattle.qc_close.specs.Model.{Decision, Direction, Up, Free, IsClosable, complete, Slot, InstanceView, Leaf, leaf_value, IsComplete, IsNodeEnd, slot_with, last_end, seen, seen_schedule}
use Rattle.qc_tree.specs.Trees.{Sign, leaf, on_pair, on_task, sign_value}
use Rattle.qc_search.specs.declared.branch.Branch.{Branch}
use Rattle.qc_search.specs.declared.branch.Branch.TheVariants.{Pair, Task}
use Rattle.qc_search.specs.declared.progress.Progress.{Progress}
use Rattle.qc_search.specs.Earned.{IsClosedAt, IsEarnedBehind, IsGivenUp, IsKnownEnd, IsClashLate, IsSolvedBy, MayStand, TreeNode, branchings_in, node_at}
use Rattle.qc_search.specs.Progress.{Improves, IsAlong, IsFrom, IsKept, IsPartOf, IsPassed, IsProgress, IsSoon, IsStep, IsTaken, cutoff, value_in}
use Rattle.qc_search.specs.Run.{best_end}
use Rattle.qc_search.specs.Walk.{IsOpenBranch, sign_of}
use Rattle.qc_search.proofs.BestLemmas.{at_most_of, not_late}
use Rattle.qc_search.proofs.EarnedLemmas.{aimed, branchings-append, met_passed, met_taken, value_push}

-- ---- the incumbent

-- what meeting a node leaves as it was
pub record IsSameBut (inst : InstanceView) (old mid : Progress) : Type 0 where
  pub path : mid.path ≡ old.path
  pub bound : mid.bound ≡ old.bound
  pub branched : mid.branched ≡ old.branched
  pub limit : mid.limit ≡ old.limit
  pub aim : mid.aim ≡ old.aim
  pub count : length old.incumbent ≡ length inst.tasks → length mid.incumbent ≡ length inst.tasks

pub same_but : (inst : InstanceView) (way : Direction) (ds : List Decision) (old mid : Progress)
    → IsPassed inst ds old mid ⊎ IsTaken inst way ds old mid → IsSameBut inst old mid
same_but inst way ds old mid (inl p) = subst (IsSameBut inst old) (sym p.same)
    (record { path = refl; bound = refl; branched = refl; limit = refl; aim = refl; count = λ h. h })
same_but inst way ds old mid (inr t) = subst (IsSameBut inst old) (sym t.is) (record {
  path = refl;
  bound = refl;
  branched = refl;
  limit = refl;
  aim = refl;
  count = λ h. length-map-range_with_len (slot_with ds t.begins) 0 (length inst.tasks);
})

-- an incumbent stays one by the same way and schedule, among more nodes
pub kept_as : (home : InstanceView) (first : Option (List Slot)) (old new : Progress) (nodes more : List TreeNode) (end : ℕ)
    → new.way ≡ old.way → new.incumbent ≡ old.incumbent
    → ((n : TreeNode) → Contains nodes n → Contains more n)
    → IsKept home first old nodes end → IsKept home first new more end
kept_as home first old new nodes more end way same on k = record {
  node = k.node;
  from = still k.from;
  begins = k.begins;
  fits = k.fits;
  solved = k.solved;
  ends = k.ends;
  soon = k.soon;
  way = k.way ∙ sym way;
  only_up = k.only_up;
  is = same ∙ k.is;
}
  where
    still : IsFrom home first old nodes end k.node → IsFrom home first new more end k.node
    still (inl met) = inl (on k.node met.0, met.1)
    still (inr e) =
        inr (e ∙ sym (ap₂ (λ (s : List Slot) (w : Direction). Some (seen_schedule home s w)) same way))

kept_on : (home : InstanceView) (first : Option (List Slot)) (old new : Progress) (before : List TreeNode) (node : TreeNode)
    (end : ℕ) → new.way ≡ old.way → new.incumbent ≡ old.incumbent
    → IsKept home first old before end → IsKept home first new (before ++ node ∷ []) end
kept_on home first old new before node end way same =
    kept_as home first old new before (before ++ node ∷ []) end way same (Contains-append_left before (node ∷ []))

-- a later incumbent ends no later
pub met_before : (inst : InstanceView) (way : Direction) (ds : List Decision) (old mid : Progress)
    → IsPassed inst ds old mid ⊎ IsTaken inst way ds old mid → IsAtMost mid.incumbent_end old.incumbent_end
met_before inst way ds old mid (inl p) =
    subst (λ (c : Progress). IsAtMost c.incumbent_end old.incumbent_end) (sym p.same) (at_most_same old.incumbent_end)
met_before inst way ds old mid (inr t) =
    subst (λ (c : Progress). IsAtMost c.incumbent_end old.incumbent_end) (sym t.is)
    (at_most_of _ old.incumbent_end t.sooner)

-- so nodes are closed no later
pub cut_before : (inst : InstanceView) (way : Direction) (ds : List Decision) (old mid : Progress)
    → IsPassed inst ds old mid ⊎ IsTaken inst way ds old mid → IsAtMost (cutoff mid) (cutoff old)
cut_before inst way ds old mid meets =
    let same = (same_but inst way ds old mid meets).aim in
    at_most_lesser (cutoff mid) old.aim old.incumbent_end
    (subst (IsAtMost (cutoff mid)) same (lesser_first mid.aim mid.incumbent_end))
    (second_through mid.aim mid.incumbent_end old.incumbent_end (met_before inst way ds old mid meets))

-- ---- a leaf

-- what makes a leaf a step, where the node was met between
pub record IsLeafStep
    (inst : InstanceView) (way : Direction) (ds : List Decision) (shows : Leaf) (old mid : Progress) : Type 0 where
  pub holds : IsSome (leaf_value inst ds shows)
  pub closed : IsClosable inst ds (cutoff old) → IsClosedAt inst ds (cutoff old) shows
  pub given_up : ¬ IsClosable inst ds (cutoff old)
      → IsClashLate inst ds (cutoff old) shows ⊎ ((old.branched ≡ old.limit) × IsGivenUp inst ds shows)
  pub meets : IsPassed inst ds old mid ⊎ IsTaken inst way ds old mid
  pub late : old.branched < old.limit → IsAtMost (cutoff mid) (sign_value inst ds (leaf shows))

module _ (home : InstanceView) (first : Option (List Slot)) (way : Direction) (only_up : home.turn ≡ Free → way ≡ Up)
    (ds : List Decision) (before : List TreeNode) where
  module _ (sign : Sign) where
    abbrev here : TreeNode
    here = node_at way ds sign

    solved_node_end : (end : ℕ) → IsSolvedBy home end here → IsNodeEnd (seen home way) ds end
    solved_node_end end s = record { starts = s.starts; least = s.solved.least; ends = s.ends }

    met_mid : (old mid : Progress) → IsKnownEnd home (best_end home first) before old.incumbent_end
        → IsPassed (seen home way) ds old mid ⊎ IsTaken (seen home way) way ds old mid
        → IsKnownEnd home (best_end home first) (before ++ here ∷ []) mid.incumbent_end
    met_mid old mid met (inl p) =
        subst (λ (c : Progress). IsKnownEnd home (best_end home first) (before ++ here ∷ []) c.incumbent_end) (sym p.same)
        (met_passed home (best_end home first) before old.incumbent_end met here (λ end s.
        subst (λ (n : ℕ). IsAtMost old.incumbent_end (Least n)) (sym s.ends)
        (p.late s.starts s.solved.complete s.solved.in_reach s.solved.least)))
    met_mid old mid met (inr t) =
        let end = last_end (seen home way).tasks t.begins in
        let solved : IsSolvedBy home end here = record {
          starts = t.begins;
          solved = record { complete = t.complete; in_reach = t.in_reach; least = t.least };
          ends = refl;
        } in
        subst (λ (c : Progress). IsKnownEnd home (best_end home first) (before ++ here ∷ []) c.incumbent_end) (sym t.is)
        (met_taken home (best_end home first) before old.incumbent_end met here end solved
        (λ other s. one_end (seen home way) ds other end (solved_node_end other s) (solved_node_end end solved))
        (at_most_of end old.incumbent_end t.sooner))

    kept_mid : (old mid : Progress) → IsAtMost old.incumbent_end (best_end home first)
        → ((end : ℕ) → old.incumbent_end ≡ Least end → IsKept home first old before end)
        → IsPassed (seen home way) ds old mid ⊎ IsTaken (seen home way) way ds old mid
        → (end : ℕ) → mid.incumbent_end ≡ Least end → IsKept home first mid (before ++ here ∷ []) end
    kept_mid old mid given best (inl p) end e =
        kept_on home first old mid before here end (ap (λ (c : Progress). c.way) p.same)
        (ap (λ (c : Progress). c.incumbent) p.same) (best end (sym (ap (λ (c : Progress). c.incumbent_end) p.same) ∙ e))
    kept_mid old mid given best (inr t) end e =
        let is = same_least end (last_end (seen home way).tasks t.begins)
        (sym e ∙ ap (λ (c : Progress). c.incumbent_end) t.is) in
        record {
          node = here;
          from = inl (
            Contains-push before here,
            λ late. not_late end old.incumbent_end (subst (λ (n : ℕ). Improves n old.incumbent_end) (sym is) t.sooner)
                (at_most_through old.incumbent_end (best_end home first) (Least end) given late),
          );
          begins = t.begins;
          fits = t.fits;
          solved = record { complete = t.complete; in_reach = t.in_reach; least = t.least };
          ends = is;
          soon = omega (arith, is, t.soon);
          way = sym (ap (λ (c : Progress). c.way) t.is);
          only_up = only_up;
          is = ap (λ (c : Progress). c.incumbent) t.is;
        }

  leaf_earned : (shows : Leaf) (old mid : Progress) (path : SmallVec ℕ) → IsProgress home first old before
      → IsLeafStep (seen home way) way ds shows old mid
      → IsEarnedBehind home old.limit old.aim before (node_at way ds (leaf shows))
      × IsProgress home first (record mid {
        bound = lesser mid.bound (sign_value (seen home way) ds (leaf shows));
        path = path;
      }) (before ++ node_at way ds (leaf shows) ∷ [])
  leaf_earned shows old mid path now s =
      let node = node_at way ds (leaf shows) in
      let same = same_but (seen home way) way ds old mid s.meets in
      let value = sign_value (seen home way) ds (leaf shows) in (
        record {
          u = cutoff old;
          known = aimed home (best_end home first) old.aim before old.incumbent_end now.known now.under;
          stands = (s.closed, λ open_node. spent_by (s.given_up open_node));
        },
        record {
          few = omega (arith, now.few, same.branched, same.limit);
          branched = omega (arith, now.branched, same.branched, branchings-append before (node ∷ []));
          bound = ap (λ (b : Bound). lesser b value) (same.bound ∙ now.bound) ∙ sym (value_push home before node);
          known = met_mid (leaf shows) old mid now.known s.meets;
          under = subst (λ (a : Bound). IsAtMost a (best_end home first)) (sym same.aim) now.under;
          best = λ end e. kept_as home first mid _ (before ++ node ∷ []) (before ++ node ∷ []) end refl refl (λ n c. c)
              (kept_mid (leaf shows) old mid now.known.given now.best s.meets end e);
          late = λ left.
              let less : old.branched < old.limit = omega (arith, left, same.branched, same.limit) in
              at_most_lesser (cutoff mid) mid.bound value
              (subst (IsAtMost (cutoff mid)) (sym same.bound)
              (at_most_through (cutoff mid) (cutoff old) old.bound
              (cut_before (seen home way) way ds old mid s.meets) (now.late less)))
              (s.late less);
        },
      )
    where
      spent_by : IsClashLate (seen home way) ds (cutoff old) shows
          ⊎ ((old.branched ≡ old.limit) × IsGivenUp (seen home way) ds shows)
          → IsClashLate (seen home way) ds (cutoff old) shows
          ⊎ ((branchings_in before ≡ old.limit) × IsGivenUp (seen home way) ds shows)
      spent_by (inl late) = inl late
      spent_by (inr g) = inr (sym now.branched ∙ g.0, g.1)

-- a leaf was met, and its value taken
pub leaf_step : (inst : InstanceView) (way : Direction) (ds : List Decision) (shows : Leaf) (old mid : Progress)
    (path : SmallVec ℕ) → path.capacity ≡ mid.path.capacity
    → (IsSoon mid.bound → IsSoon (lesser mid.bound (sign_value inst ds (leaf shows))))
    → IsLeafStep inst way ds shows old mid
    → IsStep inst way ds (leaf shows) old
    (record mid { bound = lesser mid.bound (sign_value inst ds (leaf shows)); path = path })
leaf_step inst way ds shows old mid path capacity soon s =
    let same = same_but inst way ds old mid s.meets in
    record {
      holds = s.holds;
      along = record {
        limit = same.limit;
        aim = same.aim;
        count = same.count;
        room = λ h. omega (arith, capacity, ap (λ (p : SmallVec ℕ). p.capacity) same.path, h);
        soon = λ h. soon (subst IsSoon (sym same.bound) h);
      };
      earned = λ home first before seen_so now.
          subst (λ (i : InstanceView). IsEarnedBehind home old.limit old.aim before (node_at way ds (leaf shows))
          × IsProgress home first (record mid {
            bound = lesser mid.bound (sign_value i ds (leaf shows));
            path = path;
          }) (before ++ node_at way ds (leaf shows) ∷ [])) seen_so.same
          (leaf_earned home first way seen_so.only_up ds before shows old mid path now
          (subst (λ (i : InstanceView). IsLeafStep i way ds shows old mid) (sym seen_so.same) s));
    }

-- ---- a branching

module _ (inst : InstanceView) (way : Direction) (ds : List Decision) (old : Progress)
    (unclosed : ¬ IsClosable inst ds (cutoff old))
    (left : old.branched < old.limit) where
  abbrev branched : Progress
  branched = record old { branched = old.branched + 1 }

  branch_earned : (sign : Sign) (home : InstanceView) (first : Option (List Slot)) (before : List TreeNode)
      → IsPartOf home way inst
      → branchings_in (node_at way ds sign ∷ []) ≡ 1
      → sign_value (seen home way) ds sign ≡ Never
      → MayStand (seen home way) ds (cutoff old) (branchings_in before) old.limit sign
      → IsProgress home first old before
      → IsEarnedBehind home old.limit old.aim before (node_at way ds sign)
      × IsProgress home first branched (before ++ node_at way ds sign ∷ [])
  branch_earned sign home first before seen_so one worthless stands now =
      let node = node_at way ds sign in (
        record {
          u = cutoff old;
          known = aimed home (best_end home first) old.aim before old.incumbent_end now.known now.under;
          stands = stands;
        },
        record {
          few = omega (arith, left);
          branched = omega (arith, now.branched, branchings-append before (node ∷ []), one);
          bound = now.bound ∙ sym (lesser_never (value_in home before))
              ∙ ap (lesser (value_in home before)) (sym worthless) ∙ sym (value_push home before node);
          known = met_passed home (best_end home first) before old.incumbent_end now.known node (λ end by. absurd (unclosed (complete
              (subst (λ (i : InstanceView). IsComplete i ds) seen_so.same by.solved.complete))));
          under = now.under;
          best = λ end e. kept_on home first old branched before node end refl refl (now.best end e);
          late = λ more. now.late left;
        },
      )

  along : IsAlong inst old branched
  along = record { limit = refl; aim = refl; count = λ h. h; room = λ h. h; soon = λ h. h }

  stands_open : (home : InstanceView) → IsPartOf home way inst → ¬ IsClosable (seen home way) ds (cutoff old)
  stands_open home seen_so = subst (λ (i : InstanceView). ¬ IsClosable i ds (cutoff old)) (sym seen_so.same) unclosed

  pub branch_step : (branch : Branch) → IsOpenBranch inst ds branch
      → IsStep inst way ds (sign_of branch) old branched
  branch_step (Task j) is_open = record {
    holds = is_open;
    along = along;
    earned = λ home first before seen_so now.
        branch_earned (on_task j) home first before seen_so refl refl (stands_open home seen_so) now;
  }
  branch_step (Pair i j) is_open = record {
    holds = (is_open.0, is_open.1);
    along = along;
    earned = λ home first before seen_so now.
        branch_earned (on_pair i j) home first before seen_so refl refl (stands_open home seen_so) now;
  }
