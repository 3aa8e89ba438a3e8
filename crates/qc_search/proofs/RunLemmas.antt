-- A tree whose nodes are all earned is a run, and what is told of it.
use Rattle.std.proofs.Common.{◌≡◌, ◌≢◌, ℕ, ◌<◌, ◌≤◌, ◌⊎◌, inl, inr, All, Bool, cond, List, [], length, Option, None, Some, refl, ap, sym, subst, ◌∙◌, arith, IsErr, MatchOption, OnOk, Result, Ok, Err, option_map}
use Rattle.std.proofs.Math.Nat.{eq-or-lt_of_le}
use Rattle.std.proofs.lemmas.Bool.{false≢true, le-leb}
use Rattle.qc_io.specs.Outside.{View}
use Rattle.qc_num.specs.declared.bound.Bound.{Bound}
use Rattle.qc_num.specs.declared.bound.Bound.TheVariants.{Least, Never}
use Rattle.qc_num.specs.Bounds.{IsAtMost, lesser}
use Rattle.qc_num.proofs.BoundLemmas.{at_most_through}
use Rattle.qc_close.specs.Model.{Direction, Slot, InstanceView, Valid, ends, seen_schedule}
use Rattle.qc_tree.specs.Trees.{NoneEarlier, tree_branchings, tree_value}
use Rattle.qc_tree.proofs.TreeBound.{tree_bound}
use Rattle.qc_search.specs.declared.progress.Progress.{Progress}
use Rattle.qc_search.specs.declared.done.Kind.TheVariants.{Budget, Optimal}
use Rattle.qc_search.specs.Earned.{IsKnownEnd, tree_nodes}
use Rattle.qc_search.specs.Progress.{IsBegun, IsFrom, IsKept, WritesTree, bound_end, known_best, shown_best}
use Rattle.qc_search.specs.Run.{DoneView, IsBestKnown, IsRun, IsSearched, IsSound, SearchView, best_end, branching_limit, outcome}
use Rattle.qc_search.proofs.CountLemmas.{few_in_tree}
use Rattle.qc_search.proofs.EarnedLemmas.{all_earned, lesser_is}
use Rattle.qc_search.proofs.ShownLemmas.{best_shown, cranes_low, goes_is, judgeable_is, tight_is}
use Rattle.qc_search.proofs.TightLemmas.{best_end_is, best_soon, kept_end}
use Rattle.qc_search.proofs.TreeLemmas.{bound_is, branched_is}

-- where no leaf shows an end before that of the incumbent, the outcome isn't Budget
pub decided : (value met : Bound) → outcome value met ≡ Budget → IsAtMost met value → ⊥
decided Never met is late = cc is
decided (Least value) Never is late = late
decided (Least value) (Least end) is late =
    cc (sym is ∙ ap (λ (b : Bool). cond b Optimal Budget) (le-leb end value late))

-- what the lesser of two bounds is at most, one of them is
at_most_one : (a b c : Bound) → IsAtMost (lesser a b) c → IsAtMost a c ⊎ IsAtMost b c
at_most_one a b c h = by_lesser (lesser_is a b)
  where
    by_lesser : (lesser a b ≡ a) ⊎ (lesser a b ≡ b) → IsAtMost a c ⊎ IsAtMost b c
    by_lesser (inl e) = inl (subst (λ (x : Bound). IsAtMost x c) e h)
    by_lesser (inr e) = inr (subst (λ (x : Bound). IsAtMost x c) e h)

-- what holds of a value holds of no error
pub not_ok : {T E : Type 0} (P : Type 0) (r : Result T E) → IsErr r → OnOk r P
not_ok P (Ok x) e = absurd (false≢true e)
not_ok P (Err why) e = tt

-- what is told of a tree that was written, by a search that began with this end
abbrev pub done_with : ℕ → Bound → Progress → DoneView
done_with cranes first now = record {
  kind = outcome now.bound now.incumbent_end;
  bound = now.bound;
  branched = now.branched;
  given = bound_end first;
  best = shown_best cranes now.incumbent_end now.way now.incumbent;
  way = now.way;
}

abbrev pub done_of : InstanceView → Bound → Progress → DoneView
done_of home first now = done_with (length home.cranes) first now

-- the end of the schedule that the search began with, as it is told
pub told_end : (home : InstanceView) (first : Option (List Slot)) → bound_end (best_end home first) ≡ option_map (ends home) first
told_end home None = refl
told_end home (Some sched) = refl

module _ (home : InstanceView) (v : Valid home) {before after : View} (old now : Progress) (b : IsBegun home old)
    (w : WritesTree before after home (known_best home old) old now (Ok tt)) where
  abbrev first : Option (List Slot)
  first = known_best home old

  -- the best schedule as it is answered, and its end
  best_is : MatchOption (shown_best (length home.cranes) now.incumbent_end now.way now.incumbent)
      (now.incumbent_end ≡ Never) (IsBestKnown home first w.tree)
  best_is = best_shown home first now _ w.progress (IsBestKnown home first w.tree) (λ end known_is k. by_origin end known_is k k.from)
    where
      by_origin : (end : ℕ) → now.incumbent_end ≡ Least end → (k : IsKept home first now (tree_nodes w.tree) end)
          → IsFrom home first now (tree_nodes w.tree) end k.node
          → IsBestKnown home first w.tree (seen_schedule home now.incumbent k.node.way)
      by_origin end known_is k (inl met) = inr (record {
        node = k.node;
        stands = met.0;
        begins = k.begins;
        solved = k.solved;
        sooner = subst (λ (n : ℕ). ¬ IsAtMost (best_end home first) (Least n)) k.ends met.1;
        earliest = subst (IsKnownEnd home (best_end home first) (tree_nodes w.tree)) (known_is ∙ ap Least k.ends) w.progress.known;
        is = ap (λ (s : List Slot). seen_schedule home s k.node.way) k.is;
      })
      by_origin end known_is k (inr e) = inl (record {
        is = e ∙ ap (λ (way : Direction). Some (seen_schedule home now.incumbent way)) (sym k.way);
        earliest = subst (IsKnownEnd home (best_end home first) (tree_nodes w.tree))
            (known_is ∙ ap Least (kept_end home first now _ w.progress end k)) w.progress.known;
      })

  pub branched_told : now.branched ≡ tree_branchings w.tree
  branched_told = branched_is home first w.tree now w.progress

  pub bound_told : now.bound ≡ tree_value home w.tree
  bound_told = bound_is home first w.tree now w.progress

  -- under Budget all branchings are spent, or the aim is shown
  spent_is : outcome now.bound now.incumbent_end ≡ Budget → (now.branched ≡ old.limit) ⊎ IsAtMost old.aim now.bound
  spent_is kind = by_left (eq-or-lt_of_le w.progress.few)
    where
      by_late : IsAtMost now.aim now.bound ⊎ IsAtMost now.incumbent_end now.bound
          → (now.branched ≡ old.limit) ⊎ IsAtMost old.aim now.bound
      by_late (inl shown) = inr (subst (λ (a : Bound). IsAtMost a now.bound) w.along.aim shown)
      by_late (inr late) = absurd (decided now.bound now.incumbent_end kind late)

      by_left : (now.branched ≡ now.limit) ⊎ (now.branched < now.limit)
          → (now.branched ≡ old.limit) ⊎ IsAtMost old.aim now.bound
      by_left (inl all) = inl (all ∙ w.along.limit)
      by_left (inr left) = by_late (at_most_one now.aim now.incumbent_end now.bound (w.progress.late left))

  -- what is told of that, of the tree
  spent_in : (now.branched ≡ old.limit) ⊎ IsAtMost old.aim now.bound
      → (tree_branchings w.tree ≡ old.limit) ⊎ IsAtMost old.aim (tree_value home w.tree)
  spent_in (inl all) = inl (sym branched_told ∙ all)
  spent_in (inr shown) = inr (subst (IsAtMost old.aim) bound_told shown)

  -- with so many branchings not all are spent
  decides_is : branching_limit home ≤ old.limit → outcome now.bound now.incumbent_end ≡ Budget → IsAtMost old.aim now.bound
  decides_is enough kind = by_spent (spent_is kind)
    where
      by_spent : (now.branched ≡ old.limit) ⊎ IsAtMost old.aim now.bound → IsAtMost old.aim now.bound
      by_spent (inl all) = absurd (omega (arith, enough, all, branched_told, few_in_tree home v w.tree w.is_tree))
      by_spent (inr shown) = shown

  pub run_is : IsRun home old.limit first old.aim w.tree (shown_best (length home.cranes) now.incumbent_end now.way now.incumbent)
      (outcome now.bound now.incumbent_end)
  run_is = record {
    tight = tight_is home first v old [] b.progress;
    is_tree = w.is_tree;
    under = b.progress.under;
    earned = record {
      few = omega (arith, branched_told, w.progress.few, w.along.limit);
      each = all_earned home old.limit old.aim (tree_nodes w.tree) w.earned;
    };
    known = now.incumbent_end;
    ends = w.progress.known;
    is_best = best_is;
    is_kind = ap (λ (b : Bound). outcome b now.incumbent_end) bound_told;
    spent = λ kind. spent_in (spent_is kind);
  }

  -- what was searched
  abbrev searched : SearchView
  searched = record { inst = home; nodes = old.limit; first = first; aim = old.aim }

  pub went_searched : IsSearched searched before.written after.written
      (done_of home old.incumbent_end now)
  went_searched = record {
    tree = w.tree;
    run = run_is;
    bound = bound_told;
    branched = branched_told;
    written = w.writes.whole;
  }

  pub went_cranes : (end : ℕ) → now.incumbent_end ≡ Least end → All (λ (s : Slot). s.crane < length home.cranes) now.incumbent
  went_cranes = cranes_low home first v now _ w.progress

  pub went_sound : IsSound searched (done_of home old.incumbent_end now)
  went_sound =
      let ends_is = best_end_is home first now _ w.progress in
      record {
        none_earlier = subst (NoneEarlier home) (sym bound_told) (tree_bound home v w.tree w.is_tree);
        judgeable = judgeable_is home first v now _ w.progress;
        tight = tight_is home first v now _ w.progress;
        goes = goes_is home first v now _ w.progress;
        soon = best_soon home first now _ w.progress _ ends_is;
        kind = ap (outcome now.bound) (sym ends_is);
        spent = spent_is;
        given = ap bound_end (sym (best_end_is home first old [] b.progress)) ∙ told_end home first;
        no_later = subst (λ (e : Bound). IsAtMost e (best_end home first)) (sym ends_is) w.progress.known.given;
        decides = decides_is;
      }

-- ---- a search that aims at the end of what it began with

module _ (search : SearchView) (done : DoneView) (sound : IsSound search done)
    (plain : search.aim ≡ best_end search.inst search.first) where
  -- such an aim isn't shown under Budget
  aim_open : done.kind ≡ Budget → ¬ IsAtMost search.aim done.bound
  aim_open kind shown =
      decided done.bound (best_end search.inst done.best) (sym sound.kind ∙ kind)
      (at_most_through (best_end search.inst done.best) (best_end search.inst search.first) done.bound sound.no_later
      (subst (λ (a : Bound). IsAtMost a done.bound) plain shown))

  -- under Budget exactly as many branchings are written as may be
  pub all_spent : done.kind ≡ Budget → done.branched ≡ search.nodes
  all_spent kind = by_spent (sound.spent kind)
    where
      by_spent : (done.branched ≡ search.nodes) ⊎ IsAtMost search.aim done.bound → done.branched ≡ search.nodes
      by_spent (inl all) = all
      by_spent (inr shown) = absurd (aim_open kind shown)

  -- with so many branchings it comes to a decision
  pub all_decided : branching_limit search.inst ≤ search.nodes → done.kind ≢ Budget
  all_decided enough kind = aim_open kind (sound.decides enough kind)
