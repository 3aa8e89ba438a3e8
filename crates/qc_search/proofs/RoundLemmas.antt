-- What the rounds of a search come to, all together.
use Rattle.std.proofs.Common.{◌≡◌, ℕ, suc, ◌+◌, ◌*◌, ◌^◌, ◌≤◌, ◌⊎◌, inl, inr, All, Contains, List, [], ◌∷◌, max, length, Option, refl, ap, sym, subst, ◌∙◌, arith, nat_le, mul-le-mul_left}
use Rattle.std.proofs.Math.Nat.{pow-le-pow_left, pow-le-pow_right}
use Rattle.std.proofs.lemmas.Bool.{cond_both, leb-true}
use Rattle.std.proofs.lemmas.List.Elements.{All-cons, All-contains, All-nil}
use Rattle.std.proofs.lemmas.List.Sums.{sum_by-cons}
use Rattle.qc_num.specs.declared.bound.Bound.{Bound}
use Rattle.qc_num.specs.declared.bound.Bound.TheVariants.{Least, Never}
use Rattle.qc_num.specs.Bounds.{IsAtMost}
use Rattle.qc_num.proofs.BoundLemmas.{at_most_same, at_most_through}
use Rattle.qc_close.specs.Model.{Slot, InstanceView, OneWay, Free, Turn, Valid, most_branchings, order_pairs}
use Rattle.qc_tree.specs.Trees.{IsTree, Tree, tree_branchings, tree_value}
use Rattle.qc_search.specs.declared.done.Kind.{Kind}
use Rattle.qc_search.specs.declared.done.Kind.TheVariants.{Budget, Optimal}
use Rattle.qc_search.specs.Rounds.{AreRounds, HasRun, IsFirstRound, IsRound, Round, branchings_of}
use Rattle.qc_search.specs.Run.{SearchView, best_end, branching_limit, outcome, parts_by}
use Rattle.qc_search.proofs.CountLemmas.{few_in_tree}
use Rattle.qc_search.proofs.RunLemmas.{decided}

-- ---- what an outcome says

-- it is Budget, or the incumbent ends by the bound
pub settled : (value met : Bound) → (outcome value met ≡ Budget) ⊎ IsAtMost met value
settled Never Never = inr tt
settled Never (Least end) = inr tt
settled (Least value) Never = inl refl
settled (Least value) (Least end) =
    cond_both (nat_le end value) Optimal Budget (λ (k : Kind). (k ≡ Budget) ⊎ (end ≤ value)) (λ t. inr (leb-true end value t))
    (λ f. inl refl)

-- under Budget no incumbent ends by the bound, nor by a lower one
pub open_below : (value met low more : Bound) → outcome value met ≡ Budget → IsAtMost met more → IsAtMost more low
    → IsAtMost low value → ⊥
open_below value met low more kind by up late =
    decided value met kind (at_most_through met low value (at_most_through met more low by up) late)

-- ---- rounds, the newest first

module _ (search : SearchView) where
  abbrev inst : InstanceView
  inst = search.inst

  -- each tree is one of the instance
  pub are_trees : (newest : Round) (earlier : List Round) → AreRounds search newest earlier
      → All (λ (r : Round). IsTree inst r.tree) (newest ∷ earlier)
  are_trees newest [] are =
      All-cons (λ (r : Round). IsTree inst r.tree) newest [] are.is.run.is_tree (All-nil (λ (r : Round). IsTree inst r.tree))
  are_trees newest (before ∷ earlier) are =
      All-cons (λ (r : Round). IsTree inst r.tree) newest (before ∷ earlier) are.0.run.is_tree
      (are_trees before earlier are.1)

  -- the first of all, behind which no best schedule ends later
  pub record HasFirst (newest : Round) (earlier : List Round) : Type 0 where
    pub main : Round
    pub is_main : IsFirstRound search main
    pub among : Contains (newest ∷ earlier) main
    pub no_later : IsAtMost (best_end inst newest.best) (best_end inst main.best)

  pub has_first : (newest : Round) (earlier : List Round) → AreRounds search newest earlier → HasFirst newest earlier
  has_first newest [] are = record {
    main = newest;
    is_main = are;
    among = (0, omega arith, refl);
    no_later = at_most_same (best_end inst newest.best);
  }
  has_first newest (before ∷ earlier) are =
      let h = has_first before earlier are.1 in
      record {
        main = h.main;
        is_main = h.is_main;
        among = (suc h.among.0, omega (arith, h.among.1), h.among.2);
        no_later = at_most_through (best_end inst newest.best) (best_end inst before.best) (best_end inst h.main.best)
            are.0.no_later h.no_later;
      }

  -- ---- a search that has run so far

  module _ (tree : Tree) (best : Option (List Slot)) (branched : ℕ) (ran : HasRun search tree best branched) where
    abbrev rounds : List Round
    rounds = ran.newest ∷ ran.earlier

    abbrev first : HasFirst ran.newest ran.earlier
    first = has_first ran.newest ran.earlier ran.are

    abbrev main : Round
    main = first.main

    abbrev value : Bound
    value = tree_value inst main.tree

    pub ran_tree : IsTree inst tree
    ran_tree =
        subst (IsTree inst) (sym ran.is_tree)
        (All-contains (λ (r : Round). IsTree inst r.tree) rounds ran.stands
        (are_trees ran.newest ran.earlier ran.are) ran.is_one)

    -- the best schedule ends no later than that of the first round
    ran_by_first : IsAtMost (best_end inst best) (best_end inst first.main.best)
    ran_by_first =
        subst (λ (o : Option (List Slot)). IsAtMost (best_end inst o) (best_end inst first.main.best)) (sym ran.is_best)
        first.no_later

    -- and no later than that with which the search begins
    pub ran_no_later : IsAtMost (best_end inst best) (best_end inst search.first)
    ran_no_later =
        at_most_through (best_end inst best) (best_end inst first.main.best) (best_end inst search.first) ran_by_first
        first.is_main.is.no_later

    -- the tree shows as much as the first round's
    shows_first : IsAtMost (tree_value inst first.main.tree) (tree_value inst tree)
    shows_first =
        All-contains (λ (r : Round). IsAtMost (tree_value inst r.tree) (tree_value inst tree)) rounds first.main
        ran.shows_most first.among

    -- with so many branchings the search comes to a decision, or shows the aim
    pub ran_decides : Valid inst → branching_limit inst ≤ search.nodes
        → outcome (tree_value inst tree) (best_end inst best) ≡ Budget → IsAtMost search.aim (tree_value inst tree)
    ran_decides v enough kind = by_kind (settled value (best_end inst main.best))
      where
        by_spent : (tree_branchings main.tree ≡ main.most) ⊎ IsAtMost main.aim value → IsAtMost search.aim (tree_value inst tree)
        by_spent (inl all) =
            let few = few_in_tree inst v main.tree first.is_main.is.run.is_tree in
            absurd (omega (arith, few, all, first.is_main.whole enough, enough))
        by_spent (inr shown) =
            at_most_through search.aim value (tree_value inst tree)
            (subst (λ (a : Bound). IsAtMost a value) first.is_main.aim shown) shows_first

        by_kind : (outcome value (best_end inst main.best) ≡ Budget) ⊎ IsAtMost (best_end inst main.best) value
            → IsAtMost search.aim (tree_value inst tree)
        by_kind (inl budget) = by_spent (first.is_main.is.run.spent budget)
        by_kind (inr late) =
            absurd (open_below (tree_value inst tree) (best_end inst best) value (best_end inst main.best) kind
            ran_by_first late shows_first)

    -- ---- one more round

    module _ (round : Round) (is : IsRound inst best round) (room : branched + tree_branchings round.tree ≤ search.nodes) where
      abbrev more : List Round
      more = round ∷ rounds

      are_more : AreRounds search round rounds
      are_more = (subst (λ (o : Option (List Slot)). IsRound inst o round) ran.is_best is, ran.are)

      count_more : tree_branchings round.tree + branched ≡ branchings_of more
      count_more =
          ap (λ (n : ℕ). tree_branchings round.tree + n) ran.branched_is
          ∙ sym (sum_by-cons (λ (r : Round). tree_branchings r.tree) round rounds)

      -- it shows no more than the one that stands
      pub ran_on : IsAtMost (tree_value inst round.tree) (tree_value inst tree)
          → HasRun search tree round.best (tree_branchings round.tree + branched)
      ran_on no_more = record {
        newest = round;
        earlier = rounds;
        are = are_more;
        is_best = refl;
        branched_is = count_more;
        few = omega (arith, room);
        stands = ran.stands;
        is_one = (suc ran.is_one.0, omega (arith, ran.is_one.1), ran.is_one.2);
        is_tree = ran.is_tree;
        shows_most = All-cons (λ (r : Round). IsAtMost (tree_value inst r.tree) (tree_value inst tree)) round rounds no_more
            ran.shows_most;
      }

      -- it shows more, and its tree stands
      pub ran_up : IsAtMost (tree_value inst tree) (tree_value inst round.tree)
          → HasRun search round.tree round.best (tree_branchings round.tree + branched)
      ran_up up = record {
        newest = round;
        earlier = rounds;
        are = are_more;
        is_best = refl;
        branched_is = count_more;
        few = omega (arith, room);
        stands = round;
        is_one = (0, omega arith, refl);
        is_tree = refl;
        shows_most = All-cons (λ (r : Round). IsAtMost (tree_value inst r.tree) (tree_value inst round.tree)) round rounds
            (at_most_same (tree_value inst round.tree))
            (λ k d low. at_most_through _ (tree_value inst tree) (tree_value inst round.tree) (ran.shows_most k d low) up);
      }

  -- the first round alone
  pub ran_first : (round : Round) → IsFirstRound search round → tree_branchings round.tree ≤ search.nodes
      → HasRun search round.tree round.best (tree_branchings round.tree)
  ran_first round is few = record {
    newest = round;
    earlier = [];
    are = is;
    is_best = refl;
    branched_is = sym (sum_by-cons (λ (r : Round). tree_branchings r.tree) round [] ∙ omega arith);
    few = few;
    stands = round;
    is_one = (0, omega arith, refl);
    is_tree = refl;
    shows_most = All-cons (λ (r : Round). IsAtMost (tree_value inst r.tree) (tree_value inst round.tree)) round []
        (at_most_same (tree_value inst round.tree))
        (All-nil (λ (r : Round). IsAtMost (tree_value inst r.tree) (tree_value inst round.tree)));
  }

-- ---- from 20 tasks on no search has branchings enough to be decided by them alone

parts_some : (turn : Turn) → 1 ≤ parts_by turn
parts_some OneWay = omega arith
parts_some Free = omega arith

pub few_tasks : (inst : InstanceView) (nodes : ℕ) → nodes ≤ most_branchings → branching_limit inst ≤ nodes
    → 20 ≤ length inst.tasks → ⊥
few_tasks inst nodes few enough many =
    let base = max 2 (length inst.cranes) in
    let left = length inst.tasks + order_pairs inst in
    let two : 2 ≤ base = omega arith in
    let low : 2 ^ 20 ≤ base ^ 20 = pow-le-pow_left {n = 2} {m = base} two 20 in
    let up : base ^ 20 ≤ base ^ left = pow-le-pow_right {n = base} (omega (arith, two)) {i = 20} {j = left} (omega (arith, many)) in
    let all : base ^ left ≤ parts_by inst.turn * base ^ left = omega (arith, mul-le-mul_left (base ^ left) (parts_some inst.turn)) in
    omega (arith, low, up, all, enough, few)
