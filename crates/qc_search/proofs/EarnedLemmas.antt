-- Nodes that are earned one behind the other.
use Rattle.std.proofs.Common.{◌≡◌, ℕ, ◌+◌, ◌<◌, ◌≤◌, ◌⊎◌, inl, inr, cond, List, [], ◌∷◌, ◌++◌, drop, get_or, refl, ap, sym, subst, ◌∙◌, append_assoc, arith, All, Any, Contains}
use Rattle.std.proofs.lemmas.Bool.{cases_lt}
use Rattle.std.proofs.lemmas.List.{append-nil}
use Rattle.std.proofs.lemmas.List.Elements.{All-append, All-cons, Contains-append_left, Contains-push}
use Rattle.std.proofs.lemmas.List.Sums.{sum_by-append, sum_by-cons}
use Rattle.std.proofs.lemmas.Simd.{map-map}
use Rattle.qc_num.specs.declared.bound.Bound.{Bound}
use Rattle.qc_num.specs.declared.bound.Bound.TheVariants.{Least, Never}
use Rattle.qc_num.specs.Bounds.{IsAtMost, least_bound, lesser}
use Rattle.qc_close.specs.Model.{Direction, InstanceView, seen}
use Rattle.qc_tree.specs.Trees.{Node, branches, branchings, part_value}
use Rattle.qc_search.specs.Earned.{IsEarnedBehind, IsKnownEnd, IsSolvedBy, TreeNode, branchings_in, node_at, part_nodes}
use Rattle.qc_search.specs.Progress.{AreEarned, value_at, value_in}
use Rattle.qc_num.proofs.BoundLemmas.{at_most_through, lesser_assoc, lesser_first, lesser_never, same_least, second_through}

-- ---- lists

cons_tail : {A : Type 0} (x y : A) (xs ys : List A) → (x ∷ xs) ≡ (y ∷ ys) → xs ≡ ys
cons_tail x y xs ys e = ap (λ l. drop 1 l) e

cons_head : {A : Type 0} (x y : A) (xs ys : List A) → (x ∷ xs) ≡ (y ∷ ys) → x ≡ y
cons_head x y xs ys e = ap (λ l. get_or l 0 x) e

no_cons : {A : Type 0} (b : List A) (x : A) (a : List A) → [] ≡ (b ++ x ∷ a) → ⊥
no_cons [] x a e = cc e
no_cons (y ∷ b) x a e = cc e

-- an element with a fact
pub any_of : {A : Type 0} (P : A → Type 0) (xs : List A) (x : A) → Contains xs x → P x → Any P xs
any_of P xs x c p = (c.0, x, c.1, c.2, p)

pub any_before : {A : Type 0} (P : A → Type 0) (xs ys : List A) → Any P xs → Any P (xs ++ ys)
any_before P xs ys a =
    any_of P (xs ++ ys) a.1 (Contains-append_left xs ys a.1 (a.0, a.2, a.3)) a.4

all_one : {A : Type 0} (P : A → Type 0) (x : A) → P x → All P (x ∷ [])
all_one P x p = All-cons P x [] p (λ k d low. absurd (omega arith))

-- ---- one behind the other

module _ (home : InstanceView) (most : ℕ) (aim : Bound) where
  pub earned_then : (before one two : List TreeNode) → AreEarned home most aim before one
      → AreEarned home most aim (before ++ one) two → AreEarned home most aim before (one ++ two)
  earned_then before [] two h k = subst (λ (b : List TreeNode). AreEarned home most aim b two) (append-nil before) k
  earned_then before (node ∷ one) two h k = (
    h.0,
    earned_then (before ++ node ∷ []) one two h.1
        (subst (λ (b : List TreeNode). AreEarned home most aim b two) (sym (append_assoc before (node ∷ []) one)) k),
  )

  each_earned : (nodes before : List TreeNode) → AreEarned home most aim before nodes
      → (front : List TreeNode) (node : TreeNode) (rest : List TreeNode) → nodes ≡ front ++ node ∷ rest
      → IsEarnedBehind home most aim (before ++ front) node
  each_earned [] before h front node rest e = absurd (no_cons front node rest e)
  each_earned (n ∷ nodes) before h [] node rest e =
      subst (λ (b : List TreeNode). IsEarnedBehind home most aim b node) (sym (append-nil before))
      (subst (IsEarnedBehind home most aim before) (cons_head n node nodes rest e) h.0)
  each_earned (n ∷ nodes) before h (x ∷ front) node rest e =
      let below = each_earned nodes (before ++ n ∷ []) h.1 front node rest (cons_tail n x nodes (front ++ node ∷ rest) e) in
      subst (λ (b : List TreeNode). IsEarnedBehind home most aim b node)
      (append_assoc before (n ∷ []) front
      ∙ ap (λ (y : TreeNode). before ++ y ∷ front) (cons_head n x nodes (front ++ node ∷ rest) e))
      below

  pub all_earned : (nodes : List TreeNode) → AreEarned home most aim [] nodes
      → (front : List TreeNode) (node : TreeNode) (rest : List TreeNode) → nodes ≡ front ++ node ∷ rest
      → IsEarnedBehind home most aim front node
  all_earned nodes h = each_earned nodes [] h

-- ---- the least end that is known

module _ (home : InstanceView) (first : Bound) (before : List TreeNode) (u : Bound) (known : IsKnownEnd home first before u)
    (node : TreeNode) where
  -- an end that is reached is among more nodes too
  still_reached : (end : ℕ) → (first ≡ Least end) ⊎ Any (IsSolvedBy home end) before
      → (first ≡ Least end) ⊎ Any (IsSolvedBy home end) (before ++ node ∷ [])
  still_reached end (inl e) = inl e
  still_reached end (inr a) = inr (any_before (IsSolvedBy home end) before (node ∷ []) a)

  -- a node that is not solved sooner
  pub met_passed : ((end : ℕ) → IsSolvedBy home end node → IsAtMost u (Least end))
      → IsKnownEnd home first (before ++ node ∷ []) u
  met_passed late = record {
    reached = λ end is. still_reached end (known.reached end is);
    given = known.given;
    least = λ end.
        let P = λ (n : TreeNode). IsSolvedBy home end n → IsAtMost u (Least end) in
        All-append P before (node ∷ []) (known.least end) (all_one P node (late end));
  }

  -- a node that is
  pub met_taken : (end : ℕ) → IsSolvedBy home end node
      → ((other : ℕ) → IsSolvedBy home other node → other ≡ end) → IsAtMost (Least end) u
      → IsKnownEnd home first (before ++ node ∷ []) (Least end)
  met_taken end solved one sooner = record {
    reached = λ other is.
        inr (subst (λ (n : ℕ). Any (IsSolvedBy home n) (before ++ node ∷ [])) (same_least end other is)
        (any_of (IsSolvedBy home end) (before ++ node ∷ []) node (Contains-push before node) solved));
    given = at_most_through (Least end) u first sooner known.given;
    least = λ other.
        let P = λ (n : TreeNode). IsSolvedBy home other n → IsAtMost (Least end) (Least other) in
        All-append P before (node ∷ [])
        (λ k d low s. at_most_through (Least end) u (Least other) sooner (known.least other k d low s))
        (all_one P node (λ s. omega (arith, one other s)));
  }

-- ---- the least end that is known with an aim

pub lesser_is : (a b : Bound) → (lesser a b ≡ a) ⊎ (lesser a b ≡ b)
lesser_is (Least a) (Least b) = by_order (cases_lt a b)
  where
    by_order : (a < b) ⊎ (b ≤ a) → (lesser (Least a) (Least b) ≡ Least a) ⊎ (lesser (Least a) (Least b) ≡ Least b)
    by_order (inl less) = inl (ap Least (omega (arith, less)))
    by_order (inr more) = inr (ap Least (omega (arith, more)))
lesser_is (Least a) Never = inl refl
lesser_is Never b = inr refl

at_most_both : (a b : Bound) → IsAtMost a b → IsAtMost b a → a ≡ b
at_most_both (Least a) (Least b) h k = ap Least (omega (arith, h, k))
at_most_both (Least a) Never h k = absurd k
at_most_both Never (Least b) h k = absurd h
at_most_both Never Never h k = refl

module _ (home : InstanceView) (first aim : Bound) (nodes : List TreeNode) (known : Bound)
    (k : IsKnownEnd home first nodes known) (under : IsAtMost aim first) where
  -- where the end is the first one, it is the aim too
  aimed_reached : (end : ℕ) → lesser aim known ≡ Least end → (aim ≡ Least end) ⊎ Any (IsSolvedBy home end) nodes
  aimed_reached end is = by_lesser (lesser_is aim known)
    where
      by_known : (first ≡ Least end) ⊎ Any (IsSolvedBy home end) nodes → (aim ≡ Least end) ⊎ Any (IsSolvedBy home end) nodes
      by_known (inl e) =
          inl (at_most_both aim (Least end) (subst (IsAtMost aim) e under)
          (subst (λ (b : Bound). IsAtMost b aim) is (lesser_first aim known)))
      by_known (inr any) = inr any

      by_lesser : (lesser aim known ≡ aim) ⊎ (lesser aim known ≡ known) → (aim ≡ Least end) ⊎ Any (IsSolvedBy home end) nodes
      by_lesser (inl e) = inl (sym e ∙ is)
      by_lesser (inr e) = by_known (k.reached end (sym e ∙ is))

  pub aimed : IsKnownEnd home aim nodes (lesser aim known)
  aimed = record {
    reached = aimed_reached;
    given = lesser_first aim known;
    least = λ end j d low solved. second_through aim known (Least end) (k.least end j d low solved);
  }

-- ---- what nodes come to

pub value-append : (home : InstanceView) (one two : List TreeNode)
    → value_in home (one ++ two) ≡ lesser (value_in home one) (value_in home two)
value-append home [] two = refl
value-append home (node ∷ one) two =
    ap (lesser (value_at home node)) (value-append home one two)
    ∙ sym (lesser_assoc (value_at home node) (value_in home one) (value_in home two))

pub value_push : (home : InstanceView) (before : List TreeNode) (node : TreeNode)
    → value_in home (before ++ node ∷ []) ≡ lesser (value_in home before) (value_at home node)
value_push home before node =
    value-append home before (node ∷ []) ∙ ap (lesser (value_in home before)) (lesser_never (value_at home node))

pub branchings-append : (one two : List TreeNode) → branchings_in (one ++ two) ≡ branchings_in one + branchings_in two
branchings-append = sum_by-append (λ (node : TreeNode). cond (branches node.sign) 1 0)

-- the nodes of a part, counted and valued as they are by themselves
pub branched_in : (way : Direction) (nodes : List Node) → branchings_in (part_nodes way nodes) ≡ branchings nodes
branched_in way [] = refl
branched_in way (n ∷ nodes) =
    sum_by-cons (λ (node : TreeNode). cond (branches node.sign) 1 0) (node_at way n.decisions n.sign) (part_nodes way nodes)
    ∙ ap (λ (k : ℕ). cond (branches n.sign) 1 0 + k) (branched_in way nodes)
    ∙ sym (sum_by-cons (λ (node : Node). cond (branches node.sign) 1 0) n nodes)

pub valued_in : (home : InstanceView) (way : Direction) (nodes : List Node)
    → value_in home (part_nodes way nodes) ≡ part_value (seen home way) nodes
valued_in home way nodes =
    ap least_bound (map-map (value_at home) (λ (node : Node). node_at way node.decisions node.sign) nodes)
