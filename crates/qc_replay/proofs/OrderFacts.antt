-- Whether the order of two tasks may be branched on: as a test, and as a fact.
use Rattle.std.proofs.Common.{◌≡◌, ◌↔◌, ℕ, ◌-◌, ◌<◌, Bool, true, false, not, ◌&&◌, ◌||◌, ◌==◌, nat_lt, inl, inr, List, length, Option, None, Some, IsTrue, refl, ap, ap₂, sym, subst, ◌∙◌, arith}
use Rattle.std.proofs.lemmas.Bool.{and_from, and_parts, eq-eqb, eqb-true, false_from_ne_true, false≢true, lt-ltb, ltb-true, ne_eqb, not-true, or_cases, or_left, or_right, true≢false}
use Rattle.qc_close.specs.Model.{Decision, Turn, OneWay, Free, InstanceView, Valid, Clash, Conflicts, assigned, task_distance, is_apart}
use Rattle.qc_model.proofs.NodeLemmas.{one_way_apart}
use Rattle.qc_tree.specs.Trees.{MayOrderBy}
use Rattle.qc_tree.proofs.OrderLemmas.{may_conflict, may_order_low}
use Rattle.qc_dist.specs.Node.{Node}
use Rattle.qc_replay.specs.Walk.{clash, is_number, may_order}
use Rattle.qc_replay.proofs.NodeFacts.{number_inside}

module _ (inst : InstanceView) (ds : List Decision) (i j : ℕ) where
  -- on two cranes, too near each other
  abbrev near : ℕ → ℕ → Bool
  near v w = (v == w) || nat_lt 0 (task_distance inst i v j w)

  clash_of : inst.turn ≡ Free → i < length inst.tasks → j < length inst.tasks → (o p : Option ℕ) → assigned ds i ≡ o
      → assigned ds j ≡ p → clash inst i j o p ≡ true → Clash inst ds i j
  clash_of free low high None p e f t = absurd (false≢true t)
  clash_of free low high (Some v) None e f t = absurd (false≢true t)
  clash_of free low high (Some v) (Some w) e f t =
      let parts = and_parts (not (i == j)) (near v w) t in
      record {
        free = free;
        first = low;
        second = high;
        differ = λ same. true≢false (sym (eq-eqb i j same) ∙ not-true (i == j) parts.0);
        first_crane = v;
        second_crane = w;
        of_first = e;
        of_second = f;
        near = elim (or_cases (v == w) (nat_lt 0 (task_distance inst i v j w)) parts.1) [
          | inl one ↦ inl (eqb-true v w one)
          | inr two ↦ inr (ltb-true 0 (task_distance inst i v j w) two)
        ];
      }

  clash_is : Clash inst ds i j → clash inst i j (assigned ds i) (assigned ds j) ≡ true
  clash_is c =
      let v = c.first_crane in
      let w = c.second_crane in
      ap₂ (clash inst i j) c.of_first c.of_second
      ∙ and_from (not (i == j)) (near v w) (ap not (ne_eqb i j c.differ))
      (elim c.near [
        | inl one ↦ or_left (v == w) (nat_lt 0 (task_distance inst i v j w)) (eq-eqb v w one)
        | inr two ↦
            or_right (v == w) (nat_lt 0 (task_distance inst i v j w)) (lt-ltb 0 (task_distance inst i v j w) two)
      ])

  abbrev conflicts : Bool
  conflicts = is_apart inst i j || clash inst i j (assigned ds i) (assigned ds j)

  -- where the test comes through, the order may be branched on
  pub may_of : (turn : Turn) → inst.turn ≡ turn → i < length inst.tasks → j < length inst.tasks
      → may_order turn inst ds i j ≡ true → MayOrderBy turn inst ds i j
  may_of OneWay one low high t = t
  may_of Free free low high t =
      let parts = and_parts (nat_lt i j) conflicts t in (
        ltb-true i j parts.0,
        elim (or_cases (is_apart inst i j) (clash inst i j (assigned ds i) (assigned ds j)) parts.1) [
          | inl apart ↦ inl (inl apart)
          | inr two ↦ inr (clash_of free low high (assigned ds i) (assigned ds j) refl refl two)
        ],
      )

  module _ (v : Valid inst) where
    conflict_found : i < j → Conflicts inst ds i j → conflicts ≡ true
    conflict_found lower (inl (inl apart)) =
        or_left (is_apart inst i j) (clash inst i j (assigned ds i) (assigned ds j)) apart
    conflict_found lower (inl (inr turned)) = absurd (omega (arith, lower, (v.apart.range j i turned).0))
    conflict_found lower (inr two) =
        or_right (is_apart inst i j) (clash inst i j (assigned ds i) (assigned ds j)) (clash_is two)

    -- and where it may, the test comes through
    pub test_of : (turn : Turn) → MayOrderBy turn inst ds i j → may_order turn inst ds i j ≡ true
    test_of OneWay apart = apart
    test_of Free may = and_from (nat_lt i j) conflicts (lt-ltb i j may.0) (conflict_found may.0 may.1)

    may_from : (turn : Turn) → inst.turn ≡ turn → i < j → Conflicts inst ds i j → MayOrderBy turn inst ds i j
    may_from OneWay one lower both = elim (one_way_apart inst one ds i j both) [
      | inl apart ↦ apart
      | inr turned ↦ absurd (omega (arith, lower, (v.apart.range j i turned).0))
    ]
    may_from Free free lower both = (lower, both)

    -- a test of two tasks that conflict, the lower first, is the test whether their order may be branched on
    pub order_test : i < length inst.tasks → j < length inst.tasks → (test : Bool)
        → (IsTrue test ↔ ((i < j) × Conflicts inst ds i j)) → test ≡ may_order inst.turn inst ds i j
    order_test low high true is = let p = is.0 refl in sym (test_of inst.turn (may_from inst.turn refl p.0 p.1))
    order_test low high false is =
        sym (false_from_ne_true (may_order inst.turn inst ds i j) (λ t.
        let may = may_of inst.turn refl low high t in
        true≢false (sym (is.1 (may_order_low inst.turn inst v ds i j may, may_conflict inst.turn inst ds i j may)))))

-- two numbers of tasks of which the order may be branched on, told of a node by another name
pub order_at : (node : Node) (inst : InstanceView) (ds : List Decision) → node ≡ record { inst = inst; decisions = ds }
    → Valid node.inst → (one other : ℕ) → (is_number node.inst one && is_number node.inst other) ≡ true
    → may_order node.inst.turn node.inst node.decisions (one - 1) (other - 1) ≡ true
    → (one - 1 < other - 1) × Conflicts inst ds (one - 1) (other - 1)
order_at node inst ds is valid one other numbers may =
    subst (λ (n : Node). (one - 1 < other - 1) × Conflicts n.inst n.decisions (one - 1) (other - 1)) is (
      may_order_low turn node.inst valid node.decisions (one - 1) (other - 1) found,
      may_conflict turn node.inst node.decisions (one - 1) (other - 1) found,
    )
  where
    turn : Turn
    turn = node.inst.turn

    low : (i : ℕ) → is_number node.inst i ≡ true → i - 1 < length node.inst.tasks
    low i t = ltb-true (i - 1) (length node.inst.tasks) (number_inside node.inst i t)

    found : MayOrderBy turn node.inst node.decisions (one - 1) (other - 1)
    found =
        let parts = and_parts (is_number node.inst one) (is_number node.inst other) numbers in
        may_of node.inst node.decisions (one - 1) (other - 1) turn refl (low one parts.0) (low other parts.1) may
