-- What decisions that fit an instance keep.
use Rattle.std.proofs.Common.{◌≡◌, ◌↔◌, ◌∙◌, IsTrue, sym, subst₂, ℕ, ◌<◌, ◌⊎◌, Bool, true, false, cond, nat_eq, Option, Some, List, [], ◌∷◌, length, IfSome}
use Rattle.qc_model.specs.declared.decision.Decision.{Decision}
use Rattle.qc_model.specs.declared.decision.Decision.TheVariants.{Assign, Order}
use Rattle.qc_model.specs.Instance.{InstanceView}
use Rattle.qc_model.specs.declared.turn.Turn.TheVariants.{Free}
use Rattle.qc_model.specs.Nodes.{Clash, Fits, assigned}
use Rattle.qc_model.specs.Ticks.{task_distance}

either_below : (b : Bool) (k n : ℕ) (o : Option ℕ) → k < n → IfSome o (λ v. v < n)
    → IfSome (cond b (Some k) o) (λ v. v < n)
either_below true k n o h rest = h
either_below false k n o h rest = rest

-- a task is assigned to a crane of the instance
pub assigned_range : (inst : InstanceView) (ds : List Decision) → Fits inst ds → (j : ℕ)
    → IfSome (assigned ds j) (λ k. k < length inst.cranes)
assigned_range inst [] f j = tt
assigned_range inst (Assign i k ∷ ds) f j =
    either_below (nat_eq i j) k (length inst.cranes) (assigned ds j) f.1 (assigned_range inst ds f.3 j)
assigned_range inst (Order h k ∷ ds) f j = assigned_range inst ds f.3 j

-- tasks on these two cranes clash where the cranes are near
pub clash_is : (inst : InstanceView) (ds : List Decision) (i j v w : ℕ) → inst.turn ≡ Free → i < length inst.tasks
    → j < length inst.tasks → ¬ (i ≡ j) → assigned ds i ≡ Some v → assigned ds j ≡ Some w → (near : Bool)
    → (IsTrue near ↔ ((v ≡ w) ⊎ (0 < task_distance inst i v j w))) → IsTrue near ↔ Clash inst ds i j
clash_is inst ds i j v w free low high differ one other near is = (
  λ t. record {
    free = free;
    first = low;
    second = high;
    differ = differ;
    first_crane = v;
    second_crane = w;
    of_first = one;
    of_second = other;
    near = is.0 t;
  },
  λ c. is.1 (subst₂ (λ v w. (v ≡ w) ⊎ (0 < task_distance inst i v j w))
      (same_some (sym c.of_first ∙ one)) (same_some (sym c.of_second ∙ other)) c.near),
)
  where
    same_some : {a b : ℕ} → Some a ≡ Some b → a ≡ b
    same_some e = cc
