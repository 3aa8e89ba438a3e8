-- No schedule that cranes may follow ends before the bound that is told before a search.
use Rattle.std.proofs.Common.{◌≡◌, ℕ, zero, suc, ◌≤◌, arith, List, [], min, Some, inl, inr, subst, sym}
use Rattle.qc_laws.proofs.NodeLemmas.{closed_node_le}
use Rattle.qc_dist.specs.Node.{Node}
use Rattle.qc_close.specs.Model.{Decision, Down, Slot, Turn, OneWay, Free, IsWorkBound, GoesBy, InstanceView, Valid, IsAllowedBy, mirror, mirror_schedule, ends}
use Rattle.qc_model.proofs.MirrorLemmas.{seen_valid}
use Rattle.qc_model.proofs.SeenLemmas.{seen-ends}
use Rattle.qc_num.specs.declared.bound.Bound.TheVariants.{Least}
use Rattle.qc_search.specs.Roots.{IsTurned}
use Rattle.qc_tree.specs.Trees.{NoneEarlier}

-- no schedule of cranes with this turn ends before the bound: of those that go upward where they go one way
abbrev NoneSooner : Turn → InstanceView → ℕ → Type 0
NoneSooner turn inst bound = (sched : List Slot) → GoesBy turn inst sched → bound ≤ ends inst sched

work_sooner : (inst : InstanceView) → Valid inst → (bound : ℕ) → IsWorkBound inst [] bound → NoneSooner inst.turn inst bound
work_sooner inst valid zero is sched g = omega arith
work_sooner inst valid (suc n) is sched g = closed_node_le inst [] sched g tt valid (suc n) (is.holds (omega arith))

-- the lesser of what both directions show
lesser_by : (inst : InstanceView) (up down : ℕ) → NoneSooner OneWay inst up → NoneSooner OneWay (mirror inst) down
    → (sched : List Slot) → IsAllowedBy OneWay inst sched → min up down ≤ ends inst sched
lesser_by inst up down h k sched (inl g) = omega (arith, h sched g)
lesser_by inst up down h k sched (inr g) =
    omega (arith, k (mirror_schedule inst sched) g.mirrored, seen-ends inst sched Down)

module _ (inst : InstanceView) (valid : Valid inst) (up : ℕ) (shows : IsWorkBound inst [] up) where
  pub one_sooner : inst.turn ≡ Free → NoneEarlier inst (Least up)
  one_sooner as_free sched goes =
      work_sooner inst valid up shows sched
      (subst (λ (t : Turn). IsAllowedBy t inst sched → GoesBy t inst sched) (sym as_free) (λ g. g) goes)

  pub both_sooner : (turned : Node) (down : ℕ) → IsTurned inst (Some turned)
      → IsWorkBound turned.inst turned.decisions down → NoneEarlier inst (Least (min up down))
  both_sooner turned down is turned_shows sched goes =
      let shows_down = subst (λ (i : InstanceView). IsWorkBound i [] down) is.1
      (subst (λ (ds : List Decision). IsWorkBound turned.inst ds down) is.2 turned_shows) in
      lesser_by inst up down
      (subst (λ (t : Turn). NoneSooner t inst up) is.0 (work_sooner inst valid up shows))
      (subst (λ (t : Turn). NoneSooner t (mirror inst) down) is.0 (work_sooner (mirror inst) (seen_valid inst valid Down) down shows_down))
      sched (subst (λ (t : Turn). IsAllowedBy t inst sched) is.0 goes)
