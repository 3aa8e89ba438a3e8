-- The terms of which a place is the greatest, as levels.
use Rattle.std.proofs.Common.{◌≡◌, ℕ, ◌+◌, ◌-◌, ◌*◌, ◌<◌, ◌≤◌, ℤ, pos, ◌+ℤ◌, ◌-ℤ◌, ◌≤ℤ◌, List, length, subst, sym, refl, ap, ◌∙◌, arith}
use Rattle.std.proofs.lemmas.Int.{ints}
use Rattle.qc_model.specs.declared.schedule.Slot.{Slot}
use Rattle.qc_model.specs.Instance.{InstanceView, bay_of, crane}
use Rattle.qc_model.specs.Motion.{FloorBay, IsFloor, IsGreatest, bay_ahead, bay_behind, berth_place, scaled}
use Rattle.qc_model.specs.Motion.FloorBay.{of_berth as floor_berth, of_task as floor_task}
use Rattle.qc_model.specs.Rules.{crane_of}
use Rattle.qc_model.proofs.Scaled.{scaled_le, scaled_sum}
use Rattle.qc_model.proofs.Levels.{berth_at, berth_level, lowered, task_level}
use Rattle.qc_model.proofs.Places.{AreLow, Term, term_place}
use Rattle.qc_model.proofs.Places.Term.{berth, floor, task}

-- what lies between the level of a bay for crane k and its place
unfoldable pub lift : InstanceView → ℕ → ℕ → ℤ
lift inst d k = scaled inst d (pos (inst.gap * k))

-- the level of the bay below which crane k never goes
unfoldable pub floor_level : InstanceView → ℕ → ℕ → ℤ → ℤ
floor_level inst d k x = scaled inst d (lowered inst k x)

-- ---- on bays

ahead : (g v k u : ℕ) (x : ℤ) → k ≡ v + u → (x +ℤ pos (g * u)) ≡ ((x -ℤ pos (g * v)) +ℤ pos (g * k))
ahead g v k u x e = let parts = ap (λ n. g * n) e in omega (arith, ints)

behind : (g w k u : ℕ) (x : ℤ) → w ≡ k + u → (x -ℤ pos (g * u)) ≡ ((x -ℤ pos (g * w)) +ℤ pos (g * k))
behind g w k u x e = let parts = ap (λ n. g * n) e in omega (arith, ints)

ahead_is : (inst : InstanceView) (d v k : ℕ) (x : ℤ) → v ≤ k
    → scaled inst d (bay_ahead inst v x k) ≡ (scaled inst d (lowered inst v x) +ℤ lift inst d k)
unfolding lift
ahead_is inst d v k x low =
    let e : k ≡ v + (k - v) = omega arith in
    scaled_sum (d * inst.travel) _ _ _ (ahead inst.gap v k (k - v) x e)

behind_is : (inst : InstanceView) (d w k : ℕ) (x : ℤ) → k ≤ w
    → scaled inst d (bay_behind inst w x k) ≡ (scaled inst d (lowered inst w x) +ℤ lift inst d k)
unfolding lift
behind_is inst d w k x high =
    let e : w ≡ k + (w - k) = omega arith in
    scaled_sum (d * inst.travel) _ _ _ (behind inst.gap w k (w - k) x e)

further : (g v w u : ℕ) → w ≡ v + u → pos (g * w) ≡ (pos (g * v) +ℤ pos (g * u))
further g v w u e = let parts = ap (λ n. g * n) e in omega (arith, ints)

pub lift_further : (inst : InstanceView) (d v w : ℕ) → v < w
    → lift inst d w ≡ (lift inst d v +ℤ scaled inst d (pos (inst.gap * (w - v))))
unfolding lift
lift_further inst d v w low =
    let e : w ≡ v + (w - v) = omega arith in
    let parts = further inst.gap v w (w - v) e in
    scaled_sum (d * inst.travel) _ (pos (inst.gap * v)) (pos (inst.gap * (w - v))) parts

-- a place is a level and the lift
itself_is : (inst : InstanceView) (d k : ℕ) (x : ℤ)
    → scaled inst d x ≡ (scaled inst d (lowered inst k x) +ℤ lift inst d k)
unfolding lift
itself_is inst d k x =
    scaled_sum (d * inst.travel) x (lowered inst k x) (pos (inst.gap * k)) (omega (arith, ints))

less : (a b c n : ℤ) → a ≡ (b +ℤ c) → (a -ℤ n) ≡ ((b -ℤ n) +ℤ c)
less a b c n e = omega (arith, ints)

module _ (inst : InstanceView) (sched : List Slot) (d : ℕ) where
  pub floor-lifted : (k : ℕ) (x : ℤ) → scaled inst d x ≡ (floor_level inst d k x +ℤ lift inst d k)
  unfolding floor_level
  floor-lifted k x = itself_is inst d k x

  pub task-lifted : (j : ℕ)
      → scaled inst d (bay_of inst j) ≡ (task_level inst sched d j +ℤ lift inst d (crane_of sched j))
  unfolding task_level
  task-lifted j = itself_is inst d (crane_of sched j) (bay_of inst j)

  pub berth-lifted : (k : ℕ) → scaled inst d (crane inst k).bay ≡ (berth_level inst d k +ℤ lift inst d k)
  unfolding berth_level
  berth-lifted k = itself_is inst d k (crane inst k).bay

  pub task_place-lifted : (i k n : ℕ) → crane_of sched i ≤ k
      → (scaled inst d (bay_ahead inst (crane_of sched i) (bay_of inst i) k) -ℤ pos n)
      ≡ ((task_level inst sched d i -ℤ pos n) +ℤ lift inst d k)
  unfolding task_level
  task_place-lifted i k n low =
      let whole = ahead_is inst d (crane_of sched i) k (bay_of inst i) low in
      less _ (task_level inst sched d i) (lift inst d k) (pos n) whole

  pub berth_place-lifted : (v k m : ℕ) → v ≤ k
      → berth_place inst v k m d ≡ (berth_at inst d v m +ℤ lift inst d k)
  unfolding berth_level
  berth_place-lifted v k m low =
      let whole = ahead_is inst d v k (crane inst v).bay low in
      less _ (berth_level inst d v) (lift inst d k) (pos (m - d * (crane inst v).ready)) whole

  -- ---- the floor

  -- who gives a floor, and where it lies
  pub data FloorOf (k : ℕ) (level : ℤ) : Type 0 where
    at_task : (j : ℕ) → j < length inst.tasks → k ≤ crane_of sched j
        → level ≡ task_level inst sched d j → FloorOf k level
    at_berth : (w : ℕ) → w < length inst.cranes → k ≤ w
        → level ≡ berth_level inst d w → FloorOf k level

  pub record HasFloor (k : ℕ) (level : ℤ) : Type 0 where
    pub tasks : (j : ℕ) → j < length inst.tasks → k ≤ crane_of sched j → level ≤ℤ task_level inst sched d j
    pub berths : (w : ℕ) → w < length inst.cranes → k ≤ w → level ≤ℤ berth_level inst d w
    pub from : FloorOf k level

  same_lift : (a b c y z : ℤ) → y ≡ (a +ℤ c) → z ≡ (b +ℤ c) → y ≤ℤ z → a ≤ℤ b
  same_lift a b c y z e f h = omega (arith, ints)

  lift_same : (a b c y z : ℤ) → y ≡ (a +ℤ c) → z ≡ (b +ℤ c) → y ≡ z → a ≡ b
  lift_same a b c y z e f h = omega (arith, ints)

  pub has_floor : (k : ℕ) (x : ℤ) → IsFloor inst sched k x → HasFloor k (floor_level inst d k x)
  unfolding task_level berth_level
  has_floor k x f = record {
    tasks = λ j low above.
        let by_bays = scaled_le (d * inst.travel) x _ (f.least _ (floor_task j low above)) in
        same_lift _ _ (lift inst d k) _ _ (floor-lifted k x) (task_is j above) by_bays;
    berths = λ w low above.
        let by_bays = scaled_le (d * inst.travel) x _ (f.least _ (floor_berth w low above)) in
        same_lift _ _ (lift inst d k) _ _ (floor-lifted k x) (berth_is w above) by_bays;
    from = given x f.is;
  }
    where
      task_is : (j : ℕ) → k ≤ crane_of sched j
          → scaled inst d (bay_behind inst (crane_of sched j) (bay_of inst j) k)
          ≡ (task_level inst sched d j +ℤ lift inst d k)
      task_is j above = behind_is inst d (crane_of sched j) k (bay_of inst j) above

      berth_is : (w : ℕ) → k ≤ w
          → scaled inst d (bay_behind inst w (crane inst w).bay k) ≡ (berth_level inst d w +ℤ lift inst d k)
      berth_is w above = behind_is inst d w k (crane inst w).bay above

      given : (y : ℤ) → FloorBay inst sched k y → FloorOf k (floor_level inst d k y)
      given _ (floor_task j low above) = at_task j low above
          (lift_same _ _ (lift inst d k) _ _ (floor-lifted k _) (task_is j above) refl)
      given _ (floor_berth w low above) = at_berth w low above
          (lift_same _ _ (lift inst d k) _ _ (floor-lifted k _) (berth_is w above) refl)

-- ---- the terms

module _ (inst : InstanceView) (sched : List Slot) (k : ℕ) (x : ℤ) (d : ℕ) (off : ℕ → ℕ → ℕ) where
  -- the level of a term, x being the crane's floor and the work of task i off i m parts of a tick away
  abbrev pub level_at : Term inst sched k → ℕ → ℤ
  level_at (task i low below) m = task_level inst sched d i -ℤ pos (off i m)
  level_at (berth v below) m = berth_at inst d v m
  level_at floor m = floor_level inst d k x

  -- p is the greatest of their places
  pub record IsTop (m : ℕ) (p : ℤ) : Type 0 where
    pub from : Term inst sched k
    pub is : p ≡ (level_at from m +ℤ lift inst d k)
    pub most : (t : Term inst sched k) → (level_at t m +ℤ lift inst d k) ≤ℤ p

  lifted : (m : ℕ) (t : Term inst sched k)
      → term_place inst sched k x d off m t ≡ (level_at t m +ℤ lift inst d k)
  lifted m (task i low below) = task_place-lifted inst sched d i k (off i m) below
  lifted m (berth v below) = berth_place-lifted inst sched d v k m below
  lifted m floor = floor-lifted inst sched d k x

  module _ (m : ℕ) (P : ℤ → Type 0) (are : AreLow inst sched k x d off m P) (p : ℤ) where
    pub top_of : IsGreatest P p → IsTop m p
    top_of g =
        let term = are.term_of p g.is in
        record {
          from = term.0;
          is = term.1 ∙ lifted m term.0;
          most = λ t. subst (λ (z : ℤ). z ≤ℤ p) (lifted m t) (g.most _ (are.place_of t));
        }

    pub greatest_of : IsTop m p → IsGreatest P p
    greatest_of top = record {
      is = subst P (lifted m top.from ∙ sym top.is) (are.place_of top.from);
      most = λ y low.
          let term = are.term_of y low in
          subst (λ (z : ℤ). z ≤ℤ p) (sym (term.1 ∙ lifted m term.0)) (top.most term.0);
    }
