-- public: the half ticks at which a crane starts, stops or turns, and where it stands then.
use Rattle.std.specs.Prelude.{◌≡◌, ◌≢◌, ℕ, ◌+◌, ◌-◌, ◌*◌, ◌<◌, ℤ, ◌-ℤ◌, ◌⊎◌, ◌↔◌, List, map, All, AllPairs, Contains}
use Rattle.qc_model.specs.declared.schedule.Slot.{Slot}
use Rattle.qc_model.specs.Instance.{InstanceView}
use Rattle.qc_model.specs.Rules.{ends}
use Rattle.qc_freemove.specs.declared.track.HalfPoint.{HalfPoint}
use Rattle.qc_freemove.specs.FreeMotion.{IsFreePlace}

-- at this half tick crane k goes on otherwise than it came
pub record IsHalfTurn (inst : InstanceView) (sched : List Slot) (k m : ℕ) : Type 0 where
  pub before : ℤ
  pub there : ℤ
  pub after : ℤ
  pub before_is : IsFreePlace inst sched k (m - 1) 2 before
  pub there_is : IsFreePlace inst sched k m 2 there
  pub after_is : IsFreePlace inst sched k (m + 1) 2 after
  pub differs : (after -ℤ there) ≢ (there -ℤ before)

-- the half ticks that a track names: the first, the end, and each turn between them
abbrev pub IsNamed : InstanceView → List Slot → ℕ → ℕ → Type 0
IsNamed inst sched k m =
    (m ≡ 0) ⊎ ((m ≡ 2 * ends inst sched) ⊎ ((0 < m) × (m < 2 * ends inst sched) × IsHalfTurn inst sched k m))

-- these are the points of crane k, in order
pub record AreHalfPoints (inst : InstanceView) (sched : List Slot) (k : ℕ)
    (points : List HalfPoint) : Type 0 where
  pub rising : AllPairs (λ (u : HalfPoint) (v : HalfPoint). u.at < v.at) points
  pub ticks : (m : ℕ) → Contains (map (λ (w : HalfPoint). w.at) points) m ↔ IsNamed inst sched k m
  pub places : All (λ (w : HalfPoint). IsFreePlace inst sched k w.at 2 w.place) points
