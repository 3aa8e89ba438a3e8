-- public: the ticks at which a crane starts, stops or turns, and where it stands then.
use Rattle.std.specs.Prelude.{◌≡◌, ◌≢◌, ℕ, ◌+◌, ◌-◌, ◌*◌, ◌<◌, ◌≤◌, ℤ, pos, ◌+ℤ◌, ◌-ℤ◌, ◌*ℤ◌, ◌⊎◌, ◌↔◌, List, length, map, slice_index_or, All, AllPairs, Contains}
use Rattle.qc_model.specs.declared.direction.Direction.{Direction}
use Rattle.qc_model.specs.declared.schedule.Slot.{Slot}
use Rattle.qc_model.specs.Instance.{InstanceView}
use Rattle.qc_model.specs.Motion.{IsPlace}
use Rattle.qc_model.specs.Rules.{ends}
use Rattle.qc_motion.specs.declared.track.Waypoint.{Waypoint}

-- at this tick crane k goes on otherwise than it came
pub record IsTurn (inst : InstanceView) (sched : List Slot) (way : Direction) (k m : ℕ) : Type 0 where
  pub before : ℤ
  pub there : ℤ
  pub after : ℤ
  pub before_is : IsPlace inst sched way k (m - 1) 1 before
  pub there_is : IsPlace inst sched way k m 1 there
  pub after_is : IsPlace inst sched way k (m + 1) 1 after
  pub differs : (after -ℤ there) ≢ (there -ℤ before)

-- the ticks that a track names: the first, the end, and each turn between them
abbrev pub IsNamed : InstanceView → List Slot → Direction → ℕ → ℕ → Type 0
IsNamed inst sched way k m =
    (m ≡ 0) ⊎ ((m ≡ ends inst sched) ⊎ ((0 < m) × (m < ends inst sched) × IsTurn inst sched way k m))

-- these are the waypoints of crane k, in order
pub record AreWaypoints (inst : InstanceView) (sched : List Slot) (way : Direction) (k : ℕ)
    (points : List Waypoint) : Type 0 where
  pub rising : AllPairs (λ (u : Waypoint) (v : Waypoint). u.at < v.at) points
  pub ticks : (m : ℕ) → Contains (map (λ (w : Waypoint). w.at) points) m ↔ IsNamed inst sched way k m
  pub places : All (λ (w : Waypoint). IsPlace inst sched way k w.at 1 w.place) points

-- what stands for a waypoint past the end
abbrev pub no_waypoint : Waypoint
no_waypoint = record { at = 0; place = pos 0 }

abbrev pub waypoint : List Waypoint → ℕ → Waypoint
waypoint points i = slice_index_or points i no_waypoint

-- place p at the moment m / d lies on the line from one waypoint to another
abbrev pub IsOnLine : Waypoint → Waypoint → ℕ → ℕ → ℤ → Type 0
IsOnLine u v m d p =
    (p *ℤ pos (v.at - u.at))
    ≡ ((pos d *ℤ u.place *ℤ pos (v.at - u.at)) +ℤ ((v.place -ℤ u.place) *ℤ pos (m - d * u.at)))

-- place p at the moment m / d is that of linear motion from each waypoint to the next; with one waypoint alone the
-- crane stands there at tick 0
pub record IsBetween (points : List Waypoint) (m d : ℕ) (p : ℤ) : Type 0 where
  pub alone : length points ≡ 1 → m ≡ 0 → p ≡ (pos d *ℤ (waypoint points 0).place)
  pub linear : (i : ℕ) → i + 1 < length points
      → d * (waypoint points i).at ≤ m → m ≤ d * (waypoint points (i + 1)).at
      → IsOnLine (waypoint points i) (waypoint points (i + 1)) m d p

-- at every moment up to the end, fractions of a tick included, crane k stands between its waypoints
abbrev pub MovesBetween : InstanceView → List Slot → Direction → ℕ → List Waypoint → Type 0
MovesBetween inst sched way k points =
    (m d : ℕ) (p : ℤ) → 1 ≤ d → m ≤ d * ends inst sched → IsPlace inst sched way k m d p
    → IsBetween points m d p
