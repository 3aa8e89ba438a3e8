-- public: how a crane goes between its points.
use Rattle.std.specs.Prelude.{◌≡◌, ℕ, ◌+◌, ◌-◌, ◌*◌, ◌<◌, ◌≤◌, ℤ, pos, ◌+ℤ◌, ◌-ℤ◌, ◌*ℤ◌, List, length, slice_index_or}
use Rattle.qc_model.specs.declared.schedule.Slot.{Slot}
use Rattle.qc_model.specs.Instance.{InstanceView}
use Rattle.qc_freemove.specs.declared.track.HalfPoint.{HalfPoint}
use Rattle.qc_freemove.specs.FreeMotion.{IsFreePlace}

-- what stands for a point past the end
abbrev pub no_point : HalfPoint
no_point = record { at = 0; place = pos 0 }

abbrev pub point : List HalfPoint → ℕ → HalfPoint
point points i = slice_index_or points i no_point

-- place p at the moment m / d lies on the line from one point to another
abbrev pub IsOnLine : HalfPoint → HalfPoint → ℕ → ℕ → ℤ → Type 0
IsOnLine u v m d p =
    (pos 2 *ℤ p *ℤ pos (v.at - u.at))
    ≡ ((pos d *ℤ u.place *ℤ pos (v.at - u.at)) +ℤ ((v.place -ℤ u.place) *ℤ pos (2 * m - d * u.at)))

-- at every moment from one point to the next, fractions of a tick included, crane k stands on the line
-- between them
abbrev pub MovesBetween : InstanceView → List Slot → ℕ → List HalfPoint → Type 0
MovesBetween inst sched k points =
    (i m d : ℕ) (p : ℤ) → i + 1 < length points → 1 ≤ d
    → d * (point points i).at ≤ 2 * m → 2 * m ≤ d * (point points (i + 1)).at
    → IsFreePlace inst sched k m d p → IsOnLine (point points i) (point points (i + 1)) m d p
