-- The ticks in which a crane goes, leg by leg.
use Rattle.std.proofs.Common.{ℕ, ◌+◌, ◌-◌, ◌<◌, ◌≤◌, Bool, true, false, cond, ◌==◌, ◌-ℤ◌, unsigned_abs, List, length, arith}
use Rattle.qc_motion.specs.declared.track.Waypoint.{Waypoint}
use Rattle.qc_motion.specs.Waypoints.{waypoint, no_waypoint}
use Rattle.qc_figures.specs.Figures.{clipped, leg}
use Rattle.qc_figures.specs.Views.{IsRising}

-- a leg takes no more than the time between its two waypoints
at_most : (b : Bool) (c d : ℕ) → c ≤ d → cond b 0 (d - c) + c ≤ d
at_most true c d le = omega arith
at_most false c d le = omega arith

pub leg_within : (from till : ℕ) (u v : Waypoint) → u.at ≤ v.at
    → leg from till u v + clipped from till u.at ≤ clipped from till v.at
leg_within from till u v le =
    at_most (unsigned_abs (u.place -ℤ v.place) == 0) (clipped from till u.at) (clipped from till v.at) (omega arith)

-- neighbouring waypoints
pub rises : (points : List Waypoint) → IsRising points → (i : ℕ) → i + 1 < length points
    → (waypoint points i).at < (waypoint points (i + 1)).at
rises points rising i low = rising i (i + 1) no_waypoint (omega arith) low
