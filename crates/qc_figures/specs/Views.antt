-- public: what contracts see of a plan whose figures are told, and when they can be told.
use Rattle.std.specs.Prelude.{◌≡◌, ℕ, ◌<◌, ◌≤◌, List, length, AllPairs}
use Rattle.qc_model.specs.Judge.{IsJudgeable}
use Rattle.qc_motion.specs.declared.track.Waypoint.{Waypoint}
use Rattle.qc_stow.specs.Moves.{most_moves}
use Rattle.qc_figures.specs.declared.figured.Figured.{Figured}
use Rattle.qc_figures.specs.Figures.{PlanView, track}

abbrev pub view_of : Figured → PlanView
view_of of = record {
  inst = of.inst.now;
  rows = of.rows.now;
  sched = of.sched.now;
  way = of.way;
  tracks = of.tracks.now;
}

-- the moments of waypoints rise
abbrev pub IsRising : List Waypoint → Type 0
IsRising points = AllPairs (λ (u : Waypoint) (v : Waypoint). u.at < v.at) points

-- the figures can be told
pub record IsReady (p : PlanView) : Type 0 where
  pub judgeable : IsJudgeable p.inst p.sched
  pub few : length p.rows ≤ most_moves
  pub tracks : length p.tracks ≡ length p.inst.cranes
  pub rising : (k : ℕ) → k < length p.tracks → IsRising (track p k)
