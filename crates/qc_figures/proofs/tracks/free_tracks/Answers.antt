use Rattle.std.proofs.Common.{◌≡◌, ◌∷◌, ◌++◌, [], List, ℕ, length, map, None, ap, sym, subst, ◌∙◌, ◌+◌, refl, arith}
use Rattle.std.proofs.lemmas.List.{length_push}
use Rattle.qc_freemove.specs.declared.track.HalfPoint.{HalfPoint}
use Rattle.qc_freemove.specs.FreeTracks.{FreeTrackView}
use Rattle.qc_motion.specs.declared.track.Waypoint.{Waypoint}
use Rattle.qc_figures.specs.Motions.{ArePaths, IsFreeTrack, of_half}
use Rattle.qc_motion.proofs.LineLemmas.{each_more}
use Rattle.qc_figures.proofs.tracks.free_tracks.Goals as goal

pub loop-crane-init : goal.loop-crane-init
loop-crane-init c = record {
  are = subst (ArePaths c.args.inst.now c.args.sched.now None) (sym c.new-paths.ensures.items) (λ k below. absurd (omega (arith, below)));
  count = ap (λ (ps : List (List Waypoint)). length ps) c.new-paths.ensures.items;
  room = ap (λ (t : FreeTrackView). t.tasks) c.in_ok-track.ensures ∙ c.task_count.ensures.count;
}

pub loop-crane-preserved : goal.loop-crane-preserved
loop-crane-preserved c =
    let inst = c.args.inst.now in
    let sched = c.args.sched.now in
    let paths = c.loop-crane.paths.items in
    let halves = c.free_waypoints.new.track.points in
    let points = map of_half halves in
    let path : c.in_ok-of_halves.field-0 ≡ points = c.in_ok-of_halves.ensures ∙ ap (λ (hs : List HalfPoint). map of_half hs) c.points.ensures in
    let is : IsFreeTrack inst sched (length paths) points =
    subst (λ (n : ℕ). IsFreeTrack inst sched n points) (sym c.loop-crane.invariant.count)
    (record { halves = halves; points_are = refl; are = c.free_waypoints.ensures.points; between = c.free_waypoints.ensures.between }) in
    let items : c.push.new.self.items ≡ paths ++ points ∷ [] =
    c.in_ok-push.ensures.items ∙ ap (λ (p : List Waypoint). paths ++ p ∷ []) path in
    record {
      are = subst (ArePaths inst sched None) (sym items)
          (each_more (IsFreeTrack inst sched) paths points c.loop-crane.invariant.are is);
      count = ap (λ (ps : List (List Waypoint)). length ps) items ∙ length_push paths points
          ∙ ap (λ (n : ℕ). n + 1) c.loop-crane.invariant.count;
      room = c.free_waypoints.ensures.room ∙ c.loop-crane.invariant.room;
    }
