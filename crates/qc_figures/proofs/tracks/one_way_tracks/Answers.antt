use Rattle.std.proofs.Common.{◌≡◌, ◌∷◌, ◌++◌, [], List, ℕ, length, Some, ap, sym, subst, ◌∙◌, ◌+◌, arith}
use Rattle.std.proofs.lemmas.List.{length_push}
use Rattle.qc_gantt.specs.TracksText.{IsTrack}
use Rattle.qc_motion.specs.declared.track.Waypoint.{Waypoint}
use Rattle.qc_motion.specs.Tracks.{TrackView}
use Rattle.qc_figures.specs.Motions.{ArePaths}
use Rattle.qc_figures.proofs.MotionLemmas.{goes_of}
use Rattle.qc_motion.proofs.LineLemmas.{each_more}
use Rattle.qc_figures.proofs.tracks.one_way_tracks.Goals as goal

pub loop-crane-init : goal.loop-crane-init
loop-crane-init c = record {
  are = subst (ArePaths c.args.inst.now c.args.sched.now (Some c.args.way)) (sym c.new-paths.ensures.items) (λ k below. absurd (omega (arith, below)));
  count = ap (λ (ps : List (List Waypoint)). length ps) c.new-paths.ensures.items;
  room = ap (λ (t : TrackView). t.tasks) c.in_ok-track.ensures ∙ c.task_count.ensures.count;
}

pub waypoints-requires-clause-goes : goal.waypoints-requires-clause-goes
waypoints-requires-clause-goes c = goes_of c.args.inst.now c.args.sched.now c.args.way c.requires.goes

pub loop-crane-preserved : goal.loop-crane-preserved
loop-crane-preserved c =
    let inst = c.args.inst.now in
    let paths = c.loop-crane.paths.items in
    let path : c.in_ok-of.field-0 ≡ c.waypoints.new.track.points = c.in_ok-of.ensures ∙ c.points.ensures in
    let is : IsTrack inst c.args.sched.now c.args.way (length paths) c.waypoints.new.track.points =
    subst (λ (n : ℕ). IsTrack inst c.args.sched.now c.args.way n c.waypoints.new.track.points) (sym c.loop-crane.invariant.count)
    (record { waypoints = c.waypoints.ensures.waypoints; between = c.waypoints.ensures.between }) in
    let items : c.push.new.self.items ≡ paths ++ c.waypoints.new.track.points ∷ [] =
    c.in_ok-push.ensures.items ∙ ap (λ (p : List Waypoint). paths ++ p ∷ []) path in
    record {
      are = subst (ArePaths inst c.args.sched.now (Some c.args.way)) (sym items)
          (each_more (IsTrack inst c.args.sched.now c.args.way) paths c.waypoints.new.track.points c.loop-crane.invariant.are is);
      count = ap (λ (ps : List (List Waypoint)). length ps) items ∙ length_push paths c.waypoints.new.track.points
          ∙ ap (λ (n : ℕ). n + 1) c.loop-crane.invariant.count;
      room = c.waypoints.ensures.room ∙ c.loop-crane.invariant.room;
    }
