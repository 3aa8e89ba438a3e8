use Rattle.std.proofs.Common.{◌≡◌, List, [], ◌∷◌, ◌++◌, length, to_z, of_z, w64, refl, sym, ap, subst, ◌∙◌, arith}
use Rattle.std.proofs.lemmas.Int.{ints}
use Rattle.qc_model.specs.Instance.{InstanceView}
use Rattle.qc_model.proofs.SeenLemmas.{seen-task_count}
use Rattle.qc_motion.specs.declared.track.Waypoint.{Waypoint}
use Rattle.qc_motion.specs.Sweep.{IsAt}
use Rattle.qc_motion.specs.Tracks.{TrackView}
use Rattle.qc_motion.proofs.Legs.{Sees}
use Rattle.qc_motion.proofs.Linear.{moves_between}
use Rattle.qc_motion.proofs.Named.{IsWhole, are_waypoints}
use Rattle.qc_motion.proofs.Traced.{IsTraced, traced_first, traced_next, traced_whole}
use Rattle.qc_motion.proofs.trace.waypoints.Goals.{After-loop-at}
use Rattle.qc_motion.proofs.trace.waypoints.Goals as goal

-- the track with one more waypoint
pushed : (old new : TrackView) (ps : List Waypoint) (w v : Waypoint)
    → new ≡ record old { points = old.points ++ w ∷ [] }
    → old.points ≡ ps → w ≡ v → new.points ≡ ps ++ v ∷ []
pushed old new ps w v e f g =
    ap (λ (t : TrackView). t.points) e ∙ ap (λ (qs : List Waypoint). qs ++ w ∷ []) f
    ∙ ap (λ (x : Waypoint). ps ++ x ∷ []) g

pub loop-at-init : goal.loop-at-init
loop-at-init c =
    let inst = c.args.inst.now in
    let sched = c.args.sched.now in
    let way = c.args.way in
    let k = c.args.crane in
    let it = c.new-sweep.result in
    let end = c.ends-end.result in
    let n = c.new-sweep.ensures in
    let x = to_z w64 (of_z w64 c.place-place.result) in
    let near = c.place-place.ensures.near in
    let read : x ≡ c.place-place.result = omega (arith, ints, near) in
    let there = subst (IsAt it 0) (sym read) c.place-place.ensures.place in
    let sees : Sees inst sched way k it = record { inst_is = n.inst; sched_is = n.sched; crane_is = n.crane } in
    let t = traced_first inst sched way k end it n.sound sees c.requires.range x there in
    let empty = ap (λ (t : TrackView). t.points) c.clear.ensures in
    let e = pushed _ _ [] _ _ c.push.ensures empty c.waypoint.ensures in (
      subst (λ (ps : List Waypoint). IsTraced inst sched way k end it ps 0 x) (sym e) t,
      (omega (arith, ints, near), omega (arith, ints, near)),
      ap (λ (t : TrackView). t.tasks) c.push.ensures ∙ ap (λ (t : TrackView). t.tasks) c.clear.ensures,
    )

pub push-requires-in-loop-at : goal.push-requires-in-loop-at
push-requires-in-loop-at c =
    let h = c.loop-at.invariant in
    let r = h.0.room c.loop-at-test.true in
    let inst = c.args.inst.now in
    let n : length c.new-sweep.result.inst.tasks ≡ length inst.tasks =
    ap (λ (i : InstanceView). length i.tasks) c.new-sweep.ensures.inst ∙ seen-task_count inst c.args.way in
    omega (arith, r, n, h.2, c.requires.room)

pub loop-at-preserved : goal.loop-at-preserved
loop-at-preserved c =
    let inst = c.args.inst.now in
    let sched = c.args.sched.now in
    let way = c.args.way in
    let k = c.args.crane in
    let it = c.new-sweep.result in
    let end = c.ends-end.result in
    let next = c.run_end-at.result in
    let old = c.loop-at.track.points in
    let n = c.new-sweep.ensures in
    let h = c.loop-at.invariant in
    let x = to_z w64 (of_z w64 c.place-place-in-loop-at.result) in
    let near = c.place-place-in-loop-at.ensures.near in
    let read : x ≡ c.place-place-in-loop-at.result = omega (arith, ints, near) in
    let there = subst (IsAt it next) (sym read) c.place-place-in-loop-at.ensures.place in
    let sees : Sees inst sched way k it = record { inst_is = n.inst; sched_is = n.sched; crane_is = n.crane } in
    let early = c.loop-at-test.true in
    let run = c.run_end-at.ensures in
    let t = traced_next inst sched way k end it n.sound sees c.requires.range old _ _ h.0 early _ run x there in
    let e = pushed _ _ old _ _ c.push-in-loop-at.ensures refl c.waypoint-in-loop-at.ensures in (
      subst (λ (ps : List Waypoint). IsTraced inst sched way k end it ps next x) (sym e) t,
      (omega (arith, ints, near), omega (arith, ints, near)),
      ap (λ (t : TrackView). t.tasks) c.push-in-loop-at.ensures ∙ h.2,
    )

-- the crane's waypoints reach from 0 to the end
whole : (c : After-loop-at) → IsWhole c.args.inst.now c.args.sched.now c.args.way c.args.crane c.loop-at.track.points
whole c =
    let n = c.new-sweep.ensures in
    let sees : Sees c.args.inst.now c.args.sched.now c.args.way c.args.crane c.new-sweep.result =
    record { inst_is = n.inst; sched_is = n.sched; crane_is = n.crane } in
    let late = c.loop-at-test.false in
    traced_whole _ _ _ _ _ c.new-sweep.result sees _ _ _ c.loop-at.invariant.0 late c.ends-end.ensures.ends

pub returns-clause-waypoints : goal.returns-clause-waypoints
returns-clause-waypoints c = are_waypoints _ _ _ _ _ (whole c)

pub returns-clause-between : goal.returns-clause-between
returns-clause-between c =
    moves_between _ _ _ _ c.new-sweep.ensures.valid c.requires.goes c.requires.range _ (whole c)
