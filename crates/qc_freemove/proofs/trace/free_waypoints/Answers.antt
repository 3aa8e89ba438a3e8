use Rattle.std.proofs.Common.{◌≡◌, ℕ, ◌+◌, ◌*◌, List, [], ◌∷◌, ◌++◌, length, sym, ap, ap₂, subst, ◌∙◌, arith}
use Rattle.std.proofs.lemmas.Bool.{false≢true}
use Rattle.std.proofs.lemmas.List.{length-append}
use Rattle.qc_model.specs.declared.schedule.Slot.{Slot}
use Rattle.qc_model.specs.Instance.{InstanceView}
use Rattle.qc_model.specs.Rules.{ends}
use Rattle.qc_freemove.specs.declared.track.HalfPoint.{HalfPoint}
use Rattle.qc_freemove.specs.FreeSweep.{FreeSwept, IsKept}
use Rattle.qc_freemove.specs.FreeTracks.{FreeTrackView}
use Rattle.qc_freemove.specs.HalfPoints.{AreHalfPoints}
use Rattle.qc_freemove.proofs.BetweenPoints.{points_move_between}
use Rattle.qc_freemove.proofs.FreeSafe.{free_safe}
use Rattle.qc_freemove.proofs.Traced.{AreSoFar, HasSpent, are_half_points, done_kept, done_other, next_kept, next_other, point_at, room_at, spent_next}
use Rattle.qc_freemove.proofs.trace.free_waypoints.Goals.{After-push-2, then-is_kept, else-is_kept}
use Rattle.qc_freemove.proofs.trace.free_waypoints.Goals as goal

pub push-requires : goal.push-requires
push-requires c =
    let it = c.new-sweep.result in
    let n = c.new-sweep.ensures in
    let h = c.loop-at.invariant in
    let tasks = ap (λ (i : InstanceView). length i.tasks) n.inst in
    let room = room_at it n.sound (length c.loop-at.track.points) c.loop-at.at h.spent in
    omega (arith, room, tasks, n.crane, n.valid.cranes.count, c.requires.range, c.requires.room, h.room)

pub push-requires-2 : goal.push-requires-2
push-requires-2 c =
    let it = c.new-sweep.result in
    let n = c.new-sweep.ensures in
    let h = c.loop-at.invariant in
    let tasks = ap (λ (i : InstanceView). length i.tasks) n.inst in
    let room = room_at it n.sound (length c.loop-at.track.points) c.loop-at.at h.spent in
    omega (arith, room, tasks, n.crane, n.valid.cranes.count, c.requires.range, c.requires.room, h.room)

-- the points with one more, of a half tick
pushed : (it : FreeSwept) (old new : FreeTrackView) (at : ℕ) (w : HalfPoint)
    → new ≡ record old { points = old.points ++ w ∷ [] } → w ≡ point_at it at
    → new.points ≡ old.points ++ point_at it at ∷ []
pushed it old new at w e f =
    ap (λ (t : FreeTrackView). t.points) e ∙ ap (λ (x : HalfPoint). old.points ++ x ∷ []) f

pub loop-at-preserved : goal.loop-at-preserved
loop-at-preserved c =
    let it = c.new-sweep.result in
    let s = c.new-sweep.ensures.sound in
    let at = c.loop-at.at in
    let e = c.next_change-at.result in
    let end = 2 * c.ends-end.result in
    let old = c.loop-at.track.points in
    let h = c.loop-at.invariant in
    let even = c.next_change-at.ensures in
    elim c.if-is_kept.branch [
      | then-is_kept w ↦
          let kept : IsKept it at = c.is_kept.ensures.0 w.if-is_kept.true in
          let new = ap (λ (t : FreeTrackView). t.points) w.track-is
          ∙ pushed it c.loop-at.track w.push.new.self at w.point.result w.push.ensures w.point.ensures in
          let longer = ap (λ (ps : List HalfPoint). length ps) new ∙ length-append old (point_at it at ∷ []) in
          record {
            points = subst (λ (ps : List HalfPoint). AreSoFar it ps e) (sym new)
                (next_kept it old at e end h.points even kept);
            spent = subst (λ (k : ℕ). HasSpent it k e) (sym longer)
                (spent_next it s (length old + 1) at e end (done_kept it s (length old) at h.spent kept) even);
            low = even.within;
            room = ap (λ (t : FreeTrackView). t.tasks) w.track-is
                ∙ ap (λ (t : FreeTrackView). t.tasks) w.push.ensures ∙ h.room;
          }
      | else-is_kept w ↦
          let other : ¬ IsKept it at = λ k. false≢true (sym w.if-is_kept.false ∙ c.is_kept.ensures.1 k) in
          record {
            points = subst (λ (t : FreeTrackView). AreSoFar it t.points e) (sym w.track-is)
                (next_other it old at e end h.points even other);
            spent = subst (λ (t : FreeTrackView). HasSpent it (length t.points) e) (sym w.track-is)
                (spent_next it s (length old) at e end (done_other it s (length old) at h.spent other) even);
            low = even.within;
            room = ap (λ (t : FreeTrackView). t.tasks) w.track-is ∙ h.room;
          }
    ]

are_points : (c : After-push-2)
    → AreHalfPoints c.args.inst.now c.args.sched.now c.args.crane c.push-2.new.self.points
are_points c =
    let it = c.new-sweep.result in
    let n = c.new-sweep.ensures in
    let end = 2 * c.ends-end.result in
    let old = c.loop-at.track.points in
    let h = c.loop-at.invariant in
    let late : c.loop-at.at ≡ end = omega (arith, h.low, c.loop-at-test.false) in
    let so_far = subst (λ (m : ℕ). AreSoFar it old m) late h.points in
    let last : end ≡ 2 * ends it.inst it.sched =
    ap (λ (k : ℕ). 2 * k) (c.ends-end.ensures.ends ∙ sym (ap₂ ends n.inst n.sched)) in
    let new = pushed it c.loop-at.track c.push-2.new.self end c.point-2.result c.push-2.ensures
    c.point-2.ensures in
    let points = c.push-2.new.self.points in
    let whole = subst (λ (ps : List HalfPoint). AreHalfPoints it.inst it.sched it.crane ps) (sym new)
    (are_half_points it n.sound old end so_far last) in
    subst (λ (i : InstanceView). AreHalfPoints i c.args.sched.now c.args.crane points) n.inst
    (subst (λ (t : List Slot). AreHalfPoints it.inst t c.args.crane points) n.sched
    (subst (λ (k : ℕ). AreHalfPoints it.inst it.sched k points) n.crane whole))

pub returns-clause-points : goal.returns-clause-points
returns-clause-points c = are_points c

pub returns-clause-between : goal.returns-clause-between
returns-clause-between c =
    points_move_between c.args.inst.now c.args.sched.now c.args.crane c.push-2.new.self.points
    c.new-sweep.ensures.valid c.requires.range (are_points c)

pub returns-clause-safe : goal.returns-clause-safe
returns-clause-safe c = free_safe c.args.inst.now c.args.sched.now c.new-sweep.ensures.valid.cranes c.requires.feasible
