use Rattle.std.proofs.Common.{◌≡◌, ◌-ℤ◌, FitsSigned, to_z, of_z, w64, ◌∙◌, rules, arith}
use Rattle.std.proofs.lemmas.Int.{ints}
use Rattle.qc_model.specs.Motion.{task_place}
use Rattle.qc_motion.proofs.PlaceLemmas.{highest_of_floor, highest_kept, highest_of_task}
use Rattle.qc_motion.proofs.sweep.Sweep.place_by_tasks.Goals.{in-Some, in_default}
use Rattle.qc_motion.proofs.sweep.Sweep.place_by_tasks.Goals as goal

pub loop-task-init : goal.loop-task-init
loop-task-init c =
    let f = c.floor_place-place.ensures in
    let kept : to_z w64 (of_z w64 c.floor_place-place.result) ≡ c.floor_place-place.result = omega (arith, ints) in
    highest_of_floor c.args.self.now c.args.at _ f.sound (kept ∙ f.place) (omega (arith, ints), omega (arith, ints))

pub loop-task-preserved : goal.loop-task-preserved
loop-task-preserved c =
    let it = c.args.self.now in
    let n = c.loop-task.task in
    elim c.match-task.branch [
      | in-Some w ↦
          let h = w.in-Some.ensures in
          let hold = w.in-Some.hold in
          let y = to_z w64 (of_z w64 (to_z w64 (of_z w64 hold.place) -ℤ to_z w64 w.saturating_sub.result)) in
          let e : y ≡ task_place it.inst it.sched n it.crane c.args.at 1 =
          omega (arith, ints, h.1, h.2, hold.near, hold.bounded, c.requires) in
          let f : FitsSigned w64 w.max-place.result = search rules in
          let m = w.max-place.ensures in
          rw w.place-is (highest_of_task it c.args.at n _ y _ c.loop-task.invariant h.0 e
          (omega (arith, ints, h.1, h.2, hold.near, hold.bounded)) f m.value m.self_bound m.other_bound)
      | in_default w ↦ rw w.place-is (highest_kept it c.args.at n _ c.loop-task.invariant w.in_default.ensures)
    ]
