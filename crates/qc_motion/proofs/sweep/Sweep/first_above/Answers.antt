use Rattle.std.proofs.Common.{◌≡◌, ℕ, to_z, of_z, w64, min, arith}
use Rattle.std.proofs.lemmas.Int.{ints}
use Rattle.qc_model.specs.Bays.{bays_up}
use Rattle.qc_model.proofs.Bays.{bays}
use Rattle.qc_motion.specs.Sweep.{IsHigher, passing, task_hold}
use Rattle.qc_motion.proofs.Bests.{first_kept, first_next}
use Rattle.qc_motion.proofs.Terms.{task_le}
use Rattle.qc_motion.proofs.sweep.Sweep.first_above.Goals.{then-place-hold, else-place-hold}
use Rattle.qc_motion.proofs.sweep.Sweep.first_above.Goals as goal

pub overflow_sub-hold : goal.overflow_sub-hold
overflow_sub-hold c =
    let h = c.in-Some.ensures in
    let hold = c.in-Some.hold in
    let below =
    task_le c.args.self.now c.tasks-task-end.ensures.sound c.args.at c.args.place c.requires.place c.loop-task.task h.0 in
    omega (arith, ints, below, h.1, h.2, hold.near)

pub loop-task-preserved : goal.loop-task-preserved
loop-task-preserved c =
    let it = c.args.self.now in
    let n = c.loop-task.task in
    let p = to_z w64 (of_z w64 c.args.place) in
    let P : ℕ → Type 0 = IsHigher it p in
    let h = c.in-Some.ensures in
    let hold = c.in-Some.hold in
    elim c.if-place-hold.branch [
      | then-place-hold w ↦
          let here : P n = (h.0, omega (arith, ints, h.1, hold.near)) in
          let e : c.if-place-hold.first ≡ min c.loop-task.first (passing it p n) =
          let u : w.abs_diff.result ≡ bays_up p (task_hold it n) =
          omega (arith, bays, h.1, hold.near, w.if-place-hold.true) in
          omega (arith, u, h.2) in
          first_next P (passing it p) n c.args.end _ _ c.loop-task.invariant here e
      | else-place-hold w ↦
          rw w.first-is (first_kept P (passing it p) n c.args.end _ c.loop-task.invariant
          (λ q. absurd (omega (arith, ints, w.if-place-hold.false, h.1, q.1, hold.near))))
    ]

pub loop-task-preserved-in_default : goal.loop-task-preserved-in_default
loop-task-preserved-in_default c =
    let it = c.args.self.now in
    let p = to_z w64 (of_z w64 c.args.place) in
    let n = c.loop-task.task in
    first_kept (IsHigher it p) (passing it p) n c.args.end _ c.loop-task.invariant
    (λ q. absurd (omega (arith, c.in_default.ensures, q.0.1)))
