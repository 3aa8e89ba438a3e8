use Rattle.std.proofs.Common.{◌≡◌, ℕ, to_z, of_z, w64, max, arith}
use Rattle.std.proofs.lemmas.Int.{ints}
use Rattle.qc_model.specs.Rules.{start_of}
use Rattle.qc_motion.specs.Sweep.{IsOnRise}
use Rattle.qc_motion.proofs.Bests.{last_kept, last_next}
use Rattle.qc_motion.proofs.sweep.Sweep.rise_end.Goals.{then-hold-at, else-hold-at}
use Rattle.qc_motion.proofs.sweep.Sweep.rise_end.Goals as goal

pub loop-task-preserved : goal.loop-task-preserved
loop-task-preserved c =
    let it = c.args.self.now in
    let n = c.loop-task.task in
    let P : ℕ → Type 0 = IsOnRise it c.args.at (to_z w64 (of_z w64 c.args.place)) in
    let h = c.in-Some.ensures in
    let hold = c.in-Some.hold in
    elim c.if-hold-at.branch [
      | then-hold-at w ↦
          let here : P n = (h.0, omega (arith, ints, h.1, h.2, hold.near, hold.bounded)) in
          let e : c.if-hold-at.end ≡ max c.loop-task.end (start_of it.sched n) = omega (arith, h.2) in
          last_next P (start_of it.sched) n c.args.at _ _ c.loop-task.invariant here e
      | else-hold-at w ↦
          rw w.end-is (last_kept P (start_of it.sched) n c.args.at _ c.loop-task.invariant
          (λ p. w.if-hold-at.false (omega (arith, ints, h.1, h.2, p.1, hold.near, hold.bounded))))
    ]

pub loop-task-preserved-in_default : goal.loop-task-preserved-in_default
loop-task-preserved-in_default c =
    let it = c.args.self.now in
    let P : ℕ → Type 0 = IsOnRise it c.args.at (to_z w64 (of_z w64 c.args.place)) in
    last_kept P (start_of it.sched) c.loop-task.task c.args.at _ c.loop-task.invariant
    (λ p. absurd (omega (arith, p.0.1, c.in_default.ensures)))
