use Rattle.std.proofs.Common.{◌≡◌, ℕ, ◌+◌, to_z, of_z, w64, max, arith}
use Rattle.std.proofs.lemmas.Int.{ints}
use Rattle.qc_motion.specs.Sweep.{IsBerthAt, ready_of}
use Rattle.qc_motion.proofs.Bests.{last_kept, last_next}
use Rattle.qc_motion.proofs.sweep.Sweep.last_berth.Goals.{then-hold-place, else-hold-place}
use Rattle.qc_motion.proofs.sweep.Sweep.last_berth.Goals as goal

pub loop-number-preserved : goal.loop-number-preserved
loop-number-preserved c =
    let it = c.args.self.now in
    let n = c.loop-number.number in
    let P : ℕ → Type 0 = IsBerthAt it (to_z w64 (of_z w64 c.args.place)) in
    let hold = c.berth-hold.result in
    elim c.if-hold-place.branch [
      | then-hold-place w ↦
          let here : P n = (omega arith, omega (arith, ints, hold.near)) in
          let e : c.if-hold-place.last ≡ max c.loop-number.last (ready_of it n) = omega arith in
          last_next P (ready_of it) n (c.args.at + 1) _ _ c.loop-number.invariant here e
      | else-hold-place w ↦
          rw w.last-is (last_kept P (ready_of it) n (c.args.at + 1) _ c.loop-number.invariant
          (λ p. w.if-hold-place.false (omega (arith, ints, p.1, hold.near))))
    ]
