use Rattle.std.proofs.Common.{◌≡◌, ℕ, ℤ, ◌+◌, to_z, of_z, w64, min, subst, arith}
use Rattle.std.proofs.lemmas.Int.{ints}
use Rattle.qc_model.specs.Bays.{bays_up}
use Rattle.qc_model.proofs.Bays.{bays}
use Rattle.qc_motion.specs.Sweep.{IsBelow, IsFirst, berth_hold, descent, floor_place, stopping}
use Rattle.qc_motion.proofs.Bests.{first_kept, first_next, first_none}
use Rattle.qc_motion.proofs.Terms.{berth_le, floor_le}
use Rattle.qc_motion.proofs.sweep.Sweep.fall_end.Goals.{then-place-at, else-place-at}
use Rattle.qc_motion.proofs.sweep.Sweep.fall_end.Goals as goal

pub loop-number-init : goal.loop-number-init
loop-number-init c =
    let it = c.args.self.now in
    let m = c.args.at in
    let p = to_z w64 (of_z w64 c.args.place) in
    let f = c.floor_place.ensures in
    let below = floor_le it f.sound m c.args.place c.requires.place in
    let u : c.abs_diff.result ≡ bays_up (floor_place it) p = omega (arith, bays, below, c.requires.near) in
    let e : m + c.abs_diff.result ≡ descent m p (floor_place it) = omega (arith, u) in
    rw e (first_none (IsBelow it m p) (stopping it m p) (descent m p (floor_place it)))

pub loop-number-preserved : goal.loop-number-preserved
loop-number-preserved c =
    let it = c.args.self.now in
    let n = c.loop-number.number in
    let m = c.args.at in
    let p = to_z w64 (of_z w64 c.args.place) in
    let P : ℕ → Type 0 = IsBelow it m p in
    let hold = c.berth-hold.result in
    elim c.if-place-at.branch [
      | then-place-at w ↦
          let here : P n = (omega arith, omega (arith, ints, hold.near, hold.bounded, w.if-place-at.true)) in
          let e : c.if-place-at.end ≡ min c.loop-number.end (stopping it m p n) =
          let below = berth_le it c.floor_place.ensures.sound m c.args.place c.requires.place n (omega arith) in
          let u : w.abs_diff-then-place-at.result ≡ bays_up (berth_hold it n) p =
          omega (arith, bays, below, hold.near, hold.bounded, c.requires.near, w.if-place-at.true) in
          omega (arith, u) in
          first_next P (stopping it m p) n (descent m p (floor_place it)) _ _ c.loop-number.invariant here e
      | else-place-at w ↦
          rw w.end-is (first_kept P (stopping it m p) n (descent m p (floor_place it)) _ c.loop-number.invariant
          (λ q. absurd (omega (arith, ints, w.if-place-at.false, q.1, hold.near, hold.bounded))))
    ]

pub returns : goal.returns
returns c =
    let it = c.args.self.now in
    let m = c.args.at in
    let e : to_z w64 (of_z w64 c.args.place) ≡ c.args.place = omega (arith, ints) in
    let all : c.loop-number.number ≡ it.crane + 1 = omega arith in
    subst (λ (n : ℕ). IsFirst (IsBelow it m c.args.place) (stopping it m c.args.place) n
    (descent m c.args.place (floor_place it)) c.loop-number.end) all
    (subst (λ (p : ℤ). IsFirst (IsBelow it m p) (stopping it m p) c.loop-number.number
    (descent m p (floor_place it)) c.loop-number.end) e c.loop-number.invariant)
