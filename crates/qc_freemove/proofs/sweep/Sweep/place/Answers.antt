use Rattle.std.proofs.Common.{◌≡◌, pos, ◌≤ℤ◌, FitsSigned, to_z, of_z, w64, ap, ◌∙◌, rules, arith}
use Rattle.std.proofs.lemmas.Int.{ints, to_z-of_z}
use Rattle.std.specs.Int.{int_max}
use Rattle.qc_freemove.specs.declared.hold.Hold.{Hold}
use Rattle.qc_freemove.specs.FreeSweep.{floor_place, held, hold_of}
use Rattle.qc_freemove.proofs.SweepLemmas.{highest_more}
use Rattle.qc_freemove.proofs.Tops.{max_le}
use Rattle.qc_freemove.proofs.sweep.Sweep.place.Goals as goal

pub loop-number-preserved : goal.loop-number-preserved
loop-number-preserved c =
    let it = c.args.self.now in
    let n = c.loop-number.number in
    let m = c.args.at in
    let d = c.loop-number.invariant in
    let x = to_z w64 c.loop-number.place-bits in
    let y = to_z w64 (of_z w64 c.at.result) in
    let r = c.max-place.result in
    let v = c.max-place.ensures in
    let f : FitsSigned w64 r = search rules in
    let kept : to_z w64 (of_z w64 r) ≡ r = to_z-of_z w64 r f in
    let near = c.at.ensures.near in
    let read : y ≡ c.at.result = omega (arith, ints, near) in
    let e : y ≡ held (hold_of it n) m =
    read ∙ c.at.ensures.place ∙ ap (λ (h : Hold). held h m) c.hold.ensures.is in
    let high : y ≤ℤ pos 800000000 = omega (arith, ints, read, near) in
    let most : int_max x y ≤ℤ pos 800000000 = max_le x y (pos 800000000) d.1.1 high in
    rw kept (
      highest_more (hold_of it) (floor_place it) m n x y r d.0 e v.value,
      (omega (arith, ints, v.self_bound, d.1.0), rw (v.value) most),
    )
