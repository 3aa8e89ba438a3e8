use Rattle.std.proofs.Common.{◌≡◌, pos, ◌*ℤ◌, to_z, of_z, w32, w64, ap, ◌∙◌, arith}
use Rattle.std.proofs.lemmas.Int.{ints}
use Rattle.qc_model.specs.Motion.{scaled}
use Rattle.qc_freemove.proofs.SweepLemmas.{twice_scaled}
use Rattle.qc_freemove.proofs.sweep.half_place.Goals as goal

pub returns-clause-place : goal.returns-clause-place
returns-clause-place c =
    let p = c.place_of.ensures in
    let r = c.place_of.result in
    let inst = c.args.judge.now.inst in
    let bay : to_z w32 (of_z w32 c.args.bay) ≡ c.args.bay = omega (arith, ints, c.requires) in
    let read : to_z w64 (of_z w64 (pos 2 *ℤ to_z w64 (of_z w64 r))) ≡ (pos 2 *ℤ r) = omega (arith, ints, p.near) in
    read ∙ ap (λ z. pos 2 *ℤ z) p.place ∙ twice_scaled inst (to_z w32 (of_z w32 c.args.bay)) ∙ ap (scaled inst 2) bay
