use Rattle.std.proofs.Common.{◌≡◌, ◌+◌, pos, ◌+ℤ◌, to_z, of_z, w32, ap, arith}
use Rattle.std.proofs.lemmas.Int.{ints}
use Rattle.qc_model.specs.Motion.{scaled}
use Rattle.qc_model.proofs.LimitsOf.{limits_of}
use Rattle.qc_model.proofs.seen.seen_place.Goals as goal

pub overflow_add-bays : goal.overflow_add-bays
overflow_add-bays c = let l = limits_of _ c.bays.ensures.valid in omega (arith, ints, l.bays)

pub place_of-requires : goal.place_of-requires
place_of-requires c =
    let l = limits_of _ c.bays.ensures.valid in (omega (arith, ints, l.bays), omega (arith, ints, l.bays))

pub returns-in-Down : goal.returns-in-Down
returns-in-Down c =
    let inst = c.args.inst.now in
    let l = limits_of _ c.bays.ensures.valid in
    let same : to_z w32 (of_z w32 (to_z w32 (of_z w32 c.bays.result) +ℤ pos 1)) ≡ pos (inst.bays + 1) =
    omega (arith, ints, l.bays) in
    let whole = ap (scaled inst 1) same in
    rw c.in-Down.is (omega (arith, ints, whole, c.requires))
