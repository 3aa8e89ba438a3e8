use Rattle.std.proofs.Common.{ℤ, ◌≡◌, ◌∙◌, ◌*◌, ap, arith, of_z, pos, to_z, w32, ◌-ℤ◌}
use Rattle.std.specs.Int.{int_min}
use Rattle.std.proofs.lemmas.Int.{ints, to_z-of_z}
use Rattle.qc_close.proofs.trip.below.Goals as goal

lesser_of : (a b x y z : ℤ) → z ≡ int_min a b → a ≡ x → b ≡ y → z ≡ int_min x y
lesser_of a b x y z e one other = e ∙ ap (λ u. int_min u b) one ∙ ap (int_min x) other

pub returns : goal.returns
returns c =
    let at : to_z w32 (of_z w32 c.args.at) ≡ c.args.at = omega (arith, ints, c.ranges.at.sfits) in
    let gaps = c.gap_over.ensures in
    let bay : to_z w32 (of_z w32 (to_z w32 (of_z w32 c.args.bay) -ℤ to_z w32 (of_z w32 c.gap_over.result)))
    ≡ c.args.bay -ℤ pos (c.args.inst.now.gap * c.args.cranes) = omega (arith, ints, c.requires.bay.0, c.requires.bay.1, gaps.bays, gaps.bound) in
    to_z-of_z w32 c.min.result (record { sfits = c.min.type_inv }) ∙ lesser_of _ _ _ _ _ c.min.ensures.value at bay
