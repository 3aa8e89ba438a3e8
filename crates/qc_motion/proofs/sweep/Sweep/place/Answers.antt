use Rattle.std.proofs.Common.{◌≡◌, ◌-ℤ◌, FitsSigned, to_z, of_z, w64, rules, arith}
use Rattle.std.proofs.lemmas.Int.{ints}
use Rattle.qc_model.specs.Motion.{berth_place}
use Rattle.qc_motion.proofs.PlaceLemmas.{at_of_highest, highest_of_berth}
use Rattle.qc_motion.proofs.sweep.Sweep.place.Goals as goal

pub loop-number-preserved : goal.loop-number-preserved
loop-number-preserved c =
    let it = c.args.self.now in
    let v = c.loop-number.number in
    let hold = c.berth-hold.result in
    let y = to_z w64 (of_z w64 (to_z w64 (of_z w64 hold.place) -ℤ to_z w64 c.saturating_sub.result)) in
    let e : y ≡ berth_place it.inst v it.crane c.args.at 1 =
    omega (arith, ints, hold.near, hold.bounded, c.requires) in
    let f : FitsSigned w64 c.max-place.result = search rules in
    let m = c.max-place.ensures in
    highest_of_berth it c.args.at _ v _ y _ c.loop-number.invariant (omega arith) e
    (omega (arith, ints, hold.near, hold.bounded)) f m.value m.self_bound m.other_bound

pub returns-clause-place : goal.returns-clause-place
returns-clause-place c =
    let b = c.berths-number-end.ensures in
    at_of_highest c.args.self.now c.args.at _ _ _ c.loop-number.invariant b.sound (omega arith) (omega arith)
