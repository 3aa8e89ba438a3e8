use Rattle.std.proofs.Common.{◌≡◌, ℤ, ◌<ℤ◌, Less, Greater, to_z, of_z, w64, sym, subst, arith}
use Rattle.std.proofs.lemmas.Cmp.{int_ranked}
use Rattle.std.proofs.lemmas.Int.{ints}
use Rattle.qc_motion.specs.Sweep.{IsAt, IsRun}
use Rattle.qc_motion.proofs.Falls.{fall_is}
use Rattle.qc_motion.proofs.Rises.{rise_is}
use Rattle.qc_motion.proofs.sweep.Sweep.run_end.Goals as goal

pub returns-in-Greater : goal.returns-in-Greater
returns-in-Greater c =
    let it = c.args.self.now in
    let m = c.args.at in
    let r = c.requires in
    let p = to_z w64 (of_z w64 c.args.place) in
    let e : p ≡ c.args.place = omega (arith, ints) in
    let up : p <ℤ c.place.result =
    let h = int_ranked (to_z w64 (of_z w64 c.place.result)) p Greater c.in-Greater.ensures in omega
    (arith, ints, h, c.place.ensures.near) in
    subst (λ (x : ℤ). IsRun it m x c.args.end c.min.result) e
    (rise_is it r.sound m p (subst (IsAt it m)
    (sym e) r.place) _ c.rise_end.ensures _ c.args.end _ c.place.ensures.place up r.at c.min.ensures)

pub returns-in-Less : goal.returns-in-Less
returns-in-Less c =
    let it = c.args.self.now in
    let m = c.args.at in
    let r = c.requires in
    let p = to_z w64 (of_z w64 c.args.place) in
    let e : p ≡ c.args.place = omega (arith, ints) in
    let down : c.place.result <ℤ p =
    let h = int_ranked (to_z w64 (of_z w64 c.place.result)) p Less c.in-Less.ensures in omega
    (arith, ints, h, c.place.ensures.near) in
    subst (λ (x : ℤ). IsRun it m x c.args.end c.min-in-Less.result) e
    (fall_is it r.sound m p _ (subst (IsAt it m)
    (sym e) r.place) c.place.ensures.place down _ c.fall_end.ensures c.args.end _ r.at c.min-in-Less.ensures)
