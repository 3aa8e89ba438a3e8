use Rattle.std.proofs.Common.{◌≡◌, ◌≤◌, ◌+◌, ℕ, ℤ, arith, of_z, to_z, w32}
use Rattle.qc_close.specs.Model.{bays_between, bays_up, IsOnRail}
use Rattle.qc_model.proofs.Bays.{bays}
use Rattle.qc_close.proofs.frames.turn_bays.Goals as goal

up_few : (n : ℕ) (a b : ℤ) → IsOnRail a → IsOnRail b → n ≡ bays_up (to_z w32 (of_z w32 a)) (to_z w32 (of_z w32 b)) → n ≤ 34000
up_few n a b r s is = omega (arith, bays, r.0, r.1, s.0, s.1, is)

between_few : (n : ℕ) (a b : ℤ) → IsOnRail a → IsOnRail b → n ≡ bays_between (to_z w32 (of_z w32 a)) (to_z w32 (of_z w32 b))
    → n ≤ 34000
between_few n a b r s is = omega (arith, bays, r.0, r.1, s.0, s.1, is)

few : (g : goal.After-bays_up) → g.bays_between.result + g.bays_up.result ≤ 68000
few c =
    let one = between_few _ _ _ c.requires.berth c.requires.low c.bays_between.ensures in
    let two = up_few _ _ _ c.requires.low c.requires.high c.bays_up.ensures in
    omega (arith, one, two)

free_few : (g : goal.After-min) → g.bays_up-in-Free.result + g.min.result ≤ 68000
free_few c =
    let one = between_few _ _ _ c.requires.berth c.requires.low c.bays_between-in-Free.ensures in
    let two = up_few _ _ _ c.requires.low c.requires.high c.bays_up-in-Free.ensures in
    omega (arith, one, two, c.min.ensures)

pub overflow_add-result : goal.overflow_add-result
overflow_add-result c = omega (arith, few c)

pub overflow_add-result-in-Free : goal.overflow_add-result-in-Free
overflow_add-result-in-Free c = omega (arith, free_few c)

pub returns-in-OneWay-clause-bound : goal.returns-in-OneWay-clause-bound
returns-in-OneWay-clause-bound c = omega (arith, few c)

pub returns-in-Free-clause-bound : goal.returns-in-Free-clause-bound
returns-in-Free-clause-bound c = omega (arith, free_few c)
