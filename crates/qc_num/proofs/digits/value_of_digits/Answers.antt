use Rattle.std.proofs.Common.{arith, length}
use Rattle.std.proofs.lemmas.List.{take_all}
use Rattle.qc_num.proofs.DigitLemmas.{so_far_fits, value_fits, value_more}
use Rattle.qc_num.proofs.digits.value_of_digits.Goals as goal

pub overflow_mul-number : goal.overflow_mul-number
overflow_mul-number c =
    let small = so_far_fits c.args.digits.now c.loop-digit.digit-index c.requires.digits (omega arith) in
    omega (arith, c.loop-digit.invariant, small)

pub overflow_add-number : goal.overflow_add-number
overflow_add-number c =
    let small = so_far_fits c.args.digits.now c.loop-digit.digit-index c.requires.digits (omega arith) in
    omega (arith, c.loop-digit.invariant, small, c.type_inv.digits c.loop-digit.digit-index)

pub loop-digit-preserved : goal.loop-digit-preserved
loop-digit-preserved c =
    let more = value_more c.args.digits.now c.loop-digit.digit-index c.loop-digit-test.true c.requires.digits in
    omega (arith, more, c.loop-digit.invariant, c.from.ensures)

pub returns-clause-bound : goal.returns-clause-bound
returns-clause-bound c =
    let all = take_all c.loop-digit.digit-index c.args.digits.now c.loop-digit-test.false in
    rw (c.loop-digit.invariant, all) (value_fits c.args.digits.now (length c.args.digits.now) c.requires.digits (omega arith))
