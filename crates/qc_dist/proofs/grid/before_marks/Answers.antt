use Rattle.std.proofs.Common.{arith}
use Rattle.qc_dist.proofs.BeforeMarks.{before_more, pair_inside}
use Rattle.qc_dist.proofs.grid.before_marks.Goals as goal

pub cell-requires-clause-first : goal.cell-requires-clause-first
cell-requires-clause-first c =
    let valid = c.before-pair-items.ensures.valid in
    let range = pair_inside c.args.inst.now valid _ c.before-pair-items.ensures.before c.loop-pair.pair-index
    (record { first = 0; second = 0 }) c.loop-pair-test.true in
    omega (arith, valid.tasks.count, range)

pub cell-requires-clause-second : goal.cell-requires-clause-second
cell-requires-clause-second c =
    let valid = c.before-pair-items.ensures.valid in
    let range = pair_inside c.args.inst.now valid _ c.before-pair-items.ensures.before c.loop-pair.pair-index
    (record { first = 0; second = 0 }) c.loop-pair-test.true in
    omega (arith, valid.tasks.count, range)

pub index_mut-requires : goal.index_mut-requires
index_mut-requires c =
    let valid = c.before-pair-items.ensures.valid in
    let range = pair_inside c.args.inst.now valid _ c.before-pair-items.ensures.before c.loop-pair.pair-index
    (record { first = 0; second = 0 }) c.loop-pair-test.true in
    omega (arith, valid.tasks.count, range, c.loop-pair.invariant.count)

pub loop-pair-preserved : goal.loop-pair-preserved
loop-pair-preserved c =
    let valid = c.before-pair-items.ensures.valid in
    before_more c.args.inst.now valid _ c.before-pair-items.ensures.before c.loop-pair.pair-index _
    c.loop-pair-test.true c.cell.result c.cell.ensures _ c.loop-pair.invariant
