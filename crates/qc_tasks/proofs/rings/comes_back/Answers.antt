use Rattle.std.proofs.Common.{arith}
use Rattle.qc_tasks.proofs.MarkLemmas.{marked_is, none_marked}
use Rattle.qc_tasks.proofs.rings.comes_back.Goals as goal

pub loop-init : goal.loop-init
loop-init c = λ j e. absurd (none_marked 240 j e)

pub spread-requires : goal.spread-requires
spread-requires c = λ i j has.
    let low = c.requires.pairs i j has in
    (omega (arith, low.0, c.loop.array_long), omega (arith, low.1, c.loop.array_long))

pub returns : goal.returns
returns c =
    marked_is c.args.pairs.now c.args.task c.spread.new.marks c.args.task (c.spread.ensures.reached c.loop.invariant) (c.spread.ensures.all c.loop-test.false)
