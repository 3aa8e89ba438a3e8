use Rattle.std.proofs.Common.{◌∙◌, sym, true, false}
use Rattle.qc_words.proofs.NameLemmas.{differ_from}
use Rattle.qc_words.proofs.words.are_different.Goals as goal

pub returns-then-is_among : goal.returns-then-is_among
returns-then-is_among c =
    sym (c.loop-at.invariant
    ∙ differ_from c.args.names.now c.loop-at.at _ true c.loop-at-test.true (rw c.if-is_among.true at c.is_among.ensures))

pub loop-at-preserved : goal.loop-at-preserved
loop-at-preserved c =
    c.loop-at.invariant
    ∙ differ_from c.args.names.now c.loop-at.at _ false c.loop-at-test.true (rw c.if-is_among.false at c.is_among.ensures)
