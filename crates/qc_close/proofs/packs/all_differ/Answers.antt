use Rattle.std.proofs.Common.{◌<◌, length, sym, ◌∙◌, arith}
use Rattle.qc_close.proofs.LoopLemmas.{differ_fails, differ_more}
use Rattle.qc_close.proofs.packs.all_differ.Goals as goal

pub returns-then-is_among : goal.returns-then-is_among
returns-then-is_among c =
    let low : c.loop-index.index < length c.args.tasks.now = omega arith in
    let found = rw c.behind.ensures at (sym c.is_among.ensures ∙ c.if-is_among.true) in
    sym (c.loop-index.invariant ∙ differ_fails c.args.tasks.now c.loop-index.index low found)

pub loop-index-preserved : goal.loop-index-preserved
loop-index-preserved c =
    let low : c.loop-index.index < length c.args.tasks.now = omega arith in
    let none = rw c.behind.ensures at (sym c.is_among.ensures ∙ c.if-is_among.false) in
    c.loop-index.invariant ∙ differ_more c.args.tasks.now c.loop-index.index low none
