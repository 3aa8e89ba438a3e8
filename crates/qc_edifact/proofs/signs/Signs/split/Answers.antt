use Rattle.std.proofs.Common.{◌∙◌, sym}
use Rattle.qc_edifact.proofs.CutLemmas.{cuts_off, goes_on, never_cut}
use Rattle.qc_edifact.proofs.signs.Signs.split.Goals as goal

pub returns-then-ends_piece : goal.returns-then-ends_piece
returns-then-ends_piece c =
    cuts_off c.args.self.now c.args.sign c.args.text.now c.loop-at.at c.loop-at.taken c.loop-at-test.true c.loop-at.invariant
    _ _ c.split_at.ensures.front c.split_at-then-ends_piece.ensures.back (sym c.ends_piece.ensures ∙ c.if-ends_piece.true)

pub loop-at-preserved : goal.loop-at-preserved
loop-at-preserved c =
    rw c.takes-taken.ensures
    (goes_on c.args.self.now c.args.sign c.args.text.now c.loop-at.at c.loop-at.taken c.loop-at-test.true c.loop-at.invariant
    (sym c.ends_piece.ensures ∙ c.if-ends_piece.false))

pub returns : goal.returns
returns c = never_cut c.args.self.now c.args.sign c.args.text.now c.loop-at.at c.loop-at.taken c.loop-at-test.false c.loop-at.invariant
