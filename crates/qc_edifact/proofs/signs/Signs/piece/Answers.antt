use Rattle.std.proofs.Common.{◌∙◌}
use Rattle.qc_edifact.proofs.CutLemmas.{piece_behind}
use Rattle.qc_edifact.proofs.signs.Signs.piece.Goals as goal

pub loop-left-preserved : goal.loop-left-preserved
loop-left-preserved c =
    c.loop-left.invariant
    ∙ piece_behind c.args.self.now c.args.sign c.loop-left.rest.now c.in-Some.behind.now c.in-Some.field-0-0.now c.loop-left.left c.loop-left-test.true c.in-Some.ensures
