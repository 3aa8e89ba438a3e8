use Rattle.std.proofs.Common.{◌++◌, ap, ◌∙◌}
use Rattle.qc_make.specs.MadeList.{made_row}
use Rattle.qc_make.proofs.Lines.{lines_more}
use Rattle.qc_make.proofs.list.push_phase.Goals as goal

pub loop-i-preserved : goal.loop-i-preserved
loop-i-preserved c =
    let row = made_row c.args.hatch c.args.phase c.loop-i.i in
    c.in_ok-extend_from_slice.ensures.items
    ∙ ap (λ t. t ++ c.as_bytes.result.now) c.loop-i.invariant
    ∙ rw (c.as_bytes.ensures.bytes, c.row_line.ensures) (lines_more (made_row c.args.hatch c.args.phase) c.args.text.now.items c.loop-i.i)
