use Rattle.qc_edifact.proofs.SegmentLemmas.{told-serves}
use Rattle.qc_edifact.proofs.segments.Segments.told.Goals as goal

pub returns-in-Some : goal.returns-in-Some
returns-in-Some c =
    told-serves c.args.text.now c.split_at.result.0.now c.split_at.result.1.now c.in-Some.signs c.if-text-lt6.false
    c.split_at.ensures.front c.split_at.ensures.back c.in-Some.ensures
