use Rattle.std.proofs.Common.{◌<◌, ◌∙◌, length, None, sym, arith}
use Rattle.std.proofs.lemmas.List.{get_or_default}
use Rattle.qc_rest.proofs.LatestLemmas.{left_short}
use Rattle.qc_rest.proofs.remains.remaining.Goals as goal

pub returns-clause-bound : goal.returns-clause-bound
returns-clause-bound c =
    let low : c.args.task < length c.args.journal.now.remaining.items = omega (arith, c.requires.inside, c.requires.known.room, c.requires.known.valid.tasks.count) in
    let short = left_short c.index-told.result.now c.now.result c.planned_end.result
    (λ r e. c.requires.known.short c.args.task r (get_or_default c.args.journal.now.remaining.items c.args.task None c.index-told.result.now low ∙ sym c.index-told.ensures ∙ e)) (omega (arith, c.planned_end.ensures.soon, c.now.ensures.now)) in
    omega (arith, short, c.left_of.ensures)
