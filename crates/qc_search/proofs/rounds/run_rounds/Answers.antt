use Rattle.std.proofs.Common.{◌∙◌, arith}
use Rattle.qc_search.proofs.CourseLemmas.{at_start, known_first}
use Rattle.qc_search.proofs.rounds.run_rounds.Goals as goal

pub returns-clause-unmade : goal.returns-clause-unmade
returns-clause-unmade g c =
    let view = g.S.Sink.view in
    let home = c.args.roots.now in
    let start = c.args.progress.now in
    let name = c.args.name.now in
    let before = (view c.args.shelf.now).files in
    let aimed = rw c.first_round.ensures.stays at c.in_ok-aimed.ensures.ok in
    let last = rw (c.aimed_rounds.ensures.stays ∙ c.first_round.ensures.stays) at c.last_round.ensures.ok in
    known_first home c.requires.valid start c.requires.begun name before c.last_round.new.progress
    (view c.last_round.new.shelf).files c.last_round.result
    (at_start home name c.aimed_rounds.new.progress c.last_round.new.progress (view c.aimed_rounds.new.shelf).files
    (view c.last_round.new.shelf).files c.in_ok-aimed.aimed c.last_round.result last start before
    (aimed start before c.in_ok-first.ensures.ok))
    (λ e. omega (arith, c.if-progress-nodes.false, c.in_ok-first.ensures.alone e)) _
