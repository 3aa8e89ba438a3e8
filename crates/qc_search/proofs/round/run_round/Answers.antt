use Rattle.std.proofs.Common.{subst, sym}
use Rattle.qc_search.specs.declared.progress.Progress.{Progress}
use Rattle.qc_search.specs.Course.{RunsRound}
use Rattle.qc_search.specs.Progress.{known_best}
use Rattle.qc_search.proofs.CourseLemmas.{runs_round}
use Rattle.qc_search.proofs.round.run_round.Goals as goal

pub returns-clause-ran : goal.returns-clause-ran
returns-clause-ran g c =
    let home = c.args.roots.now in
    let old = c.args.progress.now in
    let now = c.write.new.progress in
    subst (λ (p : Progress). RunsRound home old p (g.K.Sink.view c.args.sink.now).written (g.K.Sink.view c.write.new.sink).written
    (record { bound = now.bound; branched = now.branched })) (sym c.begin_anew.ensures)
    (runs_round home c.requires.valid old now c.requires.begun
    (c.in_ok-write.ensures.writes (known_best home old) c.requires.begun.progress))
