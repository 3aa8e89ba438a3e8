use Rattle.qc_trial.proofs.MadeLemmas.{are_stored}
use Rattle.qc_trial.proofs.stored.store_search.Goals as goal

pub returns-in-Ok-store_best : goal.returns-in-Ok-store_best
returns-in-Ok-store_best g c =
    let view = g.S.Sink.view in
    are_stored c.args.inst.now c.in_ok-search.search c.in_ok-search.ensures (view c.args.shelf.now).files
    (view c.store_tree.new.shelf).files (view c.store_best.new.shelf).files c.in-Ok.done c.in-Ok.ensures.ok
    c.in-Ok-store_best.ensures.ok c.in-Ok-store_best.ensures.reread
