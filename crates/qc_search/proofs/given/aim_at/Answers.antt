use Rattle.std.proofs.Common.{subst, sym}
use Rattle.qc_num.specs.declared.bound.Bound.{Bound}
use Rattle.qc_search.specs.Progress.{IsBegun}
use Rattle.qc_search.proofs.GivenLemmas.{aims_lower}
use Rattle.qc_search.proofs.given.aim_at.Goals as goal

pub returns-clause-begun : goal.returns-clause-begun
returns-clause-begun c =
    let home = c.args._roots.now in
    let old = c.args.progress.now in
    subst (λ (a : Bound). IsBegun home (record old { aim = a })) (sym c.min-lower.ensures)
    (aims_lower home old c.requires c.args.aim)
