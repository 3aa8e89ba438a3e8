use Rattle.std.proofs.Common.{Bool, ◌&&◌, ap, sym}
use Rattle.qc_rest.proofs.MakingLemmas.{holds_is}
use Rattle.qc_rest.proofs.instance.holds_back.Goals as goal

pub returns-then-runs : goal.returns-then-runs
returns-then-runs c =
    holds_is c.args.journal.now.dispatch c.args.i c.args.j c.runs-runs.result c.keeps_off-first.result _ c.requires c.runs-runs.ensures
    (rw c.instance.ensures at c.keeps_off-first.ensures) (ap (λ (b : Bool). b && c.keeps_off-first.result) (sym c.if-runs.true))
