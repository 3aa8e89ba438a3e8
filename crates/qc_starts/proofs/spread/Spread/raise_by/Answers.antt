use Rattle.std.proofs.Common.{sym, subst}
use Rattle.qc_starts.specs.declared.noted.Noted.{Noted}
use Rattle.qc_starts.specs.Noting.{Wrote}
use Rattle.qc_starts.proofs.spread.Spread.raise_by.Goals as goal

pub returns-clause-wrote : goal.returns-clause-wrote
returns-clause-wrote c =
    subst (λ (v : Noted). Wrote c.args.self.now.values v) (sym c.put.ensures.values)
    c.raise.ensures.wrote
