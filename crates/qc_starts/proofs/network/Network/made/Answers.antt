use Rattle.std.proofs.Common.{length, ap, arith}
use Rattle.std.proofs.lemmas.List.{length-reverse}
use Rattle.qc_starts.specs.NodeArcs.{NodeArcs}
use Rattle.qc_starts.proofs.DecidedLemmas.{few_made}
use Rattle.qc_starts.proofs.LevelLemmas.{levels_count}
use Rattle.qc_starts.proofs.network.Network.made.Goals as goal

pub overflow_cast-result : goal.overflow_cast-result
overflow_cast-result c =
    let is = c.self.invariant in
    let count = levels_count _ _ _ _ is.levels in
    omega (arith, count, length-reverse c.self.inside.marks.items, few_made _ _ is.valid is.fits)

pub returns : goal.returns
returns c =
    let is = c.self.invariant in
    let count = levels_count _ _ _ _ is.levels in
    omega (arith, count, length-reverse c.self.inside.marks.items, ap (λ (n : NodeArcs). length n.decisions) c.self.view_is)
