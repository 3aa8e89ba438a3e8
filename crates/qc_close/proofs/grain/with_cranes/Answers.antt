use Rattle.std.proofs.Common.{ℕ, get_or, ap, subst, arith}
use Rattle.std.proofs.lemmas.List.{get_or_read}
use Rattle.std.specs.Int.{IsGcd}
use Rattle.qc_close.specs.Model.{Crane, no_crane}
use Rattle.qc_close.proofs.GrainLemmas.{grain_more}
use Rattle.qc_close.proofs.grain.with_cranes.Goals as goal

pub loop-crane-preserved : goal.loop-crane-preserved
loop-crane-preserved c =
    let read = get_or_read c.args.cranes.now c.loop-crane.crane-index c.crane-item.result (omega arith) c.crane-item.is no_crane in
    grain_more c.args.start (λ i. (get_or c.args.cranes.now i no_crane).ready) c.loop-crane.crane-index c.loop-crane.grain
    c.gcd-grain.result c.loop-crane.invariant
    (subst (λ (n : ℕ). IsGcd c.loop-crane.grain n c.gcd-grain.result) (ap (λ (k : Crane). k.ready) read) c.gcd-grain.ensures)
