use Rattle.std.proofs.Common.{◌+◌, arith}
use Rattle.std.proofs.lemmas.Grind.{common_steps}
use Rattle.std.proofs.lemmas.List.FromFn.{map-range_with_len_more}
use Rattle.qc_ship.proofs.ShipLaws.{map-range_with_len}
use Rattle.qc_ship.proofs.reader.counted_places.Goals as goal

pub loop-before-preserved : goal.loop-before-preserved
loop-before-preserved c =
    let more = map-range_with_len_more (λ k. k + 1) 0 c.loop-before.before c.loop-before.before (omega arith) in
    grind (arith, common_steps, more)

pub returns : goal.returns
returns c =
    let counted = map-range_with_len c.args.count in
    grind (arith, common_steps, counted)
