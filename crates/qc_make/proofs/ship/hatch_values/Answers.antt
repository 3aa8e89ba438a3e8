use Rattle.std.proofs.Common.{ap, ◌∙◌, map}
use Rattle.toml.specs.View.{view}
use Rattle.qc_make.specs.MadeTable.{hatch_number, number_value}
use Rattle.qc_make.proofs.TableFacts.{values_more}
use Rattle.qc_make.proofs.ship.hatch_values.Goals as goal

pub loop-k-preserved : goal.loop-k-preserved
loop-k-preserved c =
    ap (map view) c.in_ok-push.ensures.items
    ∙ values_more (λ k. number_value (hatch_number k)) c.loop-k.values.items c.number_value.result c.loop-k.k c.loop-k.invariant c.number_value.ensures
