use Rattle.std.proofs.Common.{ap, map, ◌∙◌}
use Rattle.toml.specs.View.{view}
use Rattle.qc_rest_files.specs.ShipTable.{number}
use Rattle.qc_rest_files.proofs.ValueLemmas.{value_more}
use Rattle.qc_rest_files.proofs.values.number_values.Goals as goal

pub loop-n-preserved : goal.loop-n-preserved
loop-n-preserved c =
    ap (map view) c.in_ok-push.ensures.items
    ∙ value_more number c.args.numbers.now c.loop-n.n-index 0 c.loop-n-test.true c.loop-n.values.items _ c.loop-n.invariant (c.number_value.ensures ∙ ap number c.from.ensures)
