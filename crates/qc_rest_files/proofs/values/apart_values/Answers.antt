use Rattle.std.proofs.Common.{ap, map, ◌∙◌}
use Rattle.toml.specs.View.{view}
use Rattle.qc_rest_files.specs.ShipTable.{apart_value}
use Rattle.qc_rest_files.proofs.ValueLemmas.{value_more}
use Rattle.qc_rest_files.proofs.values.apart_values.Goals as goal

pub loop-pair-preserved : goal.loop-pair-preserved
loop-pair-preserved c =
    ap (map view) c.in_ok-push.ensures.items
    ∙ value_more apart_value c.args.pairs.now c.loop-pair.pair-index (record { a = 0; b = 0 }) c.loop-pair-test.true c.loop-pair.values.items _ c.loop-pair.invariant (c.in_ok-apart_value.ensures)
