use Rattle.std.proofs.Common.{◌∙◌, ◌+◌, Global, Vec, ap, arith}
use Rattle.std.proofs.lemmas.Grind.{common_steps}
use Rattle.toml.specs.View.{view}
use Rattle.qc_ship.specs.ShipFile.{crane_in}
use Rattle.qc_model.specs.declared.crane.Crane.{Crane}
use Rattle.qc_ship.proofs.EachLemmas.{each_more, each_stops}
use Rattle.qc_ship.proofs.cranes.read_cranes.Goals as goal

pub returns-in_err-crane : goal.returns-in_err-crane
returns-in_err-crane c =
    each_stops (crane_in c.args.in_decimetres c.args.gap c.args.places.now) view c.args.values.now c.loop-value.value-index c.value-item.result c.loop-value-test.true c.value-item.is
    _ c.loop-value.cranes.items c.loop-value.invariant.rest (λ (v : Vec Crane Global). v.items)
    c.in_err-crane.field-0.0 c.from_residual.result c.from_residual.ensures.1 (rw c.as_slice.ensures.value at c.in_err-crane.ensures)

pub loop-value-preserved : goal.loop-value-preserved
loop-value-preserved c = record {
  count = c.in_ok-push.ensures.len ∙ ap (λ n. n + 1) c.loop-value.invariant.count;
  rest = rw c.in_ok-push.ensures.items
      (each_more (crane_in c.args.in_decimetres c.args.gap c.args.places.now) view c.args.values.now c.loop-value.value-index c.value-item.result c.loop-value-test.true c.value-item.is
      _ c.loop-value.cranes.items c.loop-value.invariant.rest c.in_ok-crane.crane (rw c.as_slice.ensures.value at c.in_ok-crane.ensures));
}

pub returns : goal.returns
returns c = grind (arith, common_steps)
