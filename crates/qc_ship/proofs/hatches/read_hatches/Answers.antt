use Rattle.std.proofs.Common.{◌∙◌, ◌+◌, ℕ, Global, Vec, ap, arith}
use Rattle.std.proofs.lemmas.Grind.{common_steps}
use Rattle.toml.specs.View.{view}
use Rattle.qc_ship.specs.ShipFile.{hatch_in}
use Rattle.qc_ship.proofs.EachLemmas.{each_more, each_stops}
use Rattle.qc_ship.proofs.hatches.read_hatches.Goals as goal

pub returns-in_err-hatch : goal.returns-in_err-hatch
returns-in_err-hatch c =
    each_stops hatch_in view c.args.values.now c.loop-value.value-index c.value-item.result c.loop-value-test.true c.value-item.is
    _ c.loop-value.hatches.items c.loop-value.invariant.rest (λ (v : Vec ℕ Global). v.items)
    c.in_err-hatch.field-0.0 c.from_residual.result c.from_residual.ensures.1 (rw c.as_slice.ensures.value at c.in_err-hatch.ensures)

pub loop-value-preserved : goal.loop-value-preserved
loop-value-preserved c = record {
  count = c.in_ok-push.ensures.len ∙ ap (λ n. n + 1) c.loop-value.invariant.count;
  rest = rw c.in_ok-push.ensures.items
      (each_more hatch_in view c.args.values.now c.loop-value.value-index c.value-item.result c.loop-value-test.true c.value-item.is
      _ c.loop-value.hatches.items c.loop-value.invariant.rest c.in_ok-hatch.hatch (rw c.as_slice.ensures.value at c.in_ok-hatch.ensures));
}

pub returns : goal.returns
returns c = grind (arith, common_steps)
