use Rattle.std.proofs.Common.{◌∙◌, ◌+◌, Global, Vec, ap, arith}
use Rattle.std.proofs.lemmas.Grind.{common_steps}
use Rattle.toml.specs.View.{view}
use Rattle.qc_ship.specs.ShipFile.{release_in}
use Rattle.qc_ship.specs.declared.ship.NameTick.{NameTick}
use Rattle.qc_ship.proofs.EachLemmas.{each_more, each_stops}
use Rattle.qc_ship.proofs.releases.read_releases.Goals as goal

pub returns-in_err-entry : goal.returns-in_err-entry
returns-in_err-entry c =
    each_stops (release_in c.args.hatches.now) view c.args.values.now c.loop-value.value-index c.value-item.result c.loop-value-test.true c.value-item.is
    _ c.loop-value.entries.items c.loop-value.invariant.rest (λ (v : Vec NameTick Global). v.items)
    c.in_err-entry.field-0.0 c.from_residual.result c.from_residual.ensures.1 (rw c.as_slice.ensures.value at c.in_err-entry.ensures)

pub loop-value-preserved : goal.loop-value-preserved
loop-value-preserved c = record {
  count = c.in_ok-push.ensures.len ∙ ap (λ n. n + 1) c.loop-value.invariant.count;
  rest = rw c.in_ok-push.ensures.items
      (each_more (release_in c.args.hatches.now) view c.args.values.now c.loop-value.value-index c.value-item.result c.loop-value-test.true c.value-item.is
      _ c.loop-value.entries.items c.loop-value.invariant.rest c.in_ok-entry.entry (rw c.as_slice.ensures.value at c.in_ok-entry.ensures));
}

pub returns : goal.returns
returns c = grind (arith, common_steps)
