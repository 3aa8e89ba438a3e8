use Rattle.std.proofs.Common.{ap, map, sym, ◌∙◌}
use Rattle.toml.specs.View.{view}
use Rattle.qc_model.specs.declared.task.Phase.TheVariants.{DeckOut}
use Rattle.qc_ship.specs.declared.ship.NamePair.{NamePair}
use Rattle.qc_rest_files.specs.RestShip.{are_named}
use Rattle.qc_rest_files.specs.ShipTable.{before_value}
use Rattle.qc_rest_files.proofs.ValueLemmas.{value_failed, value_passed}
use Rattle.qc_rest_files.proofs.names.before_values.Goals as goal
use Rattle.qc_rest_files.proofs.names.before_values.Goals.{then-are_named+in_ok-before_value+in_ok-push, else-are_named}

pub loop-pair-preserved : goal.loop-pair-preserved
loop-pair-preserved c =
    let test = are_named c.args.tasks.now in
    let i = c.loop-pair.pair-index in
    let x : NamePair = record { first = record { hatch = 0; phase = DeckOut }; second = record { hatch = 0; phase = DeckOut } } in
    let vs = c.loop-pair.values.items in
    elim c.if-are_named.branch [
      | then-are_named+in_ok-before_value+in_ok-push w ↦ rw w.values-is
          (ap (map view) w.in_ok-push.ensures.items
          ∙ value_passed before_value c.args.pairs.now i x c.loop-pair-test.true vs _ test c.loop-pair.invariant
          (sym c.are_named.ensures ∙ w.if-are_named.true) w.in_ok-before_value.ensures)
      | else-are_named w ↦ rw w.values-is
          (value_failed before_value c.args.pairs.now i x c.loop-pair-test.true vs test c.loop-pair.invariant
          (sym c.are_named.ensures ∙ w.if-are_named.false))
    ]
