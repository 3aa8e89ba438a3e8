use Rattle.std.proofs.Common.{◌≡◌, ℤ, ap, of_z, rules, subst, to_z, w32, ◌∙◌}
use Rattle.std.specs.Prelude.{OnOk}
use Rattle.toml.specs.Data.{Data}
use Rattle.toml.specs.View.{table_view}
use Rattle.qc_make.specs.MadeTable.{with_member}
use Rattle.qc_rest_files.specs.ShipTable.{hatch_at, number}
use Rattle.qc_rest_files.proofs.cranes.put_hatch.Goals as goal

pub returns : goal.returns
returns c =
    let same : to_z w32 (of_z w32 c.args.place) ≡ c.args.place = search rules in
    subst (λ (d : Data). OnOk c.put.result (table_view c.put.new.table ≡ with_member c.args.key.now d (table_view c.args.table.now)))
    (c.number_value.ensures ∙ ap number c.hatch_at.ensures.hatch ∙ ap (λ (z : ℤ). number (hatch_at c.args.places.now z)) same) c.put.ensures
