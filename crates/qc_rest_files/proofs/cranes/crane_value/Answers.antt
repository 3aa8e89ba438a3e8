use Rattle.std.proofs.Common.{ap, ℤ, of_z, to_z, w64, ◌∙◌}
use Rattle.toml.specs.Data.{integer, string}
use Rattle.toml.specs.View.{members_view, table_view}
use Rattle.toml.proofs.Views.{view-Integer, view-Table}
use Rattle.qc_model.specs.declared.crane.Crane.{Crane}
use Rattle.qc_model.specs.declared.direction.Direction.TheVariants.{Up}
use Rattle.qc_model.specs.Instance.{crane}
use Rattle.qc_model.proofs.OnRail.{berth_on_rail, reach_on_rail, read_bay}
use Rattle.qc_rest_files.specs.ShipTable.{hatch_at, number}
use Rattle.qc_rest_files.proofs.TableLemmas.{crane_chain, read_wide}
use Rattle.qc_rest_files.proofs.cranes.crane_value.Goals as goal

pub returns-clause-value : goal.returns-clause-value
returns-clause-value c =
    let places = c.args.places.now in
    let post = c.post-post.ensures in
    let at = c.post-post.result in
    let here = crane c.args.inst.now c.args.k in
    let reach = reach_on_rail c.args.inst.now post.valid c.args.k c.requires.crane in
    let berth = berth_on_rail c.args.inst.now post.valid Up c.args.k c.requires.crane in
    view-Table c.put_hatch-2.new.table
    ∙ crane_chain places here _ _ _ _ _
    (table_view c.new-table.result) (table_view c.put.new.table) (table_view c.put-2.new.table) (table_view c.put-3.new.table) (table_view c.put_hatch.new.table) (table_view c.put_hatch-2.new.table)
    (c.in_ok-name_value.ensures.value ∙ ap (λ (d : Crane). string d.name) c.crane.ensures.crane)
    (view-Integer (to_z w64 (of_z w64 c.from.result)) ∙ ap integer (read_wide c.from.result here.bay (c.from.ensures ∙ read_bay at.bay here.bay post.bay berth) berth))
    (c.number_value.ensures ∙ ap number post.ready)
    (ap (λ (z : ℤ). number (hatch_at places z)) (read_bay at.from here.from post.from reach.0))
    (ap (λ (z : ℤ). number (hatch_at places z)) (read_bay at.to here.to post.to reach.1))
    (ap members_view c.new-table.ensures.empty)
    c.in_ok-put.ensures c.in_ok-put-2.ensures c.in_ok-put-3.ensures c.in_ok-put_hatch.ensures c.in_ok-put_hatch-2.ensures
