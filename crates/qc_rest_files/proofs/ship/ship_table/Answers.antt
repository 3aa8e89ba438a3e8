use Rattle.std.proofs.Common.{ap}
use Rattle.toml.specs.View.{members_view, table_view}
use Rattle.qc_rest_files.proofs.TableLemmas.{all_put}
use Rattle.qc_rest_files.proofs.ship.ship_table.Goals as goal

pub returns-clause-table : goal.returns-clause-table
returns-clause-table c =
    all_put c.args.ship.now c.args.rest.now
    (table_view c.new-table.result) (table_view c.put_times.new.table) (table_view c.put_restows.new.table) (table_view c.put_distance.new.table) (table_view c.put_lists.new.table) (table_view c.put_cranes.new.table)
    (ap members_view c.new-table.ensures.empty)
    c.in_ok-put_times.ensures c.in_ok-put_restows.ensures c.in_ok-put_distance.ensures c.in_ok-put_lists.ensures c.in_ok-put_cranes.ensures.table
