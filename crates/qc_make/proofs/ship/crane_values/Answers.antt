use Rattle.std.proofs.Common.{ap, ◌∙◌, map}
use Rattle.toml.specs.Data.{table}
use Rattle.toml.specs.View.{view}
use Rattle.toml.proofs.Views.{view-Table}
use Rattle.qc_make.specs.MadeTable.{crane_table}
use Rattle.qc_make.proofs.TableFacts.{values_more}
use Rattle.qc_make.proofs.ship.crane_values.Goals as goal

pub loop-k-preserved : goal.loop-k-preserved
loop-k-preserved c =
    ap (map view) c.in_ok-push.ensures.items
    ∙ values_more (λ k. table (crane_table k)) c.loop-k.values.items _ c.loop-k.k c.loop-k.invariant (view-Table c.in_ok-crane_table.field-0 ∙ ap table c.in_ok-crane_table.ensures)
