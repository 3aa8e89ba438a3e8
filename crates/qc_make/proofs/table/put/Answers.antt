use Rattle.std.proofs.Common.{List, ℕ, ap, ◌∙◌}
use Rattle.toml.specs.View.{members_view, table_view, view}
use Rattle.qc_make.specs.MadeTable.{with_member}
use Rattle.qc_make.proofs.TableFacts.{members_put}
use Rattle.qc_make.proofs.table.put.Goals as goal

pub returns : goal.returns
returns c =
    ap members_view c.in_ok-insert.ensures.entries
    ∙ members_put c.args.table.now.entries c.in_ok-key.key c.args.value
    ∙ ap (λ (key : List ℕ). with_member key (view c.args.value) (table_view c.args.table.now)) c.in_ok-key.ensures.ok
