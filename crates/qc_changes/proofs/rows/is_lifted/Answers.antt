use Rattle.std.proofs.Common.{◌∙◌, ◌&&◌, ap, sym}
use Rattle.qc_changes.specs.Over.{is_over_any}
use Rattle.qc_changes.proofs.rows.is_lifted.Goals as goal

pub returns-then-is_still : goal.returns-then-is_still
returns-then-is_still c = λ cells floor.
    c.is_over_any.ensures cells floor ∙ ap (λ b. b && is_over_any c.args.container.now.cell cells) (sym (sym c.is_still.ensures ∙ c.if-is_still.true))

pub returns-else-is_still : goal.returns-else-is_still
returns-else-is_still c = λ cells floor. c.if-is_still.false ∙ ap (λ b. b && is_over_any c.args.container.now.cell cells) (sym (sym c.is_still.ensures ∙ c.if-is_still.false))
