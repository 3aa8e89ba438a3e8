use Rattle.std.proofs.Common.{sym, ext_get_or, ◌∙◌, arith}
use Rattle.qc_model.specs.Rules.{no_slot}
use Rattle.qc_search.proofs.given.copy_slots.Goals as goal

pub returns : goal.returns
returns c =
    ext_get_or no_slot c.loop-task.to c.args.from.now (c.loop-task.invariant.count ∙ sym c.requires.from) (λ j low.
    c.loop-task.invariant.done j (omega (arith, low, c.loop-task.invariant.count, c.loop-task-test.false)))
