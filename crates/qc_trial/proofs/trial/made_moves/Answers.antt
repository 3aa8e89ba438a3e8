use Rattle.std.proofs.Common.{ap, sym, ◌∙◌}
use Rattle.qc_num.specs.Reading.{with_fault}
use Rattle.qc_run.specs.declared.refusal.Refusal.TheVariants as refusal
use Rattle.qc_stow.specs.Stow.{moves_in}
use Rattle.qc_trial.proofs.trial.made_moves.Goals as goal

pub returns-in-Ok : goal.returns-in-Ok
returns-in-Ok c =
    ap (λ text. with_fault refusal.BadStow (moves_in c.args.ship.now text)) (sym (c.as_slice.ensures ∙ c.in_ok-text.ensures))
    ∙ ap (with_fault refusal.BadStow) c.in-Ok.ensures.moves

pub returns-in-Err-Fault : goal.returns-in-Err-Fault
returns-in-Err-Fault c =
    ap (λ text. with_fault refusal.BadStow (moves_in c.args.ship.now text)) (sym (c.as_slice.ensures ∙ c.in_ok-text.ensures))
    ∙ ap (with_fault refusal.BadStow) (rw c.in-Err-Fault.field-0-is at c.in-Err-Fault.ensures.moves)
