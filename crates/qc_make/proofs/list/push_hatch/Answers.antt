use Rattle.std.proofs.Common.{◌≡◌, ◌++◌, ℕ, List, length, map, get_or, arith, refl, sym, ap, ◌∙◌, append-nil}
use Rattle.std.specs.List.{range_with_len}
use Rattle.qc_model.specs.declared.task.Phase.TheVariants.{DeckOut}
use Rattle.qc_tasks.specs.InstanceOf.{phases}
use Rattle.qc_make.specs.MadeList.{made_row, row_lines}
use Rattle.qc_make.specs.Draws.{next_state, state_after}
use Rattle.qc_make.proofs.Lines.{state_more, phase_more}
use Rattle.qc_make.proofs.list.push_hatch.Goals as goal

pub loop-phase-init : goal.loop-phase-init
unfolding state_after
loop-phase-init c = record { state = refl; text = sym (append-nil c.args.text.now.items) }

pub loop-phase-preserved : goal.loop-phase-preserved
loop-phase-preserved c =
    let drew = c.next_state-after.ensures ∙ ap (next_state) c.loop-phase.invariant.state ∙ state_more c.args.state c.loop-phase.phase-index in
    let size : length phases ≡ 4 = refl in
    record {
      state = drew;
      text = c.in_ok-push_phase.ensures
          ∙ ap (λ (t : List ℕ). t ++ row_lines (map (made_row c.args.hatch (get_or phases c.loop-phase.phase-index DeckOut)) (range_with_len 0 c.drawn.result))) c.loop-phase.invariant.text
          ∙ rw c.drawn.ensures.drawn (phase_more c.args.state c.args.hatch c.loop-phase.phase-index c.next_state-after.result c.args.text.now.items (omega arith) drew);
    }
