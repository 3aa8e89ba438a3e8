use Rattle.std.proofs.Common.{◌≡◌, ◌+◌, ◌*◌, ◌++◌, ℕ, List, arith, refl, ap, ◌∙◌, codes}
use Rattle.qc_make.specs.Draws.{state_after}
use Rattle.qc_make.specs.MadeList.{hatch_rows, row_lines}
use Rattle.qc_make.proofs.Lines.{hatch_more, state_then}
use Rattle.qc_make.proofs.list.list_text.Goals as goal

pub loop-k-init : goal.loop-k-init
unfolding state_after
loop-k-init c = (c.in_ok-text.ensures.items, refl)

pub loop-k-preserved : goal.loop-k-preserved
loop-k-preserved c =
    let number = c.args.number in
    let k = c.loop-k.k in
    let drew = c.loop-k.invariant.1 in
    let four : 4 * k + 4 ≡ 4 * (k + 1) = omega arith in (
      c.in_ok-state.ensures.text
          ∙ ap (λ (t : List ℕ). t ++ row_lines (hatch_rows c.loop-k.state (4 * k + 2))) c.loop-k.invariant.0
          ∙ hatch_more number k c.loop-k.state (4 * k + 2) (codes "id,move,cell,length\n") drew refl,
      c.in_ok-state.ensures.state ∙ ap (λ (s : ℕ). state_after s 4) drew ∙ state_then number (4 * k) 4 ∙ ap (state_after number) four,
    )
