use Rattle.std.proofs.Common.{◌≡◌, ℕ, ◌+◌, ◌*◌, set, subst, ap, ◌∙◌, arith}
use Rattle.qc_close.specs.Bars.{AreSums, UpTo, cell, joined, sum_before}
use Rattle.qc_close.specs.declared.bars.Bars.{Bars}
use Rattle.qc_close.proofs.BarLemmas.{before_low}
use Rattle.qc_close.proofs.TableLemmas.{before_next, sums_put}
use Rattle.qc_close.proofs.bars.sum_behind.Goals as goal

pub joined-sum-requires-clause-one : goal.joined-sum-requires-clause-one
joined-sum-requires-clause-one c =
    omega (
      arith,
      ap (λ (b : Bars). b.ticks) c.loop-k.invariant.sum,
      before_low c.args.grid.now c.args.row c.loop-k.k c.requires.small,
      c.loop-k-test.true,
      c.requires.count,
    )

pub loop-k-preserved : goal.loop-k-preserved
loop-k-preserved c =
    let k = c.loop-k.k in
    let row = c.args.row in
    let grid = c.args.grid.now in
    let at : 241 * row + (k + 1) ≡ 241 * row + k + 1 = omega arith in
    let next = c.joined-sum.ensures ∙ ap (λ b. joined b (cell grid row k)) c.loop-k.invariant.sum ∙ before_next grid row k in
    record {
      sums = subst (λ (i : ℕ). AreSums (UpTo row (k + 1)) (sum_before grid) c.args.count (set c.loop-k.before i c.joined-sum.result)) at
          (sums_put (UpTo row k) (UpTo row (k + 1)) (sum_before grid) c.args.count row (k + 1) c.loop-k.before c.joined-sum.result
          c.requires.count c.requires.row (omega (arith, c.loop-k-test.true)) c.loop-k.invariant.sums next
          (λ r i q differ e. omega (arith, q e, differ e)));
      sum = next;
    }
