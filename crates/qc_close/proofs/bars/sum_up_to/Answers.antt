use Rattle.std.proofs.Common.{◌≡◌, suc, ◌+◌, ◌-◌, ap, ◌∙◌, arith}
use Rattle.qc_close.specs.Bars.{From, cell, joined, sum_from}
use Rattle.qc_close.specs.declared.bars.Bars.{Bars}
use Rattle.qc_close.proofs.BarLemmas.{from_low}
use Rattle.qc_close.proofs.TableLemmas.{sums_put}
use Rattle.qc_close.proofs.bars.sum_up_to.Goals as goal

pub joined-sum-requires-clause-other : goal.joined-sum-requires-clause-other
joined-sum-requires-clause-other c =
    let n = c.args.spot + 1 - c.loop-done.done in
    omega (
      arith,
      ap (λ (b : Bars). b.ticks) c.loop-done.invariant.sum,
      from_low c.args.grid.now c.args.row (c.args.spot + 1 - c.loop-done.done) (c.args.count - (c.args.spot + 1 - c.loop-done.done)) c.requires.small,
      c.requires.count,
    )

pub loop-done-preserved : goal.loop-done-preserved
loop-done-preserved c =
    let done = c.loop-done.done in
    let spot = c.args.spot in
    let k = spot - done in
    let row = c.args.row in
    let grid = c.args.grid.now in
    let count = c.args.count in
    let low = c.loop-done-test.true in
    let here : spot + 1 - done ≡ k + 1 = omega (arith, low) in
    let there : k ≡ spot + 1 - (done + 1) = omega arith in
    let long : suc (count - (k + 1)) ≡ count - k = omega (arith, c.requires.spot) in
    let is = c.loop-done.invariant.sum ∙ ap (λ n. sum_from grid row n (count - n)) here in
    let next = c.joined-sum.ensures ∙ ap (joined (cell grid row k)) is ∙ ap (sum_from grid row k) long in
    record {
      sums = sums_put (From row (spot + 1 - done)) (From row (spot + 1 - (done + 1))) (λ r k. sum_from grid r k (count - k)) count row k
          c.loop-done.from c.joined-sum.result c.requires.count c.requires.row (omega (arith, c.requires.spot)) c.loop-done.invariant.sums next
          (λ r i q differ e. omega (arith, q e, differ e, low));
      sum = next ∙ ap (λ n. sum_from grid row n (count - n)) there;
    }
