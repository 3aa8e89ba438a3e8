use Rattle.std.proofs.Common.{◌-◌, ◌<◌, sym, ◌∙◌, ap, arith}
use Rattle.qc_model.specs.declared.task.Task.{Task}
use Rattle.qc_close.specs.Bars.{row_at}
use Rattle.qc_close.specs.declared.bars.Bars.{Bars}
use Rattle.qc_close.proofs.TableLemmas.{bars_next, bars_skip, bars_within, soonest_at}
use Rattle.qc_close.proofs.bars.bars_at.Goals.{then-is_at, else-is_at}
use Rattle.qc_close.proofs.bars.bars_at.Goals as goal

pub loop-done-preserved : goal.loop-done-preserved
loop-done-preserved c =
    let inst = c.args.inst.now in
    let cranes = c.args.cranes.now in
    let spots = c.args.spots.now in
    let count = c.args.behind in
    let done = c.loop-done.done in
    let j = count - 1 - done in
    let low : done < count = omega (arith, c.loop-done-test.true, c.saturating_sub-done-end.ensures) in
    let p = row_at cranes spots c.args.row c.args.spot in
    record {
      bars = elim c.if-is_at.branch [
        | then-is_at w ↦
            let passes = sym c.is_at.ensures ∙ w.if-is_at.true in
            w.bars-is
            ∙ bars_next inst cranes p count done c.loop-done.bars low c.loop-done.invariant.bars
            w.one_bars-one.result w.joined-bars.result passes
            (w.one_bars-one.ensures.ticks ∙ ap (λ (t : Task). t.ticks) w.task.ensures.task)
            (w.one_bars-one.ensures.soonest ∙ soonest_at inst cranes c.args.soonest.now c.requires.soonest spots c.args.row c.args.spot j passes)
            (w.one_bars-one.ensures.low ∙ ap (λ (t : Task). t.bay) w.task.ensures.task)
            (w.one_bars-one.ensures.high ∙ ap (λ (t : Task). t.bay) w.task.ensures.task)
            w.joined-bars.ensures
        | else-is_at w ↦
            w.bars-is
            ∙ bars_skip inst cranes p count done c.loop-done.bars low c.loop-done.invariant.bars
            (sym c.is_at.ensures ∙ w.if-is_at.false)
      ];
      small = elim c.if-is_at.branch [
        | then-is_at w ↦
            omega (
              arith,
              ap (λ (b : Bars). b.ticks) w.bars-is,
              ap (λ (b : Bars). b.ticks) w.joined-bars.ensures,
              w.one_bars-one.ensures.ticks,
              w.task.ensures.bound,
              c.loop-done.invariant.small,
            )
        | else-is_at w ↦ omega (arith, ap (λ (b : Bars). b.ticks) w.bars-is, c.loop-done.invariant.small)
      ];
    }

pub returns-clause-bars : goal.returns-clause-bars
returns-clause-bars c =
    bars_within c.args.inst.now c.args.cranes.now c.args.spots.now c.args.row c.args.spot c.args.first c.args.behind
    c.loop-done.done c.loop-done.bars c.requires.spots c.requires.within c.requires.behind
    (omega (arith, c.loop-done-test.false, c.loop-done.auto.done-end, c.saturating_sub-done-end.ensures)) c.loop-done.invariant.bars
