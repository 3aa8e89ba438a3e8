use Rattle.std.proofs.Common.{◌≡◌, ◌<◌, ◌+◌, ℕ, max, length, true, false, slice_index_or, sym, ap, subst, ◌∙◌, arith}
use Rattle.std.proofs.lemmas.Bool.{iff_false}
use Rattle.qc_dispatch.specs.Marks.{mark}
use Rattle.qc_odds.specs.Course.{end_in}
use Rattle.qc_odds.proofs.DueLemmas.{IsDue, due_all, due_first, due_next, due_same}
use Rattle.qc_odds.proofs.pass.due.Goals as goal
use Rattle.qc_odds.proofs.pass.due.Goals.{then-marks-cell, else-marks-cell}

pub loop-i-init : goal.loop-i-init
loop-i-init c = record {
  is = due_first c.args.inst.now c.args.slots.now (end_in c.args.lengths.now c.args.starts.now) c.args.j c.head-due.result c.head-due.ensures.ticks;
  soon = λ moment late early. omega (arith, c.head-due.ensures.bound, late);
}

pub loop-i-preserved : goal.loop-i-preserved
loop-i-preserved c =
    let inst = c.args.inst.now in
    let plan = c.args.slots.now in
    let marks = c.args.marks.now in
    let ends = end_in c.args.lengths.now c.args.starts.now in
    let i = c.loop-i.i in
    let j = c.args.j in
    let low : i < length inst.tasks = omega (arith, c.loop-i-test.true, c.task_count-i-end.ensures.count) in
    let says = c.requires.marks.says i j low c.requires.task in
    let at = ap (λ (k : ℕ). slice_index_or marks k false) c.cell.ensures in
    elim c.if-marks-cell.branch [
      | then-marks-cell w ↦
          let marked : mark marks i j ≡ true = sym at ∙ w.if-marks-cell.true in
          let this = due_next inst plan ends j i c.loop-i.due (says.0 marked) c.loop-i.invariant.is in
          let is = w.max-due.ensures ∙ ap (λ (t : ℕ). max c.loop-i.due (ends i + t)) w.gap.ensures.ticks in
          rw w.due-is (record {
            is = subst (λ (d : ℕ). IsDue inst plan ends j (i + 1) d) (sym is) this;
            soon = λ moment late early. omega (arith, w.max-due.ensures, w.gap.ensures.bound, c.loop-i.invariant.soon moment late early, early i, c.requires.lengths.few i low);
          })
      | else-marks-cell w ↦
          let unmarked : mark marks i j ≡ false = sym at ∙ w.if-marks-cell.false in
          rw w.due-is (record {
            is = due_same inst plan ends j i c.loop-i.due (iff_false says unmarked) c.loop-i.invariant.is;
            soon = c.loop-i.invariant.soon;
          })
    ]

pub returns-clause-start : goal.returns-clause-start
returns-clause-start c =
    due_all c.args.inst.now c.args.slots.now (end_in c.args.lengths.now c.args.starts.now) c.args.j c.loop-i.i c.loop-i.due
    (omega (arith, c.loop-i-test.false, c.task_count-i-end.ensures.count)) c.loop-i.invariant.is
