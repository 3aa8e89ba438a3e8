use Rattle.std.proofs.Common.{◌+◌, ◌∙◌, ℕ, ap, false, slice_index, slice_index_or, sym, arith}
use Rattle.std.proofs.lemmas.Bool.{eq-eqb, eqb-true}
use Rattle.qc_odds.proofs.MarkLemmas.{held_by}
use Rattle.qc_odds.proofs.run.Run.holds_up.Goals as goal

pub returns : goal.returns
returns c =
    let f = c.self.inside in
    let next = c.args.next in
    let at = ap (λ (k : ℕ). slice_index_or f.marks.now k false) c.cell.ensures in
    let task = rw (← c.self.view_is) at c.requires.task in
    let behind = rw (← c.self.view_is) at c.requires.behind in
    let end = rw (← c.self.view_is) at c.end_of.ensures.ticks in
    let all = c.end_of.result + c.gap.result in
    rw (← c.self.view_is) (held_by f.inst.now f.slots.now f.lengths.now f.starts.now c.args.marked.now c.args.j next _ c.if-not-marked-next.false
    ((c.self.invariant.marks_are.says c.args.j next task behind).0 (sym at ∙ c.if-not-self-cell.false)) (
      λ same. omega (arith, end, c.gap.ensures.ticks, eqb-true all (slice_index f.starts.now next) same),
      λ tight. eq-eqb all (slice_index f.starts.now next) (omega (arith, end, c.gap.ensures.ticks, tight)),
    ))
