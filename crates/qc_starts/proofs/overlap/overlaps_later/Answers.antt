use Rattle.std.proofs.Common.{inl, inr, sym, subst, ◌∙◌, arith}
use Rattle.std.proofs.lemmas.Bool.{cases_eq, false≢true}
use Rattle.qc_starts.specs.Overlaps.{Overlaps}
use Rattle.qc_starts.proofs.overlap.overlaps_later.Goals as goal

pub loop-j-preserved : goal.loop-j-preserved
loop-j-preserved c = λ k rising under lap. elim (cases_eq k c.loop-j.j) [
  | inl same ↦
      let here = subst (Overlaps c.args.network.now.inst c.args.network.now.decisions c.args.values.now.cells c.args.i) same lap in
      false≢true (sym c.if-overlaps.false ∙ c.overlaps.ensures.1 here)
  | inr other ↦ c.loop-j.invariant k rising (omega arith) lap
]

pub returns : goal.returns
returns c = (
  λ t. absurd (false≢true t),
  λ later. absurd (c.loop-j.invariant later.j later.rising
      (omega (arith, later.task, c.loop-j-test.false, c.task_count-count.ensures.count)) later.overlaps),
)
