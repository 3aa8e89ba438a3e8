use Rattle.std.proofs.Common.{inl, inr, refl, sym, subst, ◌∙◌, arith}
use Rattle.std.proofs.lemmas.Bool.{cases_eq, false≢true}
use Rattle.qc_model.specs.Instance.{InstanceView}
use Rattle.qc_starts.specs.Overlapping.{IsWide, OverlapsLater}
use Rattle.qc_starts.proofs.overlap.has_overlap.Goals as goal

pub overlaps_later-requires-clause-wide : goal.overlaps_later-requires-clause-wide
overlaps_later-requires-clause-wide c =
    subst (λ (i : InstanceView). IsWide i c.widest-wide.result) c.instance.ensures.same c.widest-wide.ensures.wide

pub returns-then-overlaps_later : goal.returns-then-overlaps_later
returns-then-overlaps_later c = (
  λ _. record { i = c.loop-i.i; task = omega arith; later = c.overlaps_later.ensures.0 c.if-overlaps_later.true },
  λ _. refl,
)

pub loop-i-preserved : goal.loop-i-preserved
loop-i-preserved c = λ k under later. elim (cases_eq k c.loop-i.i) [
  | inl same ↦
      let here = subst (OverlapsLater c.args.network.now.inst c.args.network.now.decisions c.args.values.now.cells) same later in
      false≢true (sym c.if-overlaps_later.false ∙ c.overlaps_later.ensures.1 here)
  | inr other ↦ c.loop-i.invariant k (omega arith) later
]

pub returns : goal.returns
returns c = (
  λ t. absurd (false≢true t),
  λ o. absurd (c.loop-i.invariant o.i (omega (arith, o.task, c.loop-i-test.false, c.task_count-i-end.ensures.count)) o.later),
)
