use Rattle.std.proofs.Common.{inl, inr, subst, arith}
use Rattle.std.proofs.lemmas.Bool.{cases_eq}
use Rattle.qc_model.specs.Instance.{InstanceView}
use Rattle.qc_starts.specs.Overlapping.{IsWide, OverlapsLater}
use Rattle.qc_starts.proofs.overlap.first_overlap.Goals as goal

pub first_later-first-requires-clause-wide : goal.first_later-first-requires-clause-wide
first_later-first-requires-clause-wide c =
    subst (λ (i : InstanceView). IsWide i c.widest-wide.result) c.instance.ensures.same c.widest-wide.ensures.wide

pub loop-i-preserved : goal.loop-i-preserved
loop-i-preserved c = record {
  is = c.first_later-first.ensures.is;
  none = λ e k under later.
      let none = c.first_later-first.ensures.none e in
      elim (cases_eq k c.loop-i.i) [
        | inl same ↦
            none.1 (subst (OverlapsLater c.args.network.now.inst c.args.network.now.decisions c.args.values.now.cells) same later)
        | inr other ↦ c.loop-i.invariant.none none.0 k (omega arith) later
      ];
}

pub returns-in-None : goal.returns-in-None
returns-in-None c = λ o.
    c.loop-i.invariant.none c.in-None.is o.i (omega (arith, o.task, c.loop-i-test.false, c.task_count-i-end.ensures.count))
    o.later
