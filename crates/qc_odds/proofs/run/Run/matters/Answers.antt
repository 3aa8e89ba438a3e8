use Rattle.std.proofs.Common.{◌∙◌, ℕ, ap, length, inl, inr, refl, sym, subst, arith}
use Rattle.std.proofs.lemmas.Bool.{cases_eq, false≢true}
use Rattle.qc_odds.specs.Critical.{HoldsUp}
use Rattle.qc_odds.specs.Worked.{RunView}
use Rattle.qc_odds.proofs.MarkLemmas.{none_matters}
use Rattle.qc_odds.proofs.run.Run.matters.Goals as goal

pub returns-then-holds_up : goal.returns-then-holds_up
returns-then-holds_up c = (λ _. inr (c.loop-next.next, c.holds_up.ensures.0 c.if-holds_up.true), λ _. refl)

pub loop-next-preserved : goal.loop-next-preserved
loop-next-preserved c = let run = c.args.self.now in λ k lt held. elim (cases_eq k c.loop-next.next) [
  | inl same ↦
      let here = subst (λ (i : ℕ). HoldsUp run.inst run.plan run.lengths run.starts c.args.marked.now c.args.j i) same held in
      false≢true (sym c.if-holds_up.false ∙ c.holds_up.ensures.1 here)
  | inr other ↦ c.loop-next.invariant k (omega arith) held
]

pub returns : goal.returns
returns c =
    let run = c.args.self.now in
    let count = ap (λ (r : RunView). length r.inst.tasks) c.self.view_is in
    none_matters run.inst run.plan run.lengths run.starts c.args.last c.args.marked.now c.args.j c.loop-next.next
    (omega (arith, count, c.loop-next-test.false, c.task_count-next-end.ensures.count)) (λ end. c.if-end_of-last.false (c.end_of.ensures.ticks ∙ end))
    c.loop-next.invariant
