use Rattle.std.proofs.Common.{◌≡◌, ◌∙◌, ◌-◌, ℕ, false, true, inl, inr, length, sym, ap, subst, arith}
use Rattle.std.proofs.lemmas.Bool.{cases_lt}
use Rattle.qc_tasks.specs.InstanceOf.{tasks_of}
use Rattle.qc_tasks.specs.Rings.{before_with, has_ring}
use Rattle.qc_tasks.proofs.OrderLemmas.{ring_due, some_ring}
use Rattle.qc_tasks.proofs.order.first_ring.Goals as goal

pub returns-then-branch : goal.returns-then-branch
returns-then-branch c =
    let entries = ap length c.before-entries.ensures.before in
    let ring = rw (c.requires.tasks, c.before-entries.ensures.before) at c.in_ok-rings_with.ensures in
    ring_due c.args.ship.now c.args.rows.now c.loop-count.count c.loop-count.auto.count (omega (arith, c.loop-count-test.true, entries))
    (sym ring ∙ c.if-branch.true) c.loop-count.invariant

pub loop-count-preserved : goal.loop-count-preserved
loop-count-preserved c = λ n low lt.
    elim (cases_lt n c.loop-count.count) [
      | inl before ↦ c.loop-count.invariant n low before
      | inr last ↦
          let same : c.loop-count.count ≡ n = omega arith in
          let ring = rw (c.requires.tasks, c.before-entries.ensures.before) at c.in_ok-rings_with.ensures in
          subst (λ (k : ℕ). has_ring (length (tasks_of c.args.ship.now c.args.rows.now)) (before_with c.args.ship.now c.args.rows.now k) ≡ false) same
          (sym ring ∙ c.if-branch.false)
    ]

pub unreachable-requires : goal.unreachable-requires
unreachable-requires c =
    let entries = ap length c.before-entries.ensures.before in
    let ring = rw c.requires.tasks at c.requires.ring in
    some_ring c.args.ship.now c.args.rows.now ring (λ n low high. c.loop-count.invariant n low (omega (arith, c.loop-count-test.false, high, entries)))
