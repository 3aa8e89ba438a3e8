use Rattle.std.proofs.Common.{◌≡◌, ◌+◌, length, Option, ℕ, subst, sym, arith}
use Rattle.qc_watch.proofs.Soonest.{IsSoonest, soonest_cut, soonest_more, soonest_same, soonest_time}
use Rattle.qc_watch.proofs.cursors.Cursors.soonest.Goals as goal
use Rattle.qc_watch.proofs.cursors.Cursors.soonest.Goals.{then-next-list, else-next-list}

pub loop-crane-preserved : goal.loop-crane-preserved
loop-crane-preserved c =
    let lists = c.args.reports.now in
    let next = c.args.self.now.next in
    let crane = c.loop-crane.crane in
    elim c.if-next-list.branch [
      | then-next-list w ↦
          subst (λ (o : Option ℕ). IsSoonest lists next (crane + 1) o) (sym w.soonest-is)
          (soonest_more lists next crane w.lesser.result c.loop-crane.soonest c.loop-crane.invariant
          (rw c.of-list.ensures.list at w.if-next-list.true) (rw c.of-list.ensures.list at w.lesser.ensures.least))
      | else-next-list w ↦
          subst (λ (o : Option ℕ). IsSoonest lists next (crane + 1) o) (sym w.soonest-is)
          (soonest_same lists next crane c.loop-crane.soonest c.loop-crane.invariant (rw c.of-list.ensures.list at w.if-next-list.false))
    ]

pub returns-clause-time : goal.returns-clause-time
returns-clause-time c =
    let lists = c.args.reports.now in
    let all : c.loop-crane.crane ≡ length lists = omega (arith, c.loop-crane-test.false, c.loop-crane.auto.crane-end, c.cranes-crane-end.ensures.cranes) in
    soonest_time lists c.args.self.now.next c.cranes-crane-end.ensures.reports c.args.self.now.tick c.requires c.loop-crane.soonest
    (subst (λ n. IsSoonest lists c.args.self.now.next n c.loop-crane.soonest) all c.loop-crane.invariant)

pub returns-clause-cut : goal.returns-clause-cut
returns-clause-cut c =
    let lists = c.args.reports.now in
    let all : c.loop-crane.crane ≡ length lists = omega (arith, c.loop-crane-test.false, c.loop-crane.auto.crane-end, c.cranes-crane-end.ensures.cranes) in
    soonest_cut lists c.args.self.now.next c.cranes-crane-end.ensures.reports c.args.self.now.tick c.requires c.loop-crane.soonest
    (subst (λ n. IsSoonest lists c.args.self.now.next n c.loop-crane.soonest) all c.loop-crane.invariant)
