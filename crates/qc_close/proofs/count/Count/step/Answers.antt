use Rattle.std.proofs.Common.{◌+◌, ◌*◌, refl, ap, arith, rules}
use Rattle.qc_close.proofs.WalkLemmas.{found_more, none_more}
use Rattle.qc_close.proofs.count.Count.step.Goals as goal

pub returns-in_err-cranes-clause-found : goal.returns-in_err-cranes-clause-found
returns-in_err-cranes-clause-found c = λ xs work walked.
    let none =
    none_more c.args.self.now.travel c.args.tick c.args.self.now.frames.now c.args.self.now.left.now c.args.way c.args.bay xs c.args.walk walked
    (c.args.walk.work + c.args.work + c.args.self.now.travel * (c.args.walk.legs + c.leg_from.result))
    (omega (arith, work, ap (λ n. c.args.self.now.travel * (c.args.walk.legs + n)) c.leg_from.ensures.leg))
    (λ n low. omega (arith, c.in_err-cranes.ensures n low, c.most_rooms.ensures n (omega (arith, low)))) in
    rw c.from_residual.ensures none

pub returns-clause-found : goal.returns-clause-found
returns-clause-found c = λ xs work walked.
    found_more c.args.self.now.travel c.args.tick c.args.self.now.frames.now c.args.self.now.left.now c.args.way c.args.bay xs c.args.walk walked
    (c.args.walk.work + c.args.work + c.args.self.now.travel * (c.args.walk.legs + c.leg_from.result))
    (omega (arith, work, ap (λ n. c.args.self.now.travel * (c.args.walk.legs + n)) c.leg_from.ensures.leg))
    c.in_ok-cranes.cranes _ c.in_ok-cranes.ensures.0
    (omega (arith, c.in_ok-cranes.ensures.1, c.in_ok-cranes.ensures.0, c.most_rooms.ensures c.in_ok-cranes.cranes (omega (arith, c.in_ok-cranes.ensures.0))))
    (λ n low. omega (arith, c.in_ok-cranes.ensures.2 n low, c.most_rooms.ensures n (omega (arith, c.in_ok-cranes.ensures.0))))
    refl (omega (arith, work)) (omega (arith, c.leg_from.ensures.leg))

pub overflow_mul-self : goal.overflow_mul-self
overflow_mul-self c = search rules

pub overflow_add-work-2 : goal.overflow_add-work-2
overflow_add-work-2 c = search rules
