use Rattle.std.proofs.lemmas.Grind.{common_steps}
use Rattle.std.proofs.Common.{◌≡◌, ◌∙◌, ℕ, ℤ, sym, ap, subst, arith, of_z, to_z, w32, rules}
use Rattle.std.specs.Int.{int_max}
use Rattle.std.proofs.lemmas.Int.{int_max_is, ints}
use Rattle.qc_close.specs.Bands.{IsReach}
use Rattle.qc_close.proofs.BandLemmas.{found_far, reach_at}
use Rattle.qc_close.proofs.crew.Crew.reach.Goals as goal

pub returns-then-is_found : goal.returns-then-is_found
returns-then-is_found c =
    let near = c.in-Some.ensures.near in
    let low = c.requires.near in
    found_far c.args.self.now.inst c.args.self.now.cranes c.args.tasks.now c.loop-task.task-index c.args.low c.in-Some.place _ _
    c.args.before (omega arith) c.in-Some.ensures (omega (arith, ints, low.0, low.1)) c.bays_up.result c.bays_up.ensures
    (omega (arith, ints, near.0, near.1)) (sym c.is_found.ensures ∙ c.if-is_found.true)

pub loop-task-preserved : goal.loop-task-preserved
loop-task-preserved c =
    let near = c.in-Some.ensures.near in
    let was = c.loop-task.invariant.near in
    let low = c.requires.near in
    let high = to_z w32 c.loop-task.high-bits in
    let place_is : to_z w32 (of_z w32 c.in-Some.place) ≡ c.in-Some.place = omega (arith, ints, near.0, near.1) in
    let most_is = c.max-high.ensures.value ∙ ap (int_max high) place_is in
    let back : to_z w32 (of_z w32 c.max-high.result) ≡ c.max-high.result = omega (arith, ints, int_max_is high c.in-Some.place, most_is, near.0, near.1, was.0, was.1) in
    reach_at c.args.self.now.inst c.args.self.now.cranes c.args.tasks.now c.loop-task.task-index (to_z w32 (of_z w32 c.args.low))
    high c.in-Some.place _ (to_z w32 (of_z w32 c.max-high.result)) c.loop-task.invariant c.in-Some.ensures
    (omega (arith, ints, low.0, low.1)) (back ∙ most_is)

pub returns-in-None : goal.returns-in-None
returns-in-None c = grind (arith, common_steps)

pub returns : goal.returns
returns c =
    let inst = c.args.self.now.inst in
    let cranes = c.args.self.now.cranes in
    let tasks = c.args.tasks.now in
    let high = to_z w32 c.loop-task.high-bits in
    let near = c.requires.near in
    subst (λ (n : ℕ). IsReach inst cranes tasks n c.args.low high)
    (omega (arith, c.loop-task-test.false, c.loop-task.auto.task-index-end))
    (subst (λ (x : ℤ). IsReach inst cranes tasks c.loop-task.task-index x high) (omega (arith, ints, near.0, near.1))
    c.loop-task.invariant)

pub loop-task-init : goal.loop-task-init
loop-task-init c = search rules

pub nearest-requires-clause-below : goal.nearest-requires-clause-below
nearest-requires-clause-below c = search rules
