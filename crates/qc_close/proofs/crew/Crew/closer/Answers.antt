use Rattle.std.proofs.Common.{◌≡◌, ℕ, ◌≤◌, min, ap, List, Option, None, Some, length, ℤ, arith, of_z, subst, to_z, w32, rules}
use Rattle.std.proofs.lemmas.Int.{ints}
use Rattle.std.specs.Option.{option_map_or}
use Rattle.qc_close.specs.Model.{bays_up, InstanceView}
use Rattle.qc_model.proofs.Bays.{bays}
use Rattle.qc_close.specs.Bands.{IsFoundFrom, IsReach}
use Rattle.qc_close.proofs.BandLemmas.{closer_step}
use Rattle.qc_close.proofs.crew.Crew.closer.Goals as goal

at_most : (o : Option ℕ) (n m : ℕ) → n ≤ m → option_map_or (λ k. min k n) o n ≤ m
at_most None n m le = le
at_most (Some k) n m le = omega arith

near_from : (inst : InstanceView) (cranes : List (Option ℕ)) (tasks : List ℕ) (o : Option ℕ) (low x high : ℤ) → x ≡ low
    → IsReach inst cranes tasks (length tasks) x high → (r n : ℕ) (z : ℤ) → r ≡ option_map_or (λ k. min k n) o n → n ≡ bays_up x z
    → z ≡ high → IsFoundFrom inst cranes tasks (Some r) low
near_from inst cranes tasks o low x high same reach r n z e is at =
    subst (IsFoundFrom inst cranes tasks (Some r)) same (λ other le lie.
    let least = reach.least other le lie in
    let few : n ≤ bays_up x other = omega (arith, bays, is, ap (bays_up x) at, least) in
    omega (arith, e, at_most o n (bays_up x other) few))

pub returns-in-Some-clause-finding : goal.returns-in-Some-clause-finding
returns-in-Some-clause-finding c =
    let low = c.requires.near in
    let high = c.in-Some.ensures.near in
    closer_step c.args.self.now.inst c.args.self.now.cranes c.args.tasks.now c.args.before (to_z w32 (of_z w32 c.args.low)) c.in-Some.high
    c.in-Some.ensures (omega (arith, ints, low.0, low.1), omega (arith, ints, low.0, low.1)) c.lesser.result c.bays_up.result _ c.lesser.ensures.least
    c.bays_up.ensures (omega (arith, ints, high.0, high.1))

pub returns-in-None-clause-found : goal.returns-in-None-clause-found
returns-in-None-clause-found c =
    let near = c.requires.near in
    let same : to_z w32 (of_z w32 c.args.low) ≡ c.args.low = omega (arith, ints, near.0, near.1) in
    subst (IsFoundFrom c.args.self.now.inst c.args.self.now.cranes c.args.tasks.now c.args.before) same c.in-None.ensures

pub returns-in-Some-clause-found : goal.returns-in-Some-clause-found
returns-in-Some-clause-found c =
    let low = c.requires.near in
    let high = c.in-Some.ensures.near in
    near_from c.args.self.now.inst c.args.self.now.cranes c.args.tasks.now c.args.before c.args.low (to_z w32 (of_z w32 c.args.low))
    c.in-Some.high (omega (arith, ints, low.0, low.1)) c.in-Some.ensures c.lesser.result c.bays_up.result _ c.lesser.ensures.least
    c.bays_up.ensures (omega (arith, ints, high.0, high.1))

pub reach-requires-clause-below : goal.reach-requires-clause-below
reach-requires-clause-below c = search rules

pub returns-in-None-clause-finding : goal.returns-in-None-clause-finding
returns-in-None-clause-finding c = search rules
