use Rattle.std.proofs.Common.{◌≡◌, Bool, List, None, length, subst, arith}
use Rattle.qc_rest.specs.Passed.{most_first}
use Rattle.qc_rest.specs.Passing.{IsSoonest, IsSoonestOf}
use Rattle.qc_rest.proofs.PassLemmas.{all_passed, fewer_open, in_time, next_going, none_passed}
use Rattle.qc_rest.proofs.pass.Pass.run.Goals as goal

pub loop-j-init : goal.loop-j-init
loop-j-init c = none_passed c.args.inst.now c.args.slots.now c.args.self.now c.requires.few c.requires.room

pub soonest-requires-clause-few : goal.soonest-requires-clause-few
soonest-requires-clause-few c = omega (arith, c.as_slice.ensures.len, c.as_slice.ensures.value, c.loop-j.invariant.room.left, c.requires.few)

pub step-requires-clause-starts : goal.step-requires-clause-starts
step-requires-clause-starts c =
    (in_time c.args.inst.now c.args.slots.now c.args.self.now c.loop-j.self most_first c.loop-j.invariant c.requires.starts c.requires.ends).0

pub step-requires-clause-ends : goal.step-requires-clause-ends
step-requires-clause-ends c =
    (in_time c.args.inst.now c.args.slots.now c.args.self.now c.loop-j.self most_first c.loop-j.invariant c.requires.starts c.requires.ends).1

pub loop-j-preserved : goal.loop-j-preserved
loop-j-preserved c =
    next_going c.args.inst.now c.args.slots.now c.args.self.now c.loop-j.self c.in-Some.j c.step.new.self c.loop-j.invariant
    (subst (λ (xs : List Bool). IsSoonestOf c.args.slots.now xs (length xs) c.in-Some.j) c.as_slice.ensures.value c.in-Some.ensures) c.step.ensures

pub loop-j-smaller : goal.loop-j-smaller
loop-j-smaller c =
    fewer_open c.args.inst.now c.args.slots.now c.args.self.now c.loop-j.self c.in-Some.j c.step.new.self c.loop-j.invariant
    (subst (λ (xs : List Bool). IsSoonestOf c.args.slots.now xs (length xs) c.in-Some.j) c.as_slice.ensures.value c.in-Some.ensures) c.step.ensures

pub returns : goal.returns
returns c =
    let none : c.soonest.result ≡ None = cc c.in_default.is in
    let found = subst (λ (xs : List Bool). IsSoonest c.args.slots.now xs (length xs) c.soonest.result) c.as_slice.ensures.value c.soonest.ensures in
    all_passed c.args.inst.now c.args.slots.now c.args.self.now c.loop-j.self c.loop-j.invariant
    (subst (IsSoonest c.args.slots.now c.loop-j.self.left.items (length c.loop-j.self.left.items)) none found)
