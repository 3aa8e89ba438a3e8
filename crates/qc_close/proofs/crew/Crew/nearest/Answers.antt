use Rattle.std.proofs.Common.{◌≡◌, ◌≤ℤ◌, ◌+◌, ◌-◌, refl, sym, ◌∙◌, arith, of_z, to_z, w32, rules}
use Rattle.std.proofs.lemmas.Bool.{false≢true}
use Rattle.std.proofs.lemmas.Int.{ints}
use Rattle.qc_close.proofs.BandLemmas.{below_at, nearest_at, nearest_hit, next_below}
use Rattle.qc_close.proofs.LoopLemmas.{least_steps}
use Rattle.qc_close.proofs.crew.Crew.nearest.Goals.{then-may+else-low-place, else-may}
use Rattle.qc_close.proofs.crew.Crew.nearest.Goals as goal

pub returns-then-low-place : goal.returns-then-low-place
returns-then-low-place c =
    let inst = c.args.self.now.inst in
    let cranes = c.args.self.now.cranes in
    let crane = c.args.cranes - 1 - c.loop-above.above in
    let low = to_z w32 (of_z w32 c.args.low) in
    let near = c.place-place.ensures.near in
    let low_near = c.requires.near in
    let place_is : to_z w32 (of_z w32 c.place-place.result) ≡ c.place-place.result = omega (arith, ints, near.0, near.1) in
    let above : low ≤ℤ c.place-place.result = omega (arith, ints, c.if-low-place.true, near.0, near.1, low_near.0, low_near.1) in
    let under = below_at inst cranes c.args.task (crane + 1) (c.args.cranes - c.loop-above.above) low low c.loop-above.invariant (omega arith) refl in
    nearest_at inst cranes c.args.low low c.args.task c.place-place.result (to_z w32 (of_z w32 c.place-place.result))
    (nearest_hit inst cranes (least_steps inst c.instance-inst.ensures.valid).1 low c.args.task crane c.place-place.result
    (omega (arith, c.requires.cranes)) under (sym c.may.ensures ∙ c.if-may.true) c.place-place.ensures.place above near)
    (omega (arith, ints, low_near.0, low_near.1)) place_is

pub loop-above-preserved : goal.loop-above-preserved
loop-above-preserved c =
    let inst = c.args.self.now.inst in
    let cranes = c.args.self.now.cranes in
    let crane = c.args.cranes - 1 - c.loop-above.above in
    let low_near = c.requires.near in
    next_below inst cranes _ c.args.task (c.args.cranes - c.loop-above.above) crane _ (omega (arith, c.loop-above-test.true))
    (omega (arith, c.loop-above-test.true)) c.loop-above.invariant
    (λ t. elim c.if-may.branch [
      | then-may+else-low-place w ↦
          let near = w.place-place.ensures.near in
          omega (arith, ints, w.if-low-place.false, w.place-place.ensures.place, near.0, near.1, low_near.0, low_near.1)
      | else-may w ↦ absurd (false≢true (sym w.if-may.false ∙ c.may.ensures ∙ t))
    ])

pub loop-above-init : goal.loop-above-init
loop-above-init c = search rules

pub returns : goal.returns
returns c = search rules
