use Rattle.std.proofs.Common.{◌≡◌, ◌<◌, ◌∙◌, pos, to_z, of_z, w64, None, length, refl, ap, subst, arith}
use Rattle.std.specs.Prelude.{slice_index_or}
use Rattle.std.proofs.lemmas.Int.{ints}
use Rattle.qc_model.specs.Instance.{InstanceView}
use Rattle.qc_rest.specs.Limits.{outlook_of, place_at}
use Rattle.qc_rest.specs.Stands.{stand_of}
use Rattle.qc_rest.specs.Unfit.{IsUnfitAt}
use Rattle.qc_rest.proofs.WholeLemmas.{fit_more, unfit_here}
use Rattle.qc_rest.proofs.rest.first_unfit.Goals as goal

pub returns-in-Some : goal.returns-in-Some
returns-in-Some c =
    let count = c.crane_count-k-end.ensures.count ∙ ap (λ (i : InstanceView). length i.cranes) c.instance.ensures in
    let low : c.loop-k.k < length c.args.journal.now.dispatch.inst.cranes = omega (arith, c.loop-k-test.true, count) in
    let near = c.requires.near c.loop-k.k low in
    let few : c.loop-k.k < 8 = omega (arith, c.loop-k-test.true, c.crane_count-k-end.ensures.bound) in
    let there : to_z w64 (of_z w64 (slice_index_or c.args.places.now c.loop-k.k (pos 0))) ≡ place_at c.args.places.now c.loop-k.k =
    omega (arith, ints, near.low, near.high, few) in
    let until = (stand_of c.args.stands.now c.loop-k.k).until in
    let now = c.args.journal.now.dispatch.clock in
    λ goes. unfit_here (outlook_of c.args.journal.now c.args.stands.now goes) (place_at c.args.places.now) now refl c.loop-k.k until _ c.in-Some.why low refl there
    c.in-Some.ensures (c.loop-k.invariant goes)

pub loop-k-preserved : goal.loop-k-preserved
loop-k-preserved c =
    let count = c.crane_count-k-end.ensures.count ∙ ap (λ (i : InstanceView). length i.cranes) c.instance.ensures in
    let low : c.loop-k.k < length c.args.journal.now.dispatch.inst.cranes = omega (arith, c.loop-k-test.true, count) in
    let near = c.requires.near c.loop-k.k low in
    let few : c.loop-k.k < 8 = omega (arith, c.loop-k-test.true, c.crane_count-k-end.ensures.bound) in
    let there : to_z w64 (of_z w64 (slice_index_or c.args.places.now c.loop-k.k (pos 0))) ≡ place_at c.args.places.now c.loop-k.k =
    omega (arith, ints, near.low, near.high, few) in
    let until = (stand_of c.args.stands.now c.loop-k.k).until in
    let now = c.args.journal.now.dispatch.clock in
    let none : c.unfit.result ≡ None = cc c.in_default.is in
    let fine = subst (IsUnfitAt now until (to_z w64 (of_z w64 (slice_index_or c.args.places.now c.loop-k.k (pos 0)))) c.loop-k.k) none c.unfit.ensures in
    λ goes. fit_more (outlook_of c.args.journal.now c.args.stands.now goes) (place_at c.args.places.now) now refl c.loop-k.k until _ refl there fine (c.loop-k.invariant goes)

pub returns : goal.returns
returns c =
    let count = c.crane_count-k-end.ensures.count ∙ ap (λ (i : InstanceView). length i.cranes) c.instance.ensures in
    λ goes k low. c.loop-k.invariant goes k (omega (arith, low, c.loop-k-test.false, count))
