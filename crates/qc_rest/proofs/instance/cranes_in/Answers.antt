use Rattle.std.proofs.Common.{◌-◌, ◌<◌, ◌∙◌, ℕ, length, ap, arith}
use Rattle.std.proofs.lemmas.Int.{ints}
use Rattle.qc_model.specs.Instance.{InstanceView, crane}
use Rattle.qc_rest.specs.Limits.{place_at}
use Rattle.qc_rest.specs.RestOf.{crane_in}
use Rattle.qc_rest.specs.Stands.{stand_of}
use Rattle.qc_rest.proofs.KeptLemmas.{made_step}
use Rattle.qc_rest.proofs.MakingLemmas.{crane_is}
use Rattle.qc_rest.proofs.instance.cranes_in.Goals as goal

pub overflow_cast-bay : goal.overflow_cast-bay
overflow_cast-bay c =
    let count = c.crane_count-k-end.ensures.count ∙ ap (λ (i : InstanceView). length i.cranes) c.instance-inst.ensures in
    let near = c.requires.near c.loop-k.k (omega (arith, c.loop-k-test.true, count)) in
    omega (arith, ints, near.low, near.high, c.loop-k-test.true, c.crane_count-k-end.ensures.bound)

pub loop-k-preserved : goal.loop-k-preserved
loop-k-preserved c =
    let work = c.args.journal.now.dispatch in
    let k = c.loop-k.k in
    let count = c.crane_count-k-end.ensures.count ∙ ap (λ (i : InstanceView). length i.cranes) c.instance-inst.ensures in
    let near = c.requires.near k (omega (arith, c.loop-k-test.true, count)) in
    let few : k < 8 = omega (arith, c.loop-k-test.true, c.crane_count-k-end.ensures.bound) in
    let is = crane_is work c.args.stands.now (place_at c.args.places.now) k c.crane.result.now c.in_ok-moved.field-0 c.in_ok-moved.ensures
    (c.crane.ensures.crane ∙ ap (λ (i : InstanceView). crane i k) c.instance-inst.ensures) (omega (arith, ints, near.low, near.high, few))
    (ap (λ (n : ℕ). (stand_of c.args.stands.now k).until - n) c.now-now.ensures.now) in
    made_step (crane_in work c.args.stands.now (place_at c.args.places.now)) k c.in_ok-moved.field-0 c.loop-k.cranes.items _ is c.loop-k.invariant c.in_ok-push.ensures.items
