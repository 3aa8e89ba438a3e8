use Rattle.std.proofs.lemmas.Int.{to_z-of_z}
use Rattle.std.proofs.Common.{w64, rules, ◌∙◌, refl, length, ◌≤◌, ap, arith}
use Rattle.qc_model.specs.Instance.{InstanceView}
use Rattle.qc_rest.specs.Limits.{outlook_of, place_at}
use Rattle.qc_rest.proofs.PlacingLemmas.{all_places, more_places, no_places}
use Rattle.qc_rest.proofs.places.places_of.Goals as goal

pub loop-k-init : goal.loop-k-init
loop-k-init c = no_places (outlook_of c.args.journal.now c.args.stands.now c.args.goes.now) (place_at c.tops-tops.result) _ refl

pub loop-k-preserved : goal.loop-k-preserved
loop-k-preserved c =
    let o = outlook_of c.args.journal.now c.args.stands.now c.args.goes.now in
    rw (to_z-of_z w64 c.place.result (search rules)) (more_places o (place_at c.tops-tops.result) c.loop-k.k c.loop-k.places c.place.result
    (omega (arith, c.loop-k-test.true, c.crane_count-k-end.ensures.bound)) c.loop-k.invariant c.place.ensures)

pub returns : goal.returns
returns c =
    let o = outlook_of c.args.journal.now c.args.stands.now c.args.goes.now in
    let count = c.crane_count-k-end.ensures.count ∙ ap (λ (i : InstanceView). length i.cranes) c.instance.ensures in
    let all : length c.args.journal.now.dispatch.inst.cranes ≤ c.loop-k.k = omega (arith, c.loop-k-test.false, count) in record {
      places = (place_at c.tops-tops.result, all_places o c.loop-k.k c.tops-tops.result c.loop-k.places all c.tops-tops.ensures c.loop-k.invariant);
      near = λ k low. (c.loop-k.invariant.each_one k (omega (arith, low, all))).near;
    }
