use Rattle.std.proofs.Common.{Option, IfSome, ◌<◌, ◌^◌, ap, subst, sym, ◌∙◌}
use Rattle.qc_close.specs.Bars.{together}
use Rattle.qc_close.specs.declared.frames.Own.{Own}
use Rattle.qc_close.proofs.PlaceLemmas.{around_left, around_own, gone_alone, gone_found, known_of}
use Rattle.qc_close.proofs.barred.barred_gone.Goals as goal

pub together-requires-clause-some : goal.together-requires-clause-some
together-requires-clause-some c =
    subst (λ (o : Option Own). IfSome o (λ o. o.ticks < 2 ^ 60)) c.in-Some.is
    (around_own c.args.inst.now c.requires.around.0 c.args.spots.now c.args.table.now c.args.crane c.args.own c.args.left
    c.requires.around.1 c.requires.crane)

pub together-requires-clause-others : goal.together-requires-clause-others
together-requires-clause-others c =
    around_left c.args.inst.now c.requires.around.0 c.args.spots.now c.args.table.now c.args.crane c.args.own c.args.left
    c.requires.around.1 c.requires.crane

pub greatest_done-gone-requires : goal.greatest_done-gone-requires
greatest_done-gone-requires c =
    let cranes = c.requires.around.0 in
    let a = c.requires.around.1 in
    let known = known_of c.args.inst.now cranes c.args.spots.now c.args.table.now c.args.crane c.args.own c.args.left a c.requires.crane c.in-Some-together.all (ap (λ o. together o c.args.left) c.in-Some.is ∙ sym c.together.ensures ∙ c.in-Some-together.is)
    c.in-Some.mine c.in-Some.is c.place_of-place.result c.place_of-place.ensures.crane c.place_of-place.ensures.own c.place_of-place.ensures.left c.place_of-place.ensures.first
    c.place_of-place.ensures.last in
    record { known = (cranes, known) }

pub greatest_done-requires : goal.greatest_done-requires
greatest_done-requires c =
    let cranes = c.requires.around.0 in
    let a = c.requires.around.1 in
    let known = known_of c.args.inst.now cranes c.args.spots.now c.args.table.now c.args.crane c.args.own c.args.left a c.requires.crane c.in-Some-together.all (ap (λ o. together o c.args.left) c.in-Some.is ∙ sym c.together.ensures ∙ c.in-Some-together.is)
    c.in-Some.mine c.in-Some.is c.place_of-place.result c.place_of-place.ensures.crane c.place_of-place.ensures.own c.place_of-place.ensures.left c.place_of-place.ensures.first
    c.place_of-place.ensures.last in
    record { known = (cranes, known) }

pub returns-in-None : goal.returns-in-None
returns-in-None c = λ cranes a gone.
    gone ∙ gone_alone c.args.inst.now a.valid cranes c.args.spots.now a.spots c.args.turn c.args.crane (sym c.in-None.is ∙ a.own_is)

pub returns-in-Some-together : goal.returns-in-Some-together
returns-in-Some-together c = λ cranes a gone.
    let known = known_of c.args.inst.now cranes c.args.spots.now c.args.table.now c.args.crane c.args.own c.args.left a c.requires.crane c.in-Some-together.all (ap (λ o. together o c.args.left) c.in-Some.is ∙ sym c.together.ensures ∙ c.in-Some-together.is)
    c.in-Some.mine c.in-Some.is c.place_of-place.result c.place_of-place.ensures.crane c.place_of-place.ensures.own c.place_of-place.ensures.left c.place_of-place.ensures.first
    c.place_of-place.ensures.last in
    gone_found c.args.inst.now cranes c.args.spots.now c.args.table.now c.args.crane c.args.own c.args.left a c.requires.crane c.in-Some-together.all (ap (λ o. together o c.args.left) c.in-Some.is ∙ sym c.together.ensures ∙ c.in-Some-together.is)
    c.in-Some.mine c.in-Some.is c.place_of-place.result c.place_of-place.ensures.crane c.place_of-place.ensures.own c.place_of-place.ensures.left c.place_of-place.ensures.first
    c.place_of-place.ensures.last
    c.args.turn c.args.gone c.greatest_done-gone.result c.greatest_done.result gone
    (c.greatest_done-gone.ensures cranes known) (c.greatest_done.ensures cranes known)
