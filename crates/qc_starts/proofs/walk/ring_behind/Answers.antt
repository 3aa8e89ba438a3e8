use Rattle.std.proofs.Common.{◌≡◌, ℕ, ◌+◌, ◌∷◌, List, length, Option, None, Some, ap, sym, subst, subst₂, ◌∙◌, arith, take}
use Rattle.qc_starts.specs.Found.{why_in}
use Rattle.qc_starts.specs.Ways.{IsPlace, IsRing, IsWay}
use Rattle.qc_starts.proofs.WayLemmas.{code_small, ring_found, way_begins, way_length, way_more}
use Rattle.qc_starts.proofs.walk.ring_behind.Goals as goal

pub loop-raiser-init : goal.loop-raiser-init
loop-raiser-init c =
    let why = why_in c.args.count c.args.values.now.cells in
    record {
      way = subst (IsWay why c.args.root c.args.root) (sym c.clear.ensures.items) (way_begins why c.args.root c.requires.task);
      room = c.clear.ensures.capacity;
    }

pub raiser-requires-clause-small : goal.raiser-requires-clause-small
raiser-requires-clause-small c =
    code_small c.args.count c.args.values.now.cells c.loop-raiser.task c.requires.backed c.requires.few
    c.loop-raiser.invariant.way.inside.0

pub prepend-requires : goal.prepend-requires
prepend-requires c =
    let fits = way_length _ _ _ _ c.loop-raiser.invariant.way in
    omega (arith, fits, c.requires.room, c.loop-raiser.invariant.room)

pub loop-raiser-smaller : goal.loop-raiser-smaller
loop-raiser-smaller c =
    let fits = way_length _ _ _ _ c.loop-raiser.invariant.way in
    omega (arith, fits, ap (length {A = ℕ}) c.prepend.ensures.items)

pub loop-raiser-preserved : goal.loop-raiser-preserved
loop-raiser-preserved c =
    let why = why_in c.args.count c.args.values.now.cells in
    let way = c.loop-raiser.invariant.way in
    let back : why.of c.loop-raiser.task ≡ Some c.in-Some.raiser = sym c.raiser.ensures ∙ c.in-Some.is in
    let away : IsPlace (c.loop-raiser.task ∷ c.loop-raiser.path.items) c.in-Some.raiser None =
    subst₂ (λ (xs : List ℕ) (o : Option ℕ). IsPlace xs c.in-Some.raiser o)
    (c.as_slice.ensures ∙ c.prepend.ensures.items) c.in_default-place_of.is c.place_of.ensures in
    let low = c.requires.backed c.loop-raiser.task c.in-Some.raiser way.inside.0 back in
    record {
      way = subst (IsWay why c.args.root c.in-Some.raiser) (sym c.prepend.ensures.items)
          (way_more why _ _ _ _ way back low away);
      room = c.prepend.ensures.room ∙ c.loop-raiser.invariant.room;
    }

pub returns-in-Some-place_of-clause-ring : goal.returns-in-Some-place_of-clause-ring
returns-in-Some-place_of-clause-ring c =
    let why = why_in c.args.count c.args.values.now.cells in
    let at : IsPlace (c.loop-raiser.task ∷ c.loop-raiser.path.items) c.in-Some.raiser (Some c.in-Some-place_of.place) =
    subst₂ (λ (xs : List ℕ) (o : Option ℕ). IsPlace xs c.in-Some.raiser o)
    (c.as_slice.ensures ∙ c.prepend.ensures.items) c.in-Some-place_of.is c.place_of.ensures in
    subst (IsRing why) (sym (c.truncate.ensures.items ∙ ap (take (c.in-Some-place_of.place + 1)) c.prepend.ensures.items))
    (ring_found why _ _ _ _ _ c.loop-raiser.invariant.way (sym c.raiser.ensures ∙ c.in-Some.is) at)

pub unreachable-requires : goal.unreachable-requires
unreachable-requires c =
    absurd (c.requires.endless (c.loop-raiser.task ∷ c.loop-raiser.path.items)
    (c.loop-raiser.invariant.way, sym c.raiser.ensures ∙ c.in_default.is))
