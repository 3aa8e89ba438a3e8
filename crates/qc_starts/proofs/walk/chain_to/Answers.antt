use Rattle.std.proofs.Common.{◌≡◌, ℕ, [], ◌∷◌, length, reverse, Some, ap, sym, subst, ◌∙◌, arith}
use Rattle.std.proofs.lemmas.List.{length-append, length-reverse}
use Rattle.qc_starts.specs.Found.{why_in}
use Rattle.qc_starts.specs.Ways.{IsBackTo, IsWay}
use Rattle.qc_starts.proofs.LevelLemmas.{reverse_push}
use Rattle.qc_starts.proofs.WayLemmas.{away_from, code_small, turned_in, way_begins, way_length, way_more}
use Rattle.qc_starts.proofs.walk.chain_to.Goals as goal

pub loop-raiser-init : goal.loop-raiser-init
loop-raiser-init c =
    let why = why_in c.args.count c.args.values.now.cells in
    record {
      way = subst (IsWay why c.args.last c.args.last) (ap reverse (sym c.clear.ensures.items))
          (way_begins why c.args.last c.requires.task);
      room = c.clear.ensures.capacity;
    }

pub raiser-requires-clause-small : goal.raiser-requires-clause-small
raiser-requires-clause-small c =
    code_small c.args.count c.args.values.now.cells c.loop-raiser.task c.requires.backed c.requires.few
    c.loop-raiser.invariant.way.inside.0

pub push_reserved-requires : goal.push_reserved-requires
push_reserved-requires c =
    let fits = way_length _ _ _ _ c.loop-raiser.invariant.way in
    omega (arith, fits, length-reverse c.loop-raiser.path.items, c.requires.room, c.loop-raiser.invariant.room)

pub push_reserved-requires-2 : goal.push_reserved-requires-2
push_reserved-requires-2 c =
    let fits = way_length _ _ _ _ c.loop-raiser.invariant.way in
    omega (arith, fits, length-reverse c.loop-raiser.path.items, c.requires.room, c.loop-raiser.invariant.room)

pub loop-raiser-smaller : goal.loop-raiser-smaller
loop-raiser-smaller c =
    let fits = way_length _ _ _ _ c.loop-raiser.invariant.way in
    omega (
      arith,
      fits,
      length-reverse c.loop-raiser.path.items,
      ap (length {A = ℕ}) c.push_reserved.ensures.items,
      length-append c.loop-raiser.path.items (c.loop-raiser.task ∷ []),
    )

pub loop-raiser-preserved : goal.loop-raiser-preserved
loop-raiser-preserved c =
    let why = why_in c.args.count c.args.values.now.cells in
    let way = c.loop-raiser.invariant.way in
    let back : why.of c.loop-raiser.task ≡ Some c.in-Some.raiser = sym c.raiser.ensures ∙ c.in-Some.is in
    let low = c.requires.backed c.loop-raiser.task c.in-Some.raiser way.inside.0 back in
    let turned = ap reverse c.push_reserved.ensures.items ∙ reverse_push c.loop-raiser.path.items c.loop-raiser.task in
    record {
      way = subst (IsWay why c.args.last c.in-Some.raiser) (sym turned)
          (way_more why _ _ _ _ way back low (away_from why _ _ _ _ c.requires.rising way back));
      room = c.push_reserved.ensures.capacity ∙ c.loop-raiser.invariant.room;
    }

pub returns-clause-chain : goal.returns-clause-chain
returns-clause-chain c =
    let turned = turned_in c.push_reserved-2.new.self.items c.reverse.new.self
    (c.reverse.ensures.after ∙ ap reverse c.as_mut_slice.ensures.value)
    ∙ ap reverse c.push_reserved-2.ensures.items ∙ reverse_push c.loop-raiser.path.items c.loop-raiser.task in
    subst (IsBackTo (why_in c.args.count c.args.values.now.cells) c.args.last) (sym turned)
    (c.loop-raiser.invariant.way, sym c.raiser.ensures ∙ c.in_default.is)
