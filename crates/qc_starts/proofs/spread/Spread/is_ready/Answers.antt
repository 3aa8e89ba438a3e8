use Rattle.std.proofs.Common.{◌≡◌, inl, inr, false, List, ap, sym, subst, refl, ◌∙◌, arith}
use Rattle.std.proofs.lemmas.List.{get_or_default}
use Rattle.qc_arena.specs.declared.edge.Edge.{Edge}
use Rattle.qc_starts.specs.Arcs.{IsArc}
use Rattle.qc_starts.specs.Spread.{IsIn, into_task, is_pending}
use Rattle.qc_starts.proofs.SoonestLemmas.{into_all, into_inside}
use Rattle.qc_starts.proofs.ArcLemmas.{arc_of}
use Rattle.qc_starts.proofs.spread.Spread.is_ready.Goals as goal

pub loop-arc-init : goal.loop-arc-init
loop-arc-init c =
    let net = c.args.network.now in
    let are = c.into_iter-arc-iterator.ensures.into_iter_gives ∙ c.into_of-arc-items.ensures
    ∙ ap (into_task c.args.task) c.arena.ensures.arcs in
    record {
      can = tt;
      finite = tt;
      met = λ arc in_ same. inr (into_all net c.args.task c.into_iter-arc-iterator.result are arc in_ same);
      inside = into_inside net c.args.task c.into_iter-arc-iterator.result are;
    }

pub index-requires : goal.index-requires
index-requires c =
    let net = c.args.network.now in
    let inside = c.loop-arc.invariant.inside c.in-Some.arc
    (subst (λ (xs : List Edge). IsIn xs c.in-Some.arc) (sym c.in-Some.ensures.steps) (inl refl)) in
    let asks = arc_of (IsArc net.inst net.decisions) net.arcs c.arena.ensures.sound.all.each c.in-Some.arc inside.0 in
    omega (arith, asks.from, c.requires)

pub returns-then-index : goal.returns-then-index
returns-then-index c =
    let net = c.args.network.now in
    let inside = c.loop-arc.invariant.inside c.in-Some.arc
    (subst (λ (xs : List Edge). IsIn xs c.in-Some.arc) (sym c.in-Some.ensures.steps) (inl refl)) in
    let asks = arc_of (IsArc net.inst net.decisions) net.arcs c.arena.ensures.sound.all.each c.in-Some.arc inside.0 in
    let here = get_or_default c.args.self.now.pending.items c.in-Some.arc.from false c.index.result.now
    (omega (arith, asks.from, c.requires)) ∙ sym c.index.ensures ∙ c.if-index.true in
    (c.in-Some.arc, inside.0, inside.1, here)

pub loop-arc-preserved : goal.loop-arc-preserved
loop-arc-preserved c =
    let net = c.args.network.now in
    let pending = c.args.self.now.pending.items in
    let inside = c.loop-arc.invariant.inside c.in-Some.arc
    (subst (λ (xs : List Edge). IsIn xs c.in-Some.arc) (sym c.in-Some.ensures.steps) (inl refl)) in
    let asks = arc_of (IsArc net.inst net.decisions) net.arcs c.arena.ensures.sound.all.each c.in-Some.arc inside.0 in
    let here = get_or_default pending c.in-Some.arc.from false c.index.result.now
    (omega (arith, asks.from, c.requires)) ∙ sym c.index.ensures ∙ c.if-index.false in
    record {
      can = tt;
      finite = tt;
      met = λ arc in_ same. elim (c.loop-arc.invariant.met arc in_ same) [
        | inl met ↦ inl met
        | inr left_over ↦ elim (subst (λ (xs : List Edge). IsIn xs arc) c.in-Some.ensures.steps left_over) [
          | inl this ↦ inl (subst (λ (a : Edge). is_pending pending a.from ≡ false) this here)
          | inr more ↦ inr more
        ]
      ];
      inside = λ arc in_. c.loop-arc.invariant.inside arc
          (subst (λ (xs : List Edge). IsIn xs arc) (sym c.in-Some.ensures.steps) (inr in_));
    }
