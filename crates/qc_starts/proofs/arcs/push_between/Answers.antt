use Rattle.std.proofs.Common.{◌≤◌, ◌+◌, ℕ, Option, IfSome, reverse, ap, sym, subst, ◌∙◌, arith}
use Rattle.qc_arena.specs.Arcs.{Arcs}
use Rattle.qc_model.specs.declared.limits.TheConstants.{MOST_DISTANCE, MOST_WORK}
use Rattle.qc_starts.specs.Arcs.{added}
use Rattle.qc_starts.proofs.ArcLemmas.{added_fits, added_is, added_low}
use Rattle.qc_starts.proofs.arcs.push_between.Goals as goal

pub push-requires-clause-room : goal.push-requires-clause-room
push-requires-clause-room c =
    let inst = c.args.decisions.now.inst in
    let ds = c.args.decisions.now.decisions in
    added_fits c.args.one c.args.other c.in-Some-added.len c.args.arena.now.cap (added inst ds c.args.one c.args.other)
    (added inst ds c.args.other c.args.one) c.args.arena.now.arcs (sym c.added.ensures.ticks ∙ c.in-Some-added.is)
    c.requires.room

pub returns-in-Some-added-clause-arcs : goal.returns-in-Some-added-clause-arcs
returns-in-Some-added-clause-arcs c =
    let inst = c.args.decisions.now.inst in
    let ds = c.args.decisions.now.decisions in
    ap (λ (a : Arcs). reverse a.arcs) c.push.ensures
    ∙ sym (added_is c.args.one c.args.other c.in-Some-added.len (added inst ds c.args.one c.args.other)
    (added inst ds c.args.other c.args.one) c.args.arena.now.arcs (sym c.added.ensures.ticks ∙ c.in-Some-added.is))

pub returns-in-Some-added-clause-low : goal.returns-in-Some-added-clause-low
returns-in-Some-added-clause-low c = λ low.
    let few = subst (λ (o : Option ℕ). IfSome o (λ ticks. ticks ≤ MOST_WORK + MOST_DISTANCE)) c.in-Some-added.is
    c.added.ensures.bound in
    rw c.push.ensures (added_low c.args.arena.now.arcs c.args.one c.args.other c.in-Some-added.len (omega (arith, few)) low)
