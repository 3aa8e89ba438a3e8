use Rattle.std.proofs.Common.{◌≤◌, ◌+◌, ◌*◌, List, None, length, reverse, ap, sym, subst, ◌∙◌, arith}
use Rattle.qc_arena.specs.declared.edge.Edge.{Edge}
use Rattle.qc_model.specs.Instance.{InstanceView}
use Rattle.qc_model.specs.Nodes.{forced}
use Rattle.qc_starts.specs.Arcs.{AreOpening, with_added}
use Rattle.qc_starts.proofs.ArcLemmas.{opening_next, opening_room}
use Rattle.qc_starts.proofs.arcs.push_row.Goals as goal

pub push_forced-requires-clause-room : goal.push_forced-requires-clause-room
push_forced-requires-clause-room c =
    let is = c.loop-to.invariant in
    let inst = c.args.decisions.now.inst in
    let ds = c.args.decisions.now.decisions in
    let arcs = reverse c.loop-to.arena.arcs in
    let count = ap (λ (i : InstanceView). length i.tasks) c.instance.ensures.same in
    let after = opening_next inst ds arcs c.args.from c.loop-to.to c.instance.ensures.valid c.requires.none
    c.requires.from (omega arith) (omega arith) is.opening in
    let more = with_added c.args.from c.loop-to.to (forced inst ds c.args.from c.loop-to.to) None arcs in
    subst (λ cap. length more ≤ cap) (sym is.room.cap)
    (opening_room inst more (240 * c.args.from + (c.loop-to.to + 1)) c.instance.ensures.valid after)

pub loop-to-preserved : goal.loop-to-preserved
loop-to-preserved c =
    let is = c.loop-to.invariant in
    let inst = c.args.decisions.now.inst in
    let ds = c.args.decisions.now.decisions in
    let arcs = reverse c.loop-to.arena.arcs in
    let count = ap (λ (i : InstanceView). length i.tasks) c.instance.ensures.same in
    let after = opening_next inst ds arcs c.args.from c.loop-to.to c.instance.ensures.valid c.requires.none
    c.requires.from (omega arith) (omega arith) is.opening in
    record {
      room = record {
        nodes = c.push_forced.ensures.nodes ∙ is.room.nodes;
        cap = c.push_forced.ensures.cap ∙ is.room.cap;
      };
      low = λ all. c.push_forced.ensures.low (is.low all);
      opening = subst (λ (xs : List Edge). AreOpening inst xs (240 * c.args.from + (c.loop-to.to + 1)))
          (sym c.push_forced.ensures.arcs) after;
    }
