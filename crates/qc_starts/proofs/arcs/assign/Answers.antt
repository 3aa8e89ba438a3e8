use Rattle.std.proofs.Common.{ℕ, ◌≤◌, ◌+◌, List, [], length, reverse, refl, ap, sym, subst, subst₂, ◌∙◌, arith}
use Rattle.qc_arena.specs.declared.edge.Edge.{Edge}
use Rattle.qc_dist.specs.Node.{Node}
use Rattle.qc_dist.proofs.Assigned.{assigned_here}
use Rattle.qc_model.specs.Instance.{InstanceView}
use Rattle.qc_model.specs.Nodes.{assigned}
use Rattle.qc_starts.specs.Arcs.{AreArcs, IsOver, added, with_added}
use Rattle.qc_starts.proofs.ArcLemmas.{IsAssigning, assign_after, assign_begins, assign_ends, assign_room, over_added, over_over}
use Rattle.qc_starts.proofs.arcs.assign.Goals as goal

pub loop-other-init : goal.loop-other-init
loop-other-init c = record {
  room = c.requires.room;
  so_far = assign_begins c.args.decisions.now.inst c.args.decisions.now.decisions c.args.task c.args.crane
      c.instance.ensures.valid c.requires.open.2 c.requires.open (reverse c.args.arena.now.arcs) c.requires.arcs;
  low = c.requires.low;
  over = ([], refl);
}

pub push_between-requires-clause-crane : goal.push_between-requires-clause-crane
push_between-requires-clause-crane c =
    ap (λ (n : Node). assigned n.decisions c.args.task) c.add.ensures.added
    ∙ assigned_here c.args.decisions.now.decisions c.args.task c.args.crane

pub push_between-requires-clause-room : goal.push_between-requires-clause-room
push_between-requires-clause-room c =
    let is = c.loop-other.invariant in
    let count = ap (λ (i : InstanceView). length i.tasks) c.instance.ensures.same in
    let news = c.add.new.self.decisions in
    let room = assign_room c.args.decisions.now.inst c.args.decisions.now.decisions news c.instance.ensures.valid
    c.add.ensures.fits (reverse c.loop-other.arena.arcs) c.args.task c.args.crane
    (ap (λ (n : Node). n.decisions) c.add.ensures.added) c.requires.open.2 c.requires.open.0
    c.loop-other.other (omega (arith, count, c.task_count-count.ensures.count, c.loop-other-test.true)) is.so_far in
    subst₂ (λ (i : InstanceView) (cap : ℕ). length (with_added c.args.task c.loop-other.other
    (added i news c.args.task c.loop-other.other)
    (added i news c.loop-other.other c.args.task) (reverse c.loop-other.arena.arcs)) ≤ cap)
    (sym (ap (λ (n : Node). n.inst) c.add.ensures.added)) (sym is.room.cap) room

pub loop-other-preserved : goal.loop-other-preserved
loop-other-preserved c =
    let is = c.loop-other.invariant in
    let count = ap (λ (i : InstanceView). length i.tasks) c.instance.ensures.same in
    let inst = c.args.decisions.now.inst in
    let ds = c.args.decisions.now.decisions in
    let news = c.add.new.self.decisions in
    let t = c.args.task in
    let o = c.loop-other.other in
    let arcs = reverse c.loop-other.arena.arcs in
    let after = assign_after inst ds news c.instance.ensures.valid
    c.add.ensures.fits arcs t c.args.crane
    (ap (λ (n : Node). n.decisions) c.add.ensures.added) c.requires.open.2 c.requires.open.0
    o (omega (arith, count, c.task_count-count.ensures.count, c.loop-other-test.true)) is.so_far in
    let same = c.push_between.ensures.arcs
    ∙ ap (λ (n : Node). with_added t o (added n.inst news t o) (added n.inst news o t) arcs) c.add.ensures.added in
    record {
      room = record {
        nodes = c.push_between.ensures.nodes ∙ is.room.nodes;
        cap = c.push_between.ensures.cap ∙ is.room.cap;
      };
      so_far = subst (λ (xs : List Edge). IsAssigning inst ds t c.args.crane xs (o + 1)) (sym same) after;
      low = c.push_between.ensures.low is.low;
      over = over_over (reverse c.args.arena.now.arcs) arcs (reverse c.push_between.new.arena.arcs) is.over
          (subst (IsOver arcs) (sym same) (over_added t o (added inst news t o) (added inst news o t) arcs));
    }

pub returns-clause-arcs : goal.returns-clause-arcs
returns-clause-arcs c =
    let is = c.loop-other.invariant in
    let count = ap (λ (i : InstanceView). length i.tasks) c.instance.ensures.same in
    let done = assign_ends c.args.decisions.now.inst c.args.decisions.now.decisions c.args.task c.args.crane
    c.instance.ensures.valid c.requires.open.2 (reverse c.loop-other.arena.arcs) c.loop-other.other
    (omega (arith, count, c.task_count-count.ensures.count)) is.so_far in
    subst (λ (n : Node). AreArcs c.args.decisions.now.inst n.decisions (reverse c.loop-other.arena.arcs)) (sym c.add.ensures.added) done
