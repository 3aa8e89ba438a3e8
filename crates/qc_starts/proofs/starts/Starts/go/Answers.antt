use Rattle.std.proofs.Common.{◌+◌, length, sym, ap, subst, ◌∙◌, arith}
use Rattle.std.proofs.lemmas.List.{length-reverse}
use Rattle.qc_dist.specs.Node.{IsOpen, Node}
use Rattle.qc_dist.proofs.Room.{fits_room}
use Rattle.qc_model.specs.declared.decision.Decision.{Decision}
use Rattle.qc_model.specs.Instance.{InstanceView}
use Rattle.qc_model.specs.Nodes.{order_pairs}
use Rattle.qc_starts.specs.Opened.{HasBegun}
use Rattle.qc_starts.specs.Seen.{IsReached, IsStep}
use Rattle.qc_starts.proofs.DecideLemmas.{begun_notes, kept_decided}
use Rattle.qc_starts.proofs.KeptLemmas.{home_rest, nested_count, root_task, rooting_of, settled_step, soon_kept, step_of}
use Rattle.qc_starts.proofs.starts.Starts.go.Goals as goal

pub push_reserved-requires : goal.push_reserved-requires
push_reserved-requires c =
    let f = c.self.inside in
    let is = c.self.invariant in
    let count = nested_count _ _ _ _ _ is.nested in
    let fits = fits_room c.add.new.self.inst c.add.ensures.sound.valid c.add.new.self.decisions c.add.ensures.sound.fits in
    let more = ap (length {A = Decision}) c.add.ensures.decisions in
    let room = ap (λ (i : InstanceView). length i.tasks + order_pairs i) c.add.ensures.inst in
    omega (arith, count, length-reverse f.marks.items, fits, more, room, is.room)

pub begin-requires-clause-root : goal.begin-requires-clause-root
begin-requires-clause-root c =
    let f = c.self.inside in
    let open_ = subst (λ (n : Node). IsOpen n.inst n.decisions c.args.decision) (sym c.self.view_is) c.requires.open in
    let low = root_task f.network.inst c.self.invariant.sound.valid f.network.decisions c.args.decision open_ in
    omega (arith, low, c.root_of-self-inside.ensures, c.self.invariant.sized.pending)

pub begin-requires-clause-room : goal.begin-requires-clause-room
begin-requires-clause-room c =
    let sized = c.self.invariant.sized in omega (arith, sized.pending, sized.queue)

pub settle-self-inside-requires-clause-rooting : goal.settle-self-inside-requires-clause-rooting
settle-self-inside-requires-clause-rooting c =
    let f = c.self.inside in
    let is = c.self.invariant in
    let home = ap (λ (n : Node). n.inst) c.self.view_is in
    let reach = subst (λ (i : InstanceView). IsReached i c.args.decision) (sym home) c.requires.reached in
    let begun : HasBegun f.spread c.begin.new.self c.root_of-self-inside.result = c.begin.ensures.begun in
    let open_ = subst (λ (n : Node). IsOpen n.inst n.decisions c.args.decision) (sym c.self.view_is) c.requires.open in
    rooting_of c.add.new.self f.network.inst c.args.decision f.network.decisions c.root_of-self-inside.result
    c.begin.new.self.olds.items f.spread.values.cells c.begin.new.self.values.cells c.add.ensures.sound
    c.add.ensures.inst c.add.ensures.decisions open_ reach
    (home_rest f c.args.self.now is c.self.view_is c.requires.starts)
    (soon_kept f c.args.self.now is c.self.view_is c.requires.starts) c.root_of-self-inside.ensures begun.cells
    (begun.size ∙ is.sized.olds) begun.olds

pub settle-self-inside-requires-clause-notes : goal.settle-self-inside-requires-clause-notes
settle-self-inside-requires-clause-notes c =
    let f = c.self.inside in
    begun_notes f c.args.self.now c.self.invariant c.self.view_is (record f {
      network = c.add.new.self;
      root = c.root_of-self-inside.result;
    }) c.begin.new.self c.args.decision c.add.ensures.inst c.add.ensures.decisions c.add.ensures.sound
    c.begin.ensures.begun

pub invariant_of-self : goal.invariant_of-self
invariant_of-self c =
    let f = c.self.inside in
    let home = ap (λ (n : Node). n.inst) c.self.view_is in
    let reach = subst (λ (i : InstanceView). IsReached i c.args.decision) (sym home) c.requires.reached in
    kept_decided f c.args.self.now c.self.invariant c.self.view_is (record {
      network = c.add.new.self;
      spread = c.settle-self-inside.new.self;
      marks = c.push_reserved.new.self;
      step = c.settle-self-inside.result;
      root = c.root_of-self-inside.result;
    }) c.begin.new.self c.args.decision c.add.ensures.inst c.add.ensures.decisions c.add.ensures.sound
    c.begin.ensures.begun c.mark-mark.result c.requires.starts reach
    c.push_reserved.ensures.items c.mark-mark.ensures (omega (arith, c.push_reserved.ensures.capacity))
    c.settle-self-inside.ensures.wrote c.settle-self-inside.ensures.olds c.settle-self-inside.ensures.size
    c.settle-self-inside.ensures.queued.room c.settle-self-inside.ensures.settled

pub returns-clause-step : goal.returns-clause-step
returns-clause-step c =
    let net = c.add.new.self in
    let step = step_of net c.settle-self-inside.new.self.values.cells c.root_of-self-inside.result
    c.settle-self-inside.result c.add.ensures.sound
    (settled_step net c.root_of-self-inside.result c.settle-self-inside.new.self.olds.items
    c.settle-self-inside.new.self.values.cells c.settle-self-inside.result c.add.ensures.sound
    c.settle-self-inside.ensures.settled) in
    subst (λ (i : InstanceView). IsStep i net.decisions c.settle-self-inside.result)
    (c.add.ensures.inst ∙ ap (λ (n : Node). n.inst) c.self.view_is) step
