use Rattle.std.proofs.Common.{◌≡◌, sym, ap, ◌∙◌}
use Rattle.qc_close.specs.Model.{Turn, InstanceView}
use Rattle.qc_bounds.proofs.PackedLemmas.{early_at_free, early_at_one_way, starts_known}
use Rattle.qc_bounds.proofs.packed.early.Goals as goal

turn_of : (inst read : InstanceView) (answer turn : Turn) → read ≡ inst → answer ≡ read.turn → answer ≡ turn → inst.turn ≡ turn
turn_of inst read answer turn same says is = sym (ap (λ (i : InstanceView). i.turn) same) ∙ sym says ∙ is

pub start-requires-clause-starts : goal.start-requires-clause-starts
start-requires-clause-starts c =
    starts_known c.args.node.now.inst c.args.node.now.decisions
    (turn_of _ _ _ _ c.instance.ensures.same c.turn.ensures c.in-Free.is) c.requires.known

pub returns-in-OneWay-clause-tick : goal.returns-in-OneWay-clause-tick
returns-in-OneWay-clause-tick c =
    let one = turn_of _ _ _ _ c.instance.ensures.same c.turn.ensures c.in-OneWay.is in
    c.lead.ensures.ticks ∙ sym (early_at_one_way c.args.node.now.inst c.args.node.now.decisions one c.args.task)

pub returns-in-Free-clause-tick : goal.returns-in-Free-clause-tick
returns-in-Free-clause-tick c =
    let as_free = turn_of _ _ _ _ c.instance.ensures.same c.turn.ensures c.in-Free.is in
    sym (early_at_free c.args.node.now.inst c.args.node.now.decisions as_free c.requires.known c.args.task c.start.result
    c.start.ensures.start)
