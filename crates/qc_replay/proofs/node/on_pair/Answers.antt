use Rattle.std.proofs.Common.{◌≡◌, ◌∙◌, ◌-◌, ◌&&◌, Err, ap, subst, sym, true, false}
use Rattle.std.proofs.lemmas.Bool.{true≢false}
use Rattle.qc_dist.specs.Node.{Node}
use Rattle.qc_close.specs.Model.{InstanceView, IsSettled}
use Rattle.qc_tree.specs.declared.fault.TreeKind.{TreeKind}
use Rattle.qc_tree.specs.declared.line.Line.TheVariants.{Order}
use Rattle.qc_replay.specs.Part.{IsJudged}
use Rattle.qc_replay.specs.Walk.{is_number, may_order, no_order}
use Rattle.qc_replay.proofs.NodeFacts.{pair_barred, pair_decided, pair_judged, pair_too_many}
use Rattle.qc_replay.proofs.FileFacts.{handed}
use Rattle.qc_replay.proofs.OrderFacts.{order_at}
use Rattle.qc_replay.proofs.node.on_pair.Goals as goal

pub on_pair-requires-clause-low : goal.on_pair-requires-clause-low
on_pair-requires-clause-low c =
    let before = c.args.descent.now in
    (order_at c.node-node.result.now before.inst before.decisions c.node-node.ensures.node c.are_both_numbers.ensures.valid
    c.args.one c.args.other (sym c.are_both_numbers.ensures.numbers ∙ c.if-not-are_both_numbers.false)
    (sym c.may_order.ensures ∙ c.if-not-may_order.false)).0

pub on_pair-requires-clause-conflict : goal.on_pair-requires-clause-conflict
on_pair-requires-clause-conflict c =
    let before = c.args.descent.now in
    (order_at c.node-node.result.now before.inst before.decisions c.node-node.ensures.node c.are_both_numbers.ensures.valid
    c.args.one c.args.other (sym c.are_both_numbers.ensures.numbers ∙ c.if-not-are_both_numbers.false)
    (sym c.may_order.ensures ∙ c.if-not-may_order.false)).1

pub returns-then-not-may_order-clause-judged : goal.returns-then-not-may_order-clause-judged
returns-then-not-may_order-clause-judged c = λ numbers.
    let one = c.args.one in
    let other = c.args.other in
    let before = c.args.descent.now in
    let node = c.node-node.ensures.node in
    subst (λ (fault : TreeKind). IsJudged before c.args.tally (Order one other) numbers before (Err fault))
    (sym (c.no_order.ensures ∙ ap no_order (c.turn.ensures ∙ ap (λ (i : InstanceView). i.turn) c.instance.ensures.same
    ∙ ap (λ (n : Node). n.inst.turn) node)))
    (pair_barred before before c.requires.live c.args.tally one other numbers
    (subst (λ (n : Node). (is_number n.inst one && is_number n.inst other) ≡ true) node
    (sym c.are_both_numbers.ensures.numbers ∙ c.if-not-are_both_numbers.false))
    (subst (λ (n : Node). may_order n.inst.turn n.inst n.decisions (one - 1) (other - 1) ≡ false) node
    (sym c.may_order.ensures ∙ c.if-not-may_order.true)))

pub returns-clause-judged : goal.returns-clause-judged
returns-clause-judged c = λ numbers.
    let one = c.args.one in
    let other = c.args.other in
    let before = c.args.descent.now in
    let node = c.node-node.ensures.node in
    let open_pair = subst (λ (n : Node). ¬ (IsSettled n.inst n.decisions (one - 1) (other - 1))) node
    (λ s. true≢false (sym (c.settled.ensures.1 s) ∙ c.if-settled.false)) in
    pair_judged before c.on_pair.new.self c.requires.live c.args.tally one other numbers
    (subst (λ (n : Node). (is_number n.inst one && is_number n.inst other) ≡ true) node
    (sym c.are_both_numbers.ensures.numbers ∙ c.if-not-are_both_numbers.false))
    (subst (λ (n : Node). may_order n.inst.turn n.inst n.decisions (one - 1) (other - 1) ≡ true) node
    (sym c.may_order.ensures ∙ c.if-not-may_order.false)) c.in_ok-now.now open_pair
    (sym c.with_branching.ensures ∙ c.in_ok-now.was) c.on_pair.ensures.nodes

pub returns-then-settled-clause-judged : goal.returns-then-settled-clause-judged
returns-then-settled-clause-judged c = λ numbers.
    let one = c.args.one in
    let other = c.args.other in
    let before = c.args.descent.now in
    let node = c.node-node.ensures.node in
    pair_decided before before c.requires.live c.args.tally one other numbers
    (subst (λ (n : Node). (is_number n.inst one && is_number n.inst other) ≡ true) node
    (sym c.are_both_numbers.ensures.numbers ∙ c.if-not-are_both_numbers.false))
    (subst (λ (n : Node). may_order n.inst.turn n.inst n.decisions (one - 1) (other - 1) ≡ true) node
    (sym c.may_order.ensures ∙ c.if-not-may_order.false))
    (subst (λ (n : Node). IsSettled n.inst n.decisions (one - 1) (other - 1)) node (c.settled.ensures.0 c.if-settled.true))

pub returns-in_err-now-clause-judged : goal.returns-in_err-now-clause-judged
returns-in_err-now-clause-judged c = λ numbers.
    let one = c.args.one in
    let other = c.args.other in
    let before = c.args.descent.now in
    let node = c.node-node.ensures.node in
    let why = c.in_err-now.field-0.0 in
    pair_too_many before before c.requires.live c.args.tally one other numbers
    (subst (λ (n : Node). (is_number n.inst one && is_number n.inst other) ≡ true) node
    (sym c.are_both_numbers.ensures.numbers ∙ c.if-not-are_both_numbers.false))
    (subst (λ (n : Node). may_order n.inst.turn n.inst n.decisions (one - 1) (other - 1) ≡ true) node
    (sym c.may_order.ensures ∙ c.if-not-may_order.false)) why
    (subst (λ (n : Node). ¬ (IsSettled n.inst n.decisions (one - 1) (other - 1))) node
    (λ s. true≢false (sym (c.settled.ensures.1 s) ∙ c.if-settled.false)))
    (sym c.with_branching.ensures ∙ c.in_err-now.was) c.from_residual.result
    (handed c.from_residual.result why c.from_residual.ensures.1)
