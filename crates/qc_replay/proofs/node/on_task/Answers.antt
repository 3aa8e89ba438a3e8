use Rattle.std.proofs.Common.{◌≡◌, ◌∙◌, ◌-◌, ℕ, Option, ap, is_some, subst, sym, true}
use Rattle.qc_dist.specs.Node.{Node}
use Rattle.qc_model.specs.Nodes.{assigned}
use Rattle.qc_replay.specs.Walk.{is_number}
use Rattle.qc_replay.proofs.FileFacts.{handed}
use Rattle.qc_replay.proofs.NodeFacts.{none_of, task_decided, task_judged, task_too_many}
use Rattle.qc_replay.proofs.node.on_task.Goals as goal

pub returns-clause-judged : goal.returns-clause-judged
returns-clause-judged c = λ numbers.
    let free = sym (ap (λ (n : Node). assigned n.decisions (c.args.number - 1)) c.node-node.ensures.node) ∙ sym c.crane_of.ensures.crane
    ∙ none_of c.crane_of.result (sym c.is_some.ensures ∙ c.if-is_some.false) in
    task_judged c.args.descent.now c.on_task.new.self c.requires.live
    c.args.tally c.args.number numbers
    (subst (λ (n : Node). is_number n.inst c.args.number ≡ true) c.node-node.ensures.node
    (sym c.is_number.ensures.number ∙ c.if-not-is_number.false)) c.in_ok-now.now free
    (sym c.with_branching.ensures ∙ c.in_ok-now.was) c.on_task.ensures.nodes

pub returns-then-is_some-clause-judged : goal.returns-then-is_some-clause-judged
returns-then-is_some-clause-judged c = λ numbers.
    let before = c.args.descent.now in
    let task = c.args.number - 1 in
    task_decided before before c.requires.live c.args.tally c.args.number numbers
    (subst (λ (n : Node). is_number n.inst c.args.number ≡ true) c.node-node.ensures.node
    (sym c.is_number.ensures.number ∙ c.if-not-is_number.false))
    (subst (λ (n : Node). is_some (assigned n.decisions task) ≡ true) c.node-node.ensures.node
    (subst (λ (o : Option ℕ). is_some o ≡ true) c.crane_of.ensures.crane (sym c.is_some.ensures ∙ c.if-is_some.true)))

pub returns-in_err-now-clause-judged : goal.returns-in_err-now-clause-judged
returns-in_err-now-clause-judged c = λ numbers.
    let before = c.args.descent.now in
    let why = c.in_err-now.field-0.0 in
    let free = sym (ap (λ (n : Node). assigned n.decisions (c.args.number - 1)) c.node-node.ensures.node) ∙ sym c.crane_of.ensures.crane
    ∙ none_of c.crane_of.result (sym c.is_some.ensures ∙ c.if-is_some.false) in
    task_too_many before before c.requires.live c.args.tally c.args.number numbers
    (subst (λ (n : Node). is_number n.inst c.args.number ≡ true) c.node-node.ensures.node
    (sym c.is_number.ensures.number ∙ c.if-not-is_number.false)) why free
    (sym c.with_branching.ensures ∙ c.in_err-now.was) c.from_residual.result
    (handed c.from_residual.result why c.from_residual.ensures.1)
