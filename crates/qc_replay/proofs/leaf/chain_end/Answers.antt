use Rattle.std.proofs.Common.{◌-◌, ◌∙◌, ap, sym, arith}
use Rattle.qc_close.specs.Model.{Task, ticks_of, chain_end}
use Rattle.qc_replay.specs.Walk.{from_file}
use Rattle.qc_replay.proofs.LeafFacts.{end_is, no_end}
use Rattle.qc_replay.proofs.leaf.chain_end.Goals as goal

pub returns-in_err-last : goal.returns-in_err-last
returns-in_err-last c =
    let ds = c.args.node.now.decisions in
    let tasks = from_file c.in-Some.rest.now in
    c.from_residual.ensures
    ∙ sym (no_end c.args.node.now.inst ds (c.in-Some.number.now - 1) tasks c.in_err-last.ensures.way)
    ∙ ap (λ numbers. chain_end c.args.node.now.inst ds (from_file numbers)) (sym c.in-Some.ensures.cases.0)

pub returns : goal.returns
returns c =
    let ds = c.args.node.now.decisions in
    let tasks = from_file c.in-Some.rest.now in
    sym (end_is c.args.node.now.inst ds (c.in-Some.number.now - 1) tasks c.in_ok-last.last c.in_ok-last.ticks _
    c.in_ok-last.ensures.way (omega (arith, c.lead.ensures.ticks, ap (λ (t : Task). t.ticks) c.task.ensures.task ∙ ap (λ i. ticks_of i c.in_ok-last.last) c.instance.ensures.same)))
    ∙ ap (λ numbers. chain_end c.args.node.now.inst ds (from_file numbers)) (sym c.in-Some.ensures.cases.0)
