use Rattle.std.proofs.lemmas.Grind.{common_steps}
use Rattle.std.proofs.Common.{◌≡◌, ◌+◌, ◌*◌, Some, ap, sym, ◌∙◌, arith}
use Rattle.qc_close.specs.Model.{InstanceView, ticks_over, pack}
use Rattle.qc_close.proofs.LoopLemmas.{least_steps}
use Rattle.qc_close.proofs.SpanLemmas.{pack_found, pack_is, packed_few, packed_stacked}
use Rattle.qc_close.proofs.crew.Crew.pack.Goals.{After-travel_over}
use Rattle.qc_close.proofs.crew.Crew.pack.Goals as goal

pub span-requires-clause-stacked : goal.span-requires-clause-stacked
span-requires-clause-stacked c =
    let inst = c.args.self.now.inst in
    let steps = least_steps inst c.instance-inst.ensures.valid in
    packed_stacked inst c.args.self.now.cranes c.args.tasks.now (sym c.is_packed.ensures ∙ c.if-not-is_packed.false)
    c.instance-inst.ensures.range steps.0 steps.1

pub ticks-requires-clause-few : goal.ticks-requires-clause-few
ticks-requires-clause-few c =
    packed_few c.args.self.now.inst c.args.self.now.cranes c.args.tasks.now (sym c.is_packed.ensures ∙ c.if-not-is_packed.false)

pub returns-in-None-clause-ticks : goal.returns-in-None-clause-ticks
returns-in-None-clause-ticks c =
    absurd (pack_found c.args.self.now.inst c.args.self.now.cranes c.instance-inst.ensures.range c.args.tasks.now
    (sym c.is_packed.ensures ∙ c.if-not-is_packed.false) c.in-None.ensures.found)

answered : (c : After-travel_over)
    → Some (c.ticks.result + c.travel_over.result) ≡ pack c.args.self.now.inst c.args.self.now.cranes c.args.tasks.now
answered c =
    let inst = c.args.self.now.inst in
    let travel = ap (λ (i : InstanceView). i.travel * c.in-Some.span) c.instance-inst.ensures.same in
    let sum : c.ticks.result + c.travel_over.result ≡ ticks_over inst c.args.tasks.now + inst.travel * c.in-Some.span = omega (arith, travel, c.ticks.ensures.ticks, c.travel_over.ensures.ticks) in
    ap Some sum
    ∙ sym (pack_is inst c.args.self.now.cranes c.instance-inst.ensures.range c.args.tasks.now c.in-Some.span
    (sym c.is_packed.ensures ∙ c.if-not-is_packed.false) c.in-Some.ensures.stretch c.in-Some.ensures.found)

pub returns-in-Some-clause-ticks : goal.returns-in-Some-clause-ticks
returns-in-Some-clause-ticks c = answered c

pub ticks-requires-clause-tasks : goal.ticks-requires-clause-tasks
ticks-requires-clause-tasks c = grind (arith, common_steps)

pub span-requires-clause-tasks : goal.span-requires-clause-tasks
span-requires-clause-tasks c = grind (arith, common_steps)
