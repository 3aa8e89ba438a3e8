use Rattle.std.proofs.Common.{◌≡◌, true, false, length, ap, sym, arith}
use Rattle.qc_close.specs.Model.{InstanceView, reaches}
use Rattle.qc_dist.proofs.Ranges.{any_fails, any_passes}
use Rattle.qc_close.proofs.crew.Crew.is_in_reach.Goals as goal

pub returns-then-in_reach : goal.returns-then-in_reach
returns-then-in_reach c =
    let test = reaches c.args.self.now.inst c.args.task in
    let passes : test c.loop-crane.crane ≡ true = cc in
    sym (any_passes test (length c.args.self.now.inst.cranes) c.loop-crane.crane
    (omega (arith, ap (λ (i : InstanceView). length i.cranes) c.instance-inst.ensures.same)) passes)

pub loop-crane-preserved : goal.loop-crane-preserved
loop-crane-preserved c =
    let test = reaches c.args.self.now.inst c.args.task in
    let fails : test c.loop-crane.crane ≡ false = cc in
    any_fails test c.loop-crane.crane c.loop-crane.invariant fails
