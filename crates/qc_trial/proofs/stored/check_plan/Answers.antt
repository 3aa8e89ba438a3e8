use Rattle.std.proofs.Common.{◌≡◌, subst, sym}
use Rattle.qc_model.specs.declared.turn.Turn.{Turn}
use Rattle.qc_model.specs.OneWay.{GoesOneWay, IsAllowedBy}
use Rattle.qc_trial.proofs.stored.check_plan.Goals as goal

pub returns : goal.returns
returns c = λ sched stored goes.
    let read = c.in_ok-sched.ensures.sched sched stored in
    let same : c.in-Some.sched ≡ sched = cc (read, c.in-Some.is) in
    let one_way = subst (λ (t : Turn). IsAllowedBy t c.args.inst.now sched) c.requires goes in
    absurd (cc (c.in-Err.ensures.one_way.1 (subst (GoesOneWay c.args.inst.now) (sym same) one_way)))
