use Rattle.std.proofs.Common.{subst, sym}
use Rattle.qc_model.specs.Instance.{InstanceView}
use Rattle.qc_model.specs.Judge.{IsJudgeable}
use Rattle.qc_search.proofs.OutcomeLemmas.{of_some}
use Rattle.qc_plan_command.proofs.AheadLemmas.{judgeable_back}
use Rattle.qc_plan_command.proofs.ahead.best_of.Goals as goal

pub way_of-requires : goal.way_of-requires
way_of-requires c =
    let sched = c.in_ok-sched.sched in
    let best = of_some (IsJudgeable c.args.search.inst) c.in-Ok.done.best sched (sym c.in_ok-sched.ensures)
    c.in-Ok.ensures.sound.judgeable in
    judgeable_back c.args.inst.now sched (subst (λ (i : InstanceView). IsJudgeable i sched) c.requires best)

pub returns-in-Ok-way_of : goal.returns-in-Ok-way_of
returns-in-Ok-way_of c =
    let sched = c.in_ok-sched.sched in
    let best = of_some (IsJudgeable c.args.search.inst) c.in-Ok.done.best sched (sym c.in_ok-sched.ensures)
    c.in-Ok.ensures.sound.judgeable in
    record {
      judgeable = judgeable_back c.args.inst.now sched (subst (λ (i : InstanceView). IsJudgeable i sched) c.requires best);
      seen = c.in-Ok-way_of.ensures.seen;
    }
