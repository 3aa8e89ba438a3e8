use Rattle.std.proofs.Common.{slice_index, length, ap, arith}
use Rattle.qc_model.specs.Instance.{InstanceView}
use Rattle.qc_rest.proofs.LastLemmas.{last_all, last_first, last_more}
use Rattle.qc_rest.proofs.last.last_gone.Goals as goal

pub loop-j-init : goal.loop-j-init
loop-j-init c = last_first c.args.work.now (slice_index c.args.goes.now) _ c.now-last.ensures.now

pub loop-j-preserved : goal.loop-j-preserved
loop-j-preserved c =
    last_more c.args.work.now (slice_index c.args.goes.now) c.loop-j.j c.loop-j.last c.gone_end.result c.max-last.result c.gone_end.ensures.by c.max-last.ensures
    c.loop-j.invariant

pub returns : goal.returns
returns c =
    last_all c.args.work.now (slice_index c.args.goes.now) c.loop-j.j c.loop-j.last
    (omega (arith, c.loop-j-test.false, c.task_count-j-end.ensures.count, ap (λ (i : InstanceView). length i.tasks) c.instance.ensures)) c.loop-j.invariant
