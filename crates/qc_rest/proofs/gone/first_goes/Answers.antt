use Rattle.std.proofs.Common.{◌≡◌, ◌∙◌, List, ap, arith}
use Rattle.qc_model.specs.declared.schedule.Slot.{Slot}
use Rattle.qc_model.specs.Instance.{InstanceView}
use Rattle.qc_model.specs.Nodes.{free}
use Rattle.qc_model.specs.Rules.{crane_of}
use Rattle.qc_rest.specs.Going.{first_go}
use Rattle.qc_rest.specs.Passed.{most_first}
use Rattle.qc_rest.proofs.KeptLemmas.{made_step, start_push}
use Rattle.qc_rest.proofs.gone.first_goes.Goals as goal

pub loop-task-preserved : goal.loop-task-preserved
loop-task-preserved c =
    let task = c.loop-task.task in
    let e = c.head-free.ensures.ticks
    ∙ ap (λ (i : InstanceView). free i task (crane_of c.args.slots.now task)) c.instance-inst.ensures
    ∙ ap (λ (xs : List Slot). free c.args.journal.now.dispatch.inst task (crane_of xs task)) c.requires.plan in
    let is : c.max.result ≡ first_go c.args.journal.now.dispatch task = omega (arith, c.max.ensures, e, c.now-now.ensures.now) in record {
      items = made_step (first_go c.args.journal.now.dispatch) task c.max.result c.loop-task.firsts.items _ is c.loop-task.invariant.items c.in_ok-push.ensures.items;
      soon = start_push most_first c.loop-task.firsts.items _ c.max.result c.loop-task.invariant.soon
          (omega (arith, c.max.ensures, c.head-free.ensures.bound, c.now-now.ensures.now, c.requires.known.early)) c.in_ok-push.ensures.items;
    }
