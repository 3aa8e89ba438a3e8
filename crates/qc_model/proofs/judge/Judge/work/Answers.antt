use Rattle.std.proofs.Common.{◌≡◌, ℕ, ◌<◌, length, slice_index_or, ap, sym, ◌∙◌, arith}
use Rattle.qc_model.specs.declared.direction.Direction.{Direction}
use Rattle.qc_model.specs.declared.direction.Direction.TheVariants.{Up}
use Rattle.qc_model.specs.Instance.{InstanceView, no_task, bay_of}
use Rattle.qc_model.specs.Rules.{no_slot, crane_of, end_of, start_of}
use Rattle.qc_model.specs.Seen.{seen, seen_number}
use Rattle.qc_model.proofs.OnRail.{task_on_rail, read_bay, read_seen, ticks_bounded}
use Rattle.qc_model.proofs.SeenLemmas.{seen-crane_count, seen-task_count, seen-bay_of, seen-ticks_of, seen-crane_of, seen-start_of}
use Rattle.qc_model.proofs.judge.Judge.work.Goals as goal

-- a task of what is seen is one of the instance
within : (inst : InstanceView) (way : Direction) (view : InstanceView) (j : ℕ) → seen inst way ≡ view → j < length view.tasks → j < length inst.tasks
within inst way view j e h = omega (arith, h, seen-task_count inst way, ap (λ i. length i.tasks) e)

pub seen_bay-requires : goal.seen_bay-requires
seen_bay-requires c =
    let inst = c.self.inside.inst.now in
    let r = within inst c.self.inside.way _ c.args.task (ap (λ j. j.inst) c.self.view_is) c.requires in
    let e = ap (λ ts. (slice_index_or ts c.args.task no_task).bay) c.tasks.ensures.tasks in
    let h = task_on_rail inst c.tasks.ensures.valid Up c.args.task r in
    rw (read_bay _ _ e h) h

pub invariant_of-result : goal.invariant_of-result
invariant_of-result c =
    let inst = c.self.inside.inst.now in
    let way = c.self.inside.way in
    let task = c.args.task in
    let r = within inst way _ task (ap (λ j. j.inst) c.self.view_is) c.requires in
    let v = c.tasks.ensures.valid in
    let e = ap (λ ts. (slice_index_or ts task no_task).bay) c.tasks.ensures.tasks in
    let t = ap (λ ts. (slice_index_or ts task no_task).ticks) c.tasks.ensures.tasks in
    let s = ap (λ ss. (slice_index_or ss task no_slot).start) c.slots.ensures in
    let g = task_on_rail inst v Up task r in
    let h = task_on_rail inst v way task r in
    let b = ticks_bounded inst v task r in
    let p = c.self.invariant.1.start_range task r in
    record {
      on_rail = rw (read_seen inst way _ _ _ c.seen_bay.ensures e g h) h;
      bounded = omega (arith, t, s, b, p);
    }

pub returns : goal.returns
returns c =
    let inst = c.self.inside.inst.now in
    let sched = c.self.inside.sched.now in
    let way = c.self.inside.way in
    let task = c.args.task in
    let r = within inst way _ task (ap (λ j. j.inst) c.self.view_is) c.requires in
    let there : task < length sched = omega (arith, r, c.self.invariant.1.all_tasks) in
    let e = ap (λ ts. (slice_index_or ts task no_task).bay) c.tasks.ensures.tasks in
    let t = ap (λ ts. (slice_index_or ts task no_task).ticks) c.tasks.ensures.tasks in
    let s = ap (λ ss. (slice_index_or ss task no_slot).start) c.slots.ensures in
    let g = task_on_rail inst c.tasks.ensures.valid Up task r in
    let h = task_on_rail inst c.tasks.ensures.valid way task r in
    let p = seen-start_of inst sched way task there in
    let q = seen-ticks_of inst way task r in
    let w = ap (λ j. end_of j.inst j.sched task) c.self.view_is in
    record {
      crane =
          c.seen_number.ensures.number
          ∙ ap (λ ss. seen_number inst way (slice_index_or ss task no_slot).crane) c.slots.ensures
          ∙ sym (seen-crane_of inst sched way task there)
          ∙ ap (λ j. crane_of j.sched task) c.self.view_is;
      range = omega (arith, c.seen_number.ensures.range, seen-crane_count inst way, ap (λ j. length j.inst.cranes) c.self.view_is);
      bay =
          read_seen inst way _ _ _ c.seen_bay.ensures e g h ∙ sym (seen-bay_of inst way task r)
          ∙ ap (λ j. bay_of j.inst task) c.self.view_is;
      start = s ∙ sym p ∙ ap (λ j. start_of j.sched task) c.self.view_is;
      end = omega (arith, t, s, p, q, w);
    }
