use Rattle.qc_model.specs.Names.{is_name}
use Rattle.std.proofs.lemmas.Bool.{cases_lt}
use Rattle.std.proofs.Common.{IsTrue, inl, inr, ◌^◌, ◌<◌, ◌≡◌, ◌∷◌, [], length, take, Ok, subst, sym, ap, ◌∙◌, rules, arith, length-append, get_or, List, ℕ}
use Rattle.std.specs.List.{flat_map, zip}
use Rattle.std.proofs.lemmas.Slice.Zip.{zip_turn, zip_end, get_or-zip, length-zip}
use Rattle.std.proofs.lemmas.List.{take_all}
use Rattle.qc_io.specs.Writes.{Writes}
use Rattle.qc_io.proofs.WritesLemmas.{items_more, items_cut}
use Rattle.qc_model.specs.declared.task.Task.{Task}
use Rattle.qc_model.specs.declared.schedule.Slot.{Slot}
use Rattle.qc_model.proofs.OnRail.{ticks_bounded}
use Rattle.qc_model.specs.Instance.{InstanceView, crane, no_task, task}
use Rattle.qc_model.specs.Rules.{crane_of, no_slot}
use Rattle.qc_gantt.specs.PlanText.{plan_line}
use Rattle.qc_gantt.proofs.writer.put_lines.Goals as goal

-- the line of the task and the slot at i is that of the pair at i
line_at :
    (inst : InstanceView) (tasks : List Task) (slots : List Slot) (i : ℕ) (t : Task) (s : Slot) (lt : i < length tasks) (ls : i < length slots)
    → t ≡ get_or tasks i t → s ≡ get_or slots i s
    → plan_line inst t s ≡ (let p = get_or (zip tasks slots) i (t, s) in plan_line inst p.0 p.1)
line_at inst tasks slots i t s lt ls et es =
    ap (λ (x : Task). plan_line inst x s) et ∙ ap (λ (y : Slot). plan_line inst (get_or tasks i t) y) es
    ∙ ap (λ (p : Task × Slot). plan_line inst p.0 p.1) (sym (get_or-zip tasks slots i (t, s) lt ls))

pub loop-task-preserved : goal.loop-task-preserved
loop-task-preserved g c =
    let tasks = c.args.inst.now.tasks in
    let slots = c.args.sched.now in
    let turn = zip_turn tasks slots c.loop-task.yielded _ c.loop-task.task-iterator c.next.new.self c.next.result (search rules) (search rules) c.loop-task.yielded_by (c.in-Some.task, c.in-Some.slot) c.in-Some.is c.next.ensures.steps in
    let n = length c.loop-task.yielded in
    let more = length-append c.loop-task.yielded ((c.in-Some.task, c.in-Some.slot) ∷ []) in
    let slot = c.in-Some.slot.now in
    record {
      writes = subst (λ n. Writes (g.K.Sink.view c.args.sink.now) (g.K.Sink.view c.put_line.new.sink)
          (flat_map (λ line. plan_line c.args.inst.now line.0 line.1) (take n (zip tasks slots))) (Ok tt))
          (sym (length-append c.loop-task.yielded ((c.in-Some.task, c.in-Some.slot) ∷ [])))
          (items_more (λ line. plan_line c.args.inst.now line.0 line.1) (zip tasks slots)
          (length c.loop-task.yielded) (c.in-Some.task.now, c.in-Some.slot.now) (g.K.Sink.view c.args.sink.now) (g.K.Sink.view c.loop-task.sink) (g.K.Sink.view c.put_line.new.sink) _
          (omega (arith, length-zip tasks slots, turn.0, turn.1))
          (line_at c.args.inst.now tasks slots (length c.loop-task.yielded) c.in-Some.task.now c.in-Some.slot.now turn.0 turn.1 (turn.2 _) (turn.3 _))
          c.loop-task.invariant.writes c.in_ok-put_line.ensures.writes);
      hatches = λ j jl. elim (cases_lt j n) [
        | inl before ↦ c.loop-task.invariant.hatches j before
        | inr after ↦
            let same : n ≡ j = omega (arith, more) in
            subst (λ k. (task c.args.inst.now k).hatch < 2 ^ 16) same (subst (λ (t : Task). t.hatch < 2 ^ 16) (turn.2 no_task) c.in_ok-put_line.ensures.hatch)
      ];
      names = λ j jl. elim (cases_lt j n) [
        | inl before ↦ c.loop-task.invariant.names j before
        | inr after ↦
            let same : n ≡ j = omega (arith, more) in
            subst (λ k. IsTrue (is_name (crane c.args.inst.now (crane_of slots k)).name)) same
            (subst (λ (s : Slot). IsTrue (is_name (crane c.args.inst.now s.crane).name)) (turn.3 no_slot) c.in_ok-put_line.ensures.name)
      ];
    }

pub returns-in_err-put_line-clause-writes : goal.returns-in_err-put_line-clause-writes
returns-in_err-put_line-clause-writes g c =
    let tasks = c.args.inst.now.tasks in
    let slots = c.args.sched.now in
    let turn = zip_turn tasks slots c.loop-task.yielded _ c.loop-task.task-iterator c.next.new.self c.next.result (search rules) (search rules) c.loop-task.yielded_by (c.in-Some.task, c.in-Some.slot) c.in-Some.is c.next.ensures.steps in
    items_cut (λ line. plan_line c.args.inst.now line.0 line.1) (zip tasks slots)
    (length c.loop-task.yielded) (c.in-Some.task.now, c.in-Some.slot.now) (g.K.Sink.view c.args.sink.now) (g.K.Sink.view c.loop-task.sink) (g.K.Sink.view c.put_line.new.sink) _
    _ c.from_residual.result (search rules)
    (omega (arith, length-zip tasks slots, turn.0, turn.1))
    (line_at c.args.inst.now tasks slots (length c.loop-task.yielded) c.in-Some.task.now c.in-Some.slot.now turn.0 turn.1 (turn.2 _) (turn.3 _))
    c.loop-task.invariant.writes c.in_err-put_line.ensures.writes

pub put_line-requires-clause-end : goal.put_line-requires-clause-end
put_line-requires-clause-end g c =
    let tasks = c.args.inst.now.tasks in
    let slots = c.args.sched.now in
    let turn = zip_turn tasks slots c.loop-task.yielded _ c.loop-task.task-iterator c.next.new.self c.next.result (search rules) (search rules) c.loop-task.yielded_by (c.in-Some.task, c.in-Some.slot) c.in-Some.is c.next.ensures.steps in
    let i = length c.loop-task.yielded in
    omega (arith, ap (λ (s : Slot). s.start) (turn.3 no_slot), ap (λ (t : Task). t.ticks) (turn.2 no_task), c.requires.start_range i turn.0, ticks_bounded c.args.inst.now c.tasks.ensures.valid i turn.0)

pub returns : goal.returns
returns g c =
    let tasks = c.args.inst.now.tasks in
    let slots = c.args.sched.now in
    let many = zip_end tasks slots c.loop-task.yielded _ c.loop-task.task-iterator c.next.new.self c.next.result (search rules) (search rules) c.loop-task.yielded_by c.in-None.is c.next.ensures.steps in
    record {
      writes = subst (λ ls. Writes (g.K.Sink.view c.args.sink.now) (g.K.Sink.view c.loop-task.sink)
          (flat_map (λ line. plan_line c.args.inst.now line.0 line.1) ls) (Ok tt))
          (take_all (length c.loop-task.yielded) (zip tasks slots) (omega (arith, length-zip tasks slots, many))) c.loop-task.invariant.writes;
      valid = c.tasks.ensures.valid;
      hatches = λ j jl. c.loop-task.invariant.hatches j (omega (arith, many, c.requires.all_tasks));
      names = λ j jl. c.loop-task.invariant.names j (omega (arith, many, c.requires.all_tasks));
    }
