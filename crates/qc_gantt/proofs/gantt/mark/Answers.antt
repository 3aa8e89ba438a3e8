use Rattle.std.proofs.Common.{◌≡◌, ◌∷◌, [], ℕ, true, false, length, drop, Option, ap, sym, subst, ◌∙◌, rules, arith, length-append, find}
use Rattle.std.specs.List.{zip}
use Rattle.std.specs.Option.{option_map_or}
use Rattle.std.proofs.lemmas.Slice.Zip.{zip_turn, zip_end, length-zip}
use Rattle.std.proofs.lemmas.List.{drop_all}
use Rattle.qc_model.specs.declared.task.Task.{Task}
use Rattle.qc_model.specs.declared.schedule.Slot.{Slot}
use Rattle.qc_gantt.specs.GanttText.{is_at, letter}
use Rattle.qc_gantt.proofs.GanttLemmas.{find_turn}
use Rattle.qc_gantt.proofs.gantt.mark.Goals as goal

pub returns-then-is_at : goal.returns-then-is_at
returns-then-is_at c =
    let tasks = c.args.inst.now.tasks in
    let slots = c.args.sched.now in
    let turn = zip_turn tasks slots c.loop-task.yielded _ c.loop-task.task-iterator c.next.new.self c.next.result (search rules) (search rules) c.loop-task.yielded_by (c.in-Some.task, c.in-Some.slot) c.in-Some.is c.next.ensures.steps in
    let found = find_turn (λ (l : Task × Slot). is_at c.args.crane c.args.at l.0 l.1) tasks slots (length c.loop-task.yielded)
    c.in-Some.task.now c.in-Some.slot.now true turn.0 turn.1 (turn.2 _) (turn.3 _) (sym c.if-is_at.true ∙ c.is_at.ensures) in
    c.letter.ensures
    ∙ ap (λ (o : Option (Task × Slot)). option_map_or (λ l. letter l.0.phase) o 46) (sym found ∙ c.loop-task.invariant)

pub loop-task-preserved : goal.loop-task-preserved
loop-task-preserved c =
    let tasks = c.args.inst.now.tasks in
    let slots = c.args.sched.now in
    let p = λ (l : Task × Slot). is_at c.args.crane c.args.at l.0 l.1 in
    let turn = zip_turn tasks slots c.loop-task.yielded _ c.loop-task.task-iterator c.next.new.self c.next.result (search rules) (search rules) c.loop-task.yielded_by (c.in-Some.task, c.in-Some.slot) c.in-Some.is c.next.ensures.steps in
    let on = find_turn p tasks slots (length c.loop-task.yielded)
    c.in-Some.task.now c.in-Some.slot.now false turn.0 turn.1 (turn.2 _) (turn.3 _) (sym c.if-is_at.false ∙ c.is_at.ensures) in
    subst (λ (n : ℕ). find p (drop n (zip tasks slots)) ≡ find p (zip tasks slots))
    (sym (length-append c.loop-task.yielded ((c.in-Some.task, c.in-Some.slot) ∷ [])))
    (sym on ∙ c.loop-task.invariant)

pub returns : goal.returns
returns c =
    let tasks = c.args.inst.now.tasks in
    let slots = c.args.sched.now in
    let p = λ (l : Task × Slot). is_at c.args.crane c.args.at l.0 l.1 in
    let many = zip_end tasks slots c.loop-task.yielded _ c.loop-task.task-iterator c.next.new.self c.next.result (search rules) (search rules) c.loop-task.yielded_by c.in-None.is c.next.ensures.steps in
    let none = ap (find p) (sym (drop_all (length c.loop-task.yielded) (zip tasks slots) (omega (arith, length-zip tasks slots, many)))) in
    ap (λ (o : Option (Task × Slot)). option_map_or (λ l. letter l.0.phase) o 46) (none ∙ c.loop-task.invariant)
