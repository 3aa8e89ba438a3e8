use Rattle.std.proofs.Common.{◌+◌, None, replicate, length, ap, ◌∙◌, ℕ, arith}
use Rattle.qc_model.specs.Instance.{InstanceView}
use Rattle.qc_model.specs.Numbers.{most_distance, most_ready}
use Rattle.qc_rest.specs.Passed.{most_first}
use Rattle.qc_rest.specs.Passing.{EndBy}
use Rattle.qc_rest.proofs.FollowLemmas.{bare_ends, bare_room, followed}
use Rattle.qc_rest.proofs.order.starts_of.Goals as goal

pub run-requires-clause-plan : goal.run-requires-clause-plan
run-requires-clause-plan c = rw (c.instance-2.ensures, c.requires.plan) c.requires.known.feasible

pub run-requires-clause-marks : goal.run-requires-clause-marks
run-requires-clause-marks c = rw c.instance-2.ensures c.requires.marks

pub run-requires-clause-few : goal.run-requires-clause-few
run-requires-clause-few c = omega (arith, c.requires.known.valid.tasks.count, ap (λ (i : InstanceView). length i.tasks) c.instance-2.ensures)

pub run-requires-clause-room : goal.run-requires-clause-room
run-requires-clause-room c = rw c.instance-2.ensures (bare_room c.args.journal.now.dispatch c.args.rest.now _ (record {
  left_are = c.in_ok-left_marks.ensures;
  starts_are = c.in_ok-first_starts.ensures.starts;
  ends_are = c.in_ok-no_ends.ensures ∙ ap (λ (n : ℕ). replicate n None) (c.task_count.ensures.count ∙ ap (λ (i : InstanceView). length i.tasks) c.instance.ensures);
}))

pub run-requires-clause-starts : goal.run-requires-clause-starts
run-requires-clause-starts c = λ j. omega (arith, c.in_ok-first_starts.ensures.soon j)

pub run-requires-clause-ends : goal.run-requires-clause-ends
run-requires-clause-ends c = bare_ends (length c.args.journal.now.dispatch.inst.tasks) most_first _ (c.in_ok-no_ends.ensures ∙ ap (λ (n : ℕ). replicate n None) (c.task_count.ensures.count ∙ ap (λ (i : InstanceView). length i.tasks) c.instance.ensures))

pub returns-clause-count : goal.returns-clause-count
returns-clause-count c = c.run.ensures.room.starts ∙ ap (λ (i : InstanceView). length i.tasks) c.instance-2.ensures

pub returns-clause-followed : goal.returns-clause-followed
returns-clause-followed c = followed c.args.journal.now.dispatch c.args.rest.now _ (record {
  left_are = c.in_ok-left_marks.ensures;
  starts_are = c.in_ok-first_starts.ensures.starts;
  ends_are = c.in_ok-no_ends.ensures ∙ ap (λ (n : ℕ). replicate n None) (c.task_count.ensures.count ∙ ap (λ (i : InstanceView). length i.tasks) c.instance.ensures);
}) _ (rw (c.instance-2.ensures, c.requires.plan) at c.run.ensures)

pub returns-clause-soon : goal.returns-clause-soon
returns-clause-soon c =
    let none : (m : ℕ) → EndBy c.in_ok-no_ends.field-0.items m = λ m. bare_ends (length c.args.journal.now.dispatch.inst.tasks) m c.in_ok-no_ends.field-0.items (c.in_ok-no_ends.ensures ∙ ap (λ (n : ℕ). replicate n None) (c.task_count.ensures.count ∙ ap (λ (i : InstanceView). length i.tasks) c.instance.ensures)) in
    (c.run.ensures.soon (most_ready + most_distance) c.in_ok-first_starts.ensures.soon (none (most_ready + most_distance))).0
