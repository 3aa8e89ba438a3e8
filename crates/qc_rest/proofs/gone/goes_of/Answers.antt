use Rattle.std.proofs.Common.{length, ap, ◌∙◌, arith}
use Rattle.qc_dispatch.specs.Following.{journal_of}
use Rattle.qc_model.specs.Instance.{InstanceView}
use Rattle.qc_rest.specs.Passed.{most_first}
use Rattle.qc_rest.proofs.GoneLemmas.{first_room, gone_on}
use Rattle.qc_rest.proofs.gone.goes_of.Goals as goal

pub run-requires-clause-plan : goal.run-requires-clause-plan
run-requires-clause-plan c = rw (c.instance.ensures, c.requires.plan) c.requires.known.feasible

pub run-requires-clause-marks : goal.run-requires-clause-marks
run-requires-clause-marks c = rw c.instance.ensures c.requires.marks

pub run-requires-clause-few : goal.run-requires-clause-few
run-requires-clause-few c = omega (arith, c.requires.known.valid.tasks.count, ap (λ (i : InstanceView). length i.tasks) c.instance.ensures)

pub run-requires-clause-room : goal.run-requires-clause-room
run-requires-clause-room c = rw c.instance.ensures (first_room (journal_of c.args.journal.now) _ (record {
  left_are = c.in_ok-left_marks.ensures;
  starts_are = c.in_ok-first_goes.ensures.firsts;
  ends_are = c.in_ok-first_ends.ensures.ends;
}))

pub run-requires-clause-starts : goal.run-requires-clause-starts
run-requires-clause-starts c = c.in_ok-first_goes.ensures.soon

pub run-requires-clause-ends : goal.run-requires-clause-ends
run-requires-clause-ends c = c.in_ok-first_ends.ensures.soon

pub returns-clause-count : goal.returns-clause-count
returns-clause-count c = c.run.ensures.room.starts ∙ ap (λ (i : InstanceView). length i.tasks) c.instance.ensures

pub returns-clause-goes : goal.returns-clause-goes
returns-clause-goes c = gone_on (journal_of c.args.journal.now) _ (record {
  left_are = c.in_ok-left_marks.ensures;
  starts_are = c.in_ok-first_goes.ensures.firsts;
  ends_are = c.in_ok-first_ends.ensures.ends;
}) _ (rw (c.instance.ensures, c.requires.plan) at c.run.ensures)

pub returns-clause-soon : goal.returns-clause-soon
returns-clause-soon c = (c.run.ensures.soon most_first c.in_ok-first_goes.ensures.soon c.in_ok-first_ends.ensures.soon).0
