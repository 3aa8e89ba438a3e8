use Rattle.std.proofs.Common.{◌≡◌, ◌∙◌, false, refl, sym, ap}
use Rattle.std.proofs.Math.Bool.{and-false}
use Rattle.qc_stow.specs.Moves.{is_discharge}
use Rattle.qc_tasks.specs.InstanceOf.{is_move_of, task_at}
use Rattle.qc_tasks.specs.Restows.{is_number}
use Rattle.qc_tasks.proofs.Restows.{knows_more, knows_skip, task_is}
use Rattle.qc_tasks.proofs.before.number_discharges.Goals as goal
use Rattle.qc_tasks.proofs.before.number_discharges.Goals.{then-is_discharge+in-Some+in_ok-insert, then-is_discharge+in_default, else-is_discharge}

pub loop-row-preserved : goal.loop-row-preserved
loop-row-preserved c =
    let tasks = c.args.tasks.now in
    let rows = c.args.rows.now in
    let row = c.row-item.result in
    elim c.if-is_discharge.branch [
      | then-is_discharge+in-Some+in_ok-insert w ↦
          rw w.numbers-is
          (knows_more tasks rows c.loop-row.row-index row c.loop-row.numbers.entries c.loop-row-test.true c.row-item.is c.loop-row.invariant
          c.requires.tasks c.requires.moves (sym c.is_discharge.ensures ∙ w.if-is_discharge.true) w.in-Some.number (sym w.task_with.ensures ∙ w.in-Some.is) _
          (λ id. rw w.as_bytes.ensures.bytes at (w.in_ok-insert.ensures.updates.0 (record { ref_ptr = w.as_bytes.result.ref_ptr; now = id }))))
      | then-is_discharge+in_default w ↦
          rw w.numbers-is
          (knows_skip tasks rows c.loop-row.row-index row c.loop-row.numbers.entries c.loop-row-test.true c.row-item.is c.loop-row.invariant (λ i il.
          let other : is_move_of (task_at tasks i) row ≡ false = sym (task_is tasks c.requires.tasks row i il) ∙ ap (is_number i) (sym w.task_with.ensures ∙ w.in_default.is) in
          rw other (and-false (is_discharge row.kind))))
      | else-is_discharge w ↦
          rw w.numbers-is
          (knows_skip tasks rows c.loop-row.row-index row c.loop-row.numbers.entries c.loop-row-test.true c.row-item.is c.loop-row.invariant (λ i il.
          let none : is_discharge row.kind ≡ false = sym c.is_discharge.ensures ∙ w.if-is_discharge.false in
          rw none refl))
    ]
