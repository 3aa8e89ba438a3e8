use Rattle.std.proofs.Common.{ap, map, sym, ◌∙◌, arith}
use Rattle.toml.specs.View.{view}
use Rattle.qc_model.specs.Instance.{no_task}
use Rattle.qc_rest_files.specs.RestShip.{is_held}
use Rattle.qc_rest_files.specs.ShipTable.{release_value}
use Rattle.qc_rest_files.proofs.ValueLemmas.{entries_all, entry_value, value_failed, value_passed}
use Rattle.qc_rest_files.proofs.names.release_values.Goals as goal
use Rattle.qc_rest_files.proofs.names.release_values.Goals.{then-is_held+in_ok-release_value+in_ok-push, else-is_held}

pub loop-j-preserved : goal.loop-j-preserved
loop-j-preserved c =
    let tasks = c.args.inst.now.tasks in
    let j = c.loop-j.j in
    let vs = c.loop-j.values.items in
    elim c.if-is_held.branch [
      | then-is_held+in_ok-release_value+in_ok-push w ↦ rw w.values-is
          (ap (map view) w.in_ok-push.ensures.items
          ∙ value_passed entry_value tasks j no_task (omega arith) vs _ is_held c.loop-j.invariant
          (ap is_held (sym c.task-task.ensures.task) ∙ sym c.is_held.ensures ∙ w.if-is_held.true)
          (w.in_ok-release_value.ensures ∙ ap release_value w.release_of.ensures ∙ ap entry_value c.task-task.ensures.task))
      | else-is_held w ↦ rw w.values-is
          (value_failed entry_value tasks j no_task (omega arith) vs is_held c.loop-j.invariant
          (ap is_held (sym c.task-task.ensures.task) ∙ sym c.is_held.ensures ∙ w.if-is_held.false))
    ]

pub returns : goal.returns
returns c = c.loop-j.invariant ∙ entries_all c.args.inst.now.tasks c.loop-j.j (omega (arith, c.task_count-j-end.ensures.count))
