use Rattle.std.proofs.Common.{◌<◌, ◌^◌, ℕ, IsTrue, length, take, Ok}
use Rattle.qc_model.specs.Instance.{crane, task}
use Rattle.qc_model.specs.Names.{is_name}
use Rattle.qc_model.specs.Rules.{crane_of}
use Rattle.std.specs.List.{flat_map, zip}
use Rattle.qc_io.specs.Writes.{Writes}
use Rattle.qc_gantt.specs.PlanText.{plan_line}
use Rattle.qc_gantt.proofs.writer.put_lines.Given as goal

abbrev pub invariant-loop-task : goal.invariant-loop-task
invariant-loop-task g l =
    record {
      writes : Writes (g.K.Sink.view l.initial.sink) (g.K.Sink.view l.sink)
          (flat_map (λ line. plan_line l.inst line.0 line.1) (take (length l.yielded) (zip l.inst.tasks l.sched))) (Ok tt);
      hatches : (j : ℕ) → j < length l.yielded → (task l.inst j).hatch < 2 ^ 16;
      names : (j : ℕ) → j < length l.yielded → IsTrue (is_name (crane l.inst (crane_of l.sched j)).name);
    }
