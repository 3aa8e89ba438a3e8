use Rattle.std.proofs.Common.{rules, codes}
use Rattle.std.specs.List.{flat_map, zip}
use Rattle.qc_io.proofs.WritesLemmas.{writes_then, writes_cut}
use Rattle.qc_gantt.specs.PlanText.{plan_line}
use Rattle.qc_gantt.proofs.RereadLemmas.{reread_ok}
use Rattle.qc_gantt.proofs.writer.write_plan.Goals as goal

pub returns-clause-writes : goal.returns-clause-writes
returns-clause-writes g c =
    writes_then (g.K.Sink.view c.args.sink.now) (g.K.Sink.view c.put_all.new.sink) (g.K.Sink.view c.put_lines.new.sink) (codes "task,crane,start,end\n")
    (flat_map (λ line. plan_line c.args.inst.now line.0 line.1) (zip c.args.inst.now.tasks c.args.sched.now)) c.put_lines.result
    c.in_ok-put_all.ensures.writes c.put_lines.ensures.writes

pub returns-in_err-put_all-clause-writes : goal.returns-in_err-put_all-clause-writes
returns-in_err-put_all-clause-writes g c =
    writes_cut (g.K.Sink.view c.args.sink.now) (g.K.Sink.view c.put_all.new.sink) (codes "task,crane,start,end\n")
    (flat_map (λ line. plan_line c.args.inst.now line.0 line.1) (zip c.args.inst.now.tasks c.args.sched.now)) _ c.from_residual.result
    (search rules) c.in_err-put_all.ensures.writes

pub returns-clause-reread : goal.returns-clause-reread
returns-clause-reread g c =
    reread_ok c.args.inst.now c.args.sched.now c.put_lines.result c.put_lines.ensures.valid c.requires c.put_lines.ensures.hatches c.put_lines.ensures.names
