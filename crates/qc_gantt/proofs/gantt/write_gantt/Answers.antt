use Rattle.std.proofs.Common.{length, ap, ◌∙◌}
use Rattle.std.specs.List.{flat_map, range_with_len}
use Rattle.qc_io.proofs.WritesLemmas.{writes_then, writes_cut}
use Rattle.qc_model.specs.Rules.{ends}
use Rattle.qc_gantt.specs.GanttText.{gantt_line, gantt_title}
use Rattle.qc_gantt.proofs.gantt.write_gantt.Goals as goal

pub returns : goal.returns
returns g c =
    let lines = flat_map (gantt_line c.args.inst.now c.args.sched.now) (range_with_len 0 (length c.args.inst.now.cranes)) in
    let title = c.as_bytes.ensures.bytes ∙ c.gantt_title.ensures ∙ ap gantt_title c.ends-end.ensures.ends in
    writes_then (g.K.Sink.view c.args.sink.now) (g.K.Sink.view c.put_all.new.sink) (g.K.Sink.view c.put_lines.new.sink)
    (gantt_title (ends c.args.inst.now c.args.sched.now)) lines c.put_lines.result
    (rw title at c.in_ok-put_all.ensures.writes) c.put_lines.ensures

pub returns-in_err-put_all : goal.returns-in_err-put_all
returns-in_err-put_all g c =
    let lines = flat_map (gantt_line c.args.inst.now c.args.sched.now) (range_with_len 0 (length c.args.inst.now.cranes)) in
    let title = c.as_bytes.ensures.bytes ∙ c.gantt_title.ensures ∙ ap gantt_title c.ends-end.ensures.ends in
    writes_cut (g.K.Sink.view c.args.sink.now) (g.K.Sink.view c.put_all.new.sink)
    (gantt_title (ends c.args.inst.now c.args.sched.now)) lines _ c.from_residual.result c.from_residual.ensures.0
    (rw title at c.in_err-put_all.ensures.writes)
