use Rattle.std.proofs.Common.{◌≡◌, ◌∙◌, ap}
use Rattle.qc_run.proofs.ReportLemmas.{head_cut, lines_behind}
use Rattle.qc_judge_commands.specs.Texts.{head_text, shown_head}
use Rattle.qc_judge_commands.proofs.shown.put_motion.Goals as goal

pub returns-in_err-put_all : goal.returns-in_err-put_all
returns-in_err-put_all g c =
    let inst = c.args.inst.now in
    let sched = c.args.sched.now in
    let way = c.args.direction in
    let text : c.as_bytes.result.now ≡ shown_head inst sched way = c.as_bytes.ensures.bytes ∙ c.head_text.ensures ∙ ap (head_text way) c.ends.ensures.ends in
    head_cut (g.K.Sink.view c.args.out.now) (g.K.Sink.view c.put_all.new.sink) (shown_head inst sched way) inst sched way _
    c.from_residual.result c.from_residual.ensures.0 (rw text at c.in_err-put_all.ensures.writes)

pub returns : goal.returns
returns g c =
    let inst = c.args.inst.now in
    let sched = c.args.sched.now in
    let way = c.args.direction in
    let text : c.as_bytes.result.now ≡ shown_head inst sched way = c.as_bytes.ensures.bytes ∙ c.head_text.ensures ∙ ap (head_text way) c.ends.ensures.ends in
    lines_behind (g.K.Sink.view c.args.out.now) (g.K.Sink.view c.write_tracks.new.sink) (shown_head inst sched way) inst sched way
    (g.K.Sink.view c.put_all.new.sink) c.write_tracks.result (rw text at c.in_ok-put_all.ensures.writes) c.write_tracks.ensures.writes
