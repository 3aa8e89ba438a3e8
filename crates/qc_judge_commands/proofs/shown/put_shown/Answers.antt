use Rattle.qc_judge_commands.proofs.ReportLemmas.{gantt_behind, motion_cut}
use Rattle.qc_judge_commands.proofs.shown.put_shown.Goals as goal

pub returns-in_err-put_motion : goal.returns-in_err-put_motion
returns-in_err-put_motion g c =
    motion_cut (g.K.Sink.view c.args.out.now) (g.K.Sink.view c.put_motion.new.out) c.args.told _
    c.from_residual.result c.from_residual.ensures.0 c.in_err-put_motion.ensures

pub returns : goal.returns
returns g c =
    gantt_behind (g.K.Sink.view c.args.out.now) (g.K.Sink.view c.write_gantt.new.sink) c.args.told
    (g.K.Sink.view c.put_motion.new.out) c.write_gantt.result c.in_ok-put_motion.ensures c.write_gantt.ensures
