use Rattle.qc_judge_commands.proofs.shown.report.Goals as goal

pub returns-in-Shown : goal.returns-in-Shown
returns-in-Shown g c = rw c.in-Shown.is c.report_shown.ensures
