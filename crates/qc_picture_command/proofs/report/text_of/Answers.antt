use Rattle.qc_picture_command.proofs.report.text_of.Goals as goal

pub returns-in-Figures : goal.returns-in-Figures
returns-in-Figures c = rw c.in-Figures.is c.figures_of.ensures
