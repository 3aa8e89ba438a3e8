use Rattle.qc_odds.proofs.course.Lists.fill.Goals as goal

pub returns-clause-marks : goal.returns-clause-marks
returns-clause-marks c = c.in_ok-self.ensures
