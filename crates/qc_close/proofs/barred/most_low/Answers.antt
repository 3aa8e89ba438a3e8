use Rattle.std.proofs.Common.{rules}
use Rattle.qc_close.proofs.barred.most_low.Goals as goal

pub returns-in-None-clause-bay : goal.returns-in-None-clause-bay
returns-in-None-clause-bay c = search rules

pub returns-in-None-clause-near : goal.returns-in-None-clause-near
returns-in-None-clause-near c = search rules

pub returns-in-Some-clause-bay : goal.returns-in-Some-clause-bay
returns-in-Some-clause-bay c = search rules

pub returns-in-Some-clause-near : goal.returns-in-Some-clause-near
returns-in-Some-clause-near c = search rules
