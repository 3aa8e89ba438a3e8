use Rattle.std.proofs.Common.{rules}
use Rattle.qc_close.proofs.barred.place_of.Goals as goal

pub returns-clause-crane : goal.returns-clause-crane
returns-clause-crane c = search rules

pub returns-clause-own : goal.returns-clause-own
returns-clause-own c = search rules

pub returns-clause-left : goal.returns-clause-left
returns-clause-left c = search rules

pub returns-clause-first : goal.returns-clause-first
returns-clause-first c = search rules

pub returns-clause-last : goal.returns-clause-last
returns-clause-last c = search rules
