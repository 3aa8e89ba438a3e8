use Rattle.std.proofs.Common.{rules}
use Rattle.qc_ship.proofs.cranes.crane_in.Goals as goal

pub returns-then-has_name : goal.returns-then-has_name
returns-then-has_name c = search rules

pub returns-then-keeps_gap : goal.returns-then-keeps_gap
returns-then-keeps_gap c = search rules

pub returns-else-keeps_gap : goal.returns-else-keeps_gap
returns-else-keeps_gap c = search rules
