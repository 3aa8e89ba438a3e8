use Rattle.std.proofs.Common.{rules}
use Rattle.qc_ship.proofs.cranes.crane_at.Goals as goal

pub hatch_place-from-requires-clause-from_first : goal.hatch_place-from-requires-clause-from_first
hatch_place-from-requires-clause-from_first c = search rules

pub hatch_place-to-requires-clause-from_first : goal.hatch_place-to-requires-clause-from_first
hatch_place-to-requires-clause-from_first c = search rules

pub returns-in_err-to : goal.returns-in_err-to
returns-in_err-to c = search rules

pub returns : goal.returns
returns c = search rules
