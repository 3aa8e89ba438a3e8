use Rattle.std.proofs.Common.{rules}
use Rattle.qc_close.proofs.trip.stand.Goals as goal

pub above-requires-clause-cranes : goal.above-requires-clause-cranes
above-requires-clause-cranes c = search rules

pub below-requires-clause-cranes : goal.below-requires-clause-cranes
below-requires-clause-cranes c = search rules

pub returns-then-other-crane : goal.returns-then-other-crane
returns-then-other-crane c = search rules

pub returns-then-other-crane-2 : goal.returns-then-other-crane-2
returns-then-other-crane-2 c = search rules

pub returns-else-other-crane-2 : goal.returns-else-other-crane-2
returns-else-other-crane-2 c = search rules
