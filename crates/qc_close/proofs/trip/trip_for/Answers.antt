use Rattle.std.proofs.Common.{rules}
use Rattle.qc_close.proofs.trip.trip_for.Goals as goal

pub stand-requires-clause-other : goal.stand-requires-clause-other
stand-requires-clause-other c = search rules

pub stand-requires-clause-bay : goal.stand-requires-clause-bay
stand-requires-clause-bay c = search rules

pub trip_to-requires : goal.trip_to-requires
trip_to-requires c = search rules

pub returns-in-None : goal.returns-in-None
returns-in-None c = search rules

pub returns-in-Some : goal.returns-in-Some
returns-in-Some c = search rules
