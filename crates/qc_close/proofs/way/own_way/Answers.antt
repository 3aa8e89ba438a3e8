use Rattle.std.proofs.Common.{rules}
use Rattle.qc_close.proofs.way.own_way.Goals as goal

pub turn_bays-bays-requires-clause-berth : goal.turn_bays-bays-requires-clause-berth
turn_bays-bays-requires-clause-berth c = search rules

pub turn_bays-bays-requires-clause-low : goal.turn_bays-bays-requires-clause-low
turn_bays-bays-requires-clause-low c = search rules

pub turn_bays-bays-requires-clause-high : goal.turn_bays-bays-requires-clause-high
turn_bays-bays-requires-clause-high c = search rules

pub returns-clause-bays : goal.returns-clause-bays
returns-clause-bays c = search rules

pub returns-clause-low : goal.returns-clause-low
returns-clause-low c = search rules

pub returns-clause-high : goal.returns-clause-high
returns-clause-high c = search rules
