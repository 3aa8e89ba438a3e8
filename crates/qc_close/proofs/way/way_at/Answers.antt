use Rattle.std.proofs.Common.{rules}
use Rattle.qc_close.proofs.way.way_at.Goals as goal

pub aside-requires-clause-above : goal.aside-requires-clause-above
aside-requires-clause-above c = search rules

pub aside-requires-clause-below : goal.aside-requires-clause-below
aside-requires-clause-below c = search rules

pub aside-requires-clause-up : goal.aside-requires-clause-up
aside-requires-clause-up c = search rules

pub aside-requires-clause-down : goal.aside-requires-clause-down
aside-requires-clause-down c = search rules

pub overflow_add-result : goal.overflow_add-result
overflow_add-result c = search rules

pub returns : goal.returns
returns c = search rules
