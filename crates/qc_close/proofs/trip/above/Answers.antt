use Rattle.std.proofs.Common.{rules}
use Rattle.qc_close.proofs.trip.above.Goals as goal

pub overflow_add-bay : goal.overflow_add-bay
overflow_add-bay c = search rules

pub returns : goal.returns
returns c = search rules
