use Rattle.std.proofs.Common.{rules}
use Rattle.qc_close.proofs.frames.together.Goals as goal

pub overflow_add-result : goal.overflow_add-result
overflow_add-result c = search rules

pub returns-in-None : goal.returns-in-None
returns-in-None c = search rules

pub returns-in-None-others : goal.returns-in-None-others
returns-in-None-others c = search rules

pub returns-in-Some-others : goal.returns-in-Some-others
returns-in-Some-others c = search rules
