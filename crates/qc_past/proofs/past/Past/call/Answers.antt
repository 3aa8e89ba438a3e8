use Rattle.std.proofs.lemmas.List.Elements.{All-drop, All-take}
use Rattle.qc_past.specs.Past.{IsPastTask}
use Rattle.qc_past.proofs.past.Past.call.Goals as goal

pub returns-clause-past : goal.returns-clause-past
returns-clause-past c =
    rw c.as_slice.ensures.value
    (All-take IsPastTask _ _ (All-drop IsPastTask c.range_of-from.result.0 c.self.inside.tasks.items c.self.invariant.past.each_one))
