-- inner: the fields of a dispatcher, as clauses see them and as they are kept.
use Rattle.qc_dispatch.specs.declared.dispatch.Dispatch.TheInside.{Inside}
use Rattle.qc_dispatch.specs.Course.{Course}
use Rattle.qc_dispatch.specs.Kept.{AreKept}

abbrev pub course_of : Inside → Course
course_of f = record { inst = f.inst; plan = f.slots.items; clock = f.clock; stages = f.stages.items }

abbrev pub IsKept : Inside → Type 0
IsKept f = AreKept (course_of f) f.marks.items f.waits.items.items
