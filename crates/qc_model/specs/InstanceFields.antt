-- inner: an instance's fields.
use Rattle.qc_model.specs.declared.instance.Instance.TheInside.{Inside}
use Rattle.qc_model.specs.Bays.{at_least_zero}
use Rattle.qc_model.specs.Instance.{InstanceView, Valid}

-- an instance's fields as clauses see them
abbrev pub view_of : Inside → InstanceView
view_of f = record {
  bays = at_least_zero f.bays;
  travel = f.travel;
  gap = at_least_zero f.gap;
  tasks = f.tasks.items;
  cranes = f.cranes.items;
  before = f.before.items;
  apart = f.apart.items;
  turn = f.turn;
}

-- the fields are those of a valid instance
abbrev pub IsKept : Inside → Type 0
IsKept f = Valid (view_of f)
