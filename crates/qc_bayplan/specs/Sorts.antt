-- public: which plan a file is.
use Rattle.std.specs.Prelude.{Bool, true, false}
use Rattle.qc_bayplan.specs.declared.plan.Which.{Which}
use Rattle.qc_bayplan.specs.declared.plan.Which.TheVariants.{Arrival, Departure}

-- the plan for a departure
abbrev pub is_departure : Which → Bool
is_departure Arrival = false
is_departure Departure = true
