-- public: the greatest numbers of every instance and every schedule of it. The code's constants are these.
use Rattle.std.specs.Prelude.{ℕ}

-- the most tasks
abbrev pub most_tasks : ℕ
most_tasks = 240

-- the most cranes
abbrev pub most_cranes : ℕ
most_cranes = 8

-- the most crane bays of a ship whose hatches stand one bay apart, and so the most hatches
abbrev pub most_hatches : ℕ
most_hatches = 60

-- the greatest place of a ship whose places are given in decimetres
abbrev pub most_place : ℕ
most_place = 6000

-- the most ticks of travel per bay
abbrev pub most_travel : ℕ
most_travel = 10000

-- the most ticks of travel per decimetre
abbrev pub most_travel_by_places : ℕ
most_travel_by_places = 100

-- how many bays neighbouring cranes are apart at most
abbrev pub most_gap : ℕ
most_gap = 21

-- how many decimetres neighbouring cranes are apart at most
abbrev pub most_gap_by_places : ℕ
most_gap_by_places = 2000

-- the last tick at which a crane may become ready, and until which a task may be held back
abbrev pub most_ready : ℕ
most_ready = 1000000

-- the most ticks of all tasks together
abbrev pub most_work : ℕ
most_work = 502400000

-- the most pairs of tasks that may not run at the same time
abbrev pub most_apart : ℕ
most_apart = 1600

-- the most pairs of tasks that may get an order: all pairs of the most tasks
abbrev pub most_orders : ℕ
most_orders = 28680

-- the last tick at which a task may start in a schedule that is judged: twelve digits
abbrev pub most_start : ℕ
most_start = 999999999999

-- the last tick at which a task ends in a schedule that is judged
abbrev pub most_end : ℕ
most_end = 1000502399999

-- the most bays between two places of which the ticks are asked for, gaps included
abbrev pub most_bays : ℕ
most_bays = 60000

-- the most ticks by which cranes keep clear of each other, and of travel between two bays
abbrev pub most_distance : ℕ
most_distance = 600000000

-- the most branchings of a bound tree
abbrev pub most_branchings : ℕ
most_branchings = 1000000
