-- public: the limits of a ship file that an instance has no use for.
use Rattle.std.specs.Prelude.{ℕ}

-- the greatest number of a hatch
abbrev pub greatest_hatch : ℕ
greatest_hatch = 998

-- the most bays that neighbouring cranes keep free between them, where hatches stand one bay apart
abbrev pub most_margin : ℕ
most_margin = 20

-- the most ticks of a move, or of a hatch cover
abbrev pub most_move_ticks : ℕ
most_move_ticks = 10000

-- the most pairs of hatches that aren't worked at the same time
abbrev pub most_hatch_pairs : ℕ
most_hatch_pairs = 100

-- the most pairs of tasks of which the planner says that the first ends before the second starts
abbrev pub most_name_pairs : ℕ
most_name_pairs = 240

-- the most tasks of which the planner says before which tick they don't start
abbrev pub most_name_ticks : ℕ
most_name_ticks = 240
