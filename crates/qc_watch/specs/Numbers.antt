-- public: the greatest numbers of a log.
use Rattle.std.specs.Prelude.{ℕ}

-- the most lines
abbrev pub most_lines : ℕ
most_lines = 200000

-- a time has at most twelve digits, so it is below this
abbrev pub past_times : ℕ
past_times = 1000000000000
