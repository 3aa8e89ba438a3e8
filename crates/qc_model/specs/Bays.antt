-- public: differences of bays.
use Rattle.std.specs.Prelude.{ℕ, ℤ, pos, negsuc, ◌-ℤ◌, ◌+◌}

-- a whole number where it is at least 0, and else 0
abbrev pub at_least_zero : ℤ → ℕ
at_least_zero (pos n) = n
at_least_zero (negsuc n) = 0

-- how many bays b lies above a, and 0 where it lies at a or below
abbrev pub bays_up : ℤ → ℤ → ℕ
bays_up a b = at_least_zero (b -ℤ a)

-- how far a and b are apart: of the two numbers one is 0
abbrev pub bays_between : ℤ → ℤ → ℕ
bays_between a b = bays_up a b + bays_up b a
