-- public: what one of two numbers that may be missing adds to the other.
use Rattle.std.specs.Prelude.{ℕ, nat_lt, if◌then◌else◌, Option, None, Some}

-- the second number, where it is there and no first is as great
abbrev pub excess : Option ℕ → Option ℕ → Option ℕ
excess _ None = None
excess None (Some n) = Some n
excess (Some m) (Some n) = if nat_lt m n then Some n else None
