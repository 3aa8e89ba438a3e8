-- public: the draws that are made from a number.
use Rattle.std.specs.Prelude.{ℕ, zero, suc, ◌+◌, ◌*◌, ◌/◌, ◌%◌}

-- the state after the next draw
abbrev pub next_state : ℕ → ℕ
next_state state = (1103515245 * state + 12345) % 2147483648

-- the state after so many draws
unfoldable pub state_after : ℕ → ℕ → ℕ
state_after state zero = state
state_after state (suc n) = next_state (state_after state n)

-- what the draw that led to a state gives: 0 to 30
abbrev pub drawn : ℕ → ℕ
drawn state = state / 65536 % 31
