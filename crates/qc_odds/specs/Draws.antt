-- public: numbers drawn by seed, run and text.
use Rattle.std.specs.Prelude.{ℕ, ◌+◌, ◌*◌, ◌/◌, ◌%◌, ◌^◌, List}
use Rattle.std.specs.List.{fold}

-- the next state of a linear congruential generator (Knuth's multiplier), in 64 bits
unfoldable pub next_state : ℕ → ℕ
next_state x = (6364136223846793005 * x + 1442695040888963407) % 2 ^ 64

-- y times one more than twice y, in 64 bits
unfoldable pub quadratic : ℕ → ℕ
quadratic y = (y * (2 * y + 1)) % 2 ^ 64

-- the two halves of 64 bits, swapped
unfoldable pub swapped : ℕ → ℕ
swapped z = (z % 2 ^ 32) * 2 ^ 32 + z / 2 ^ 32

-- 64 bits, scrambled from x
unfoldable pub mix : ℕ → ℕ
mix x = swapped (quadratic (next_state x))

-- a byte is mixed in
abbrev pub with_byte : ℕ → ℕ → ℕ
with_byte x byte = mix (x + byte)

-- the number below 2 ^ 32 of a seed, a run and a text: whatever else is drawn
unfoldable pub draw : (seed run : ℕ) → List ℕ → ℕ
draw seed run text = mix (mix (fold with_byte (mix (mix seed + run)) text)) % 2 ^ 32
