-- Draws by numbers that wrap.
use Rattle.std.proofs.Common.{◌≡◌, ℕ, ◌+◌, ◌*◌, ◌%◌, ◌^◌, ◌∙◌, ap, sym}
use Rattle.std.proofs.Math.Nat.{mod-add-mod, mul_comm}
use Rattle.std.proofs.lemmas.Nat.{mul-mod_first}
use Rattle.qc_odds.specs.Draws.{mix, next_state, quadratic, swapped}

-- the second factor may wrap first
mul-mod_second : (a b m : ℕ) → (a * (b % m)) % m ≡ (a * b) % m
mul-mod_second a b m =
    ap (λ (n : ℕ). n % m) (mul_comm a (b % m)) ∙ mul-mod_first b a m ∙ ap (λ (n : ℕ). n % m) (mul_comm b a)

pub next_wraps : (x : ℕ) → ((6364136223846793005 * x) % 2 ^ 64 + 1442695040888963407) % 2 ^ 64 ≡ next_state x
unfolding next_state
next_wraps x = mod-add-mod (6364136223846793005 * x) (2 ^ 64) 1442695040888963407

pub quadratic_wraps : (y : ℕ) → (y * (((y * 2) % 2 ^ 64 + 1) % 2 ^ 64)) % 2 ^ 64 ≡ quadratic y
unfolding quadratic
quadratic_wraps y =
    ap (λ (w : ℕ). (y * w) % 2 ^ 64) (mod-add-mod (y * 2) (2 ^ 64) 1) ∙ mul-mod_second y (y * 2 + 1) (2 ^ 64)
    ∙ ap (λ (w : ℕ). (y * (w + 1)) % 2 ^ 64) (mul_comm y 2)

next_of : (a c m x : ℕ) → (a * (x % m) + c) % m ≡ (a * x + c) % m
next_of a c m x =
    sym (mod-add-mod (a * (x % m)) m c) ∙ ap (λ (n : ℕ). (n + c) % m) (mul-mod_second a x m) ∙ mod-add-mod (a * x) m c

-- what is mixed may wrap first
pub mix_wraps : (x : ℕ) → mix (x % 2 ^ 64) ≡ mix x
unfolding mix next_state
mix_wraps x = ap (λ (y : ℕ). swapped (quadratic y)) (next_of 6364136223846793005 1442695040888963407 (2 ^ 64) x)
