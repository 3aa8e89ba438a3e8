-- For `omega`: a difference of bays read as `up` and `down`, the two parts of a whole number that std's `ints` speaks of.
use Rattle.std.proofs.Common.{arith, ◌≡◌, ℤ, pos, negsuc, ◌-ℤ◌, ◌+◌, ◌-◌}
use Rattle.std.proofs.lemmas.Int.{ints}
use borrow.Author.Differences.{up, down}
use Rattle.qc_model.specs.Bays.{at_least_zero, bays_up}

at_least_zero_up : (z : ℤ) → at_least_zero z ≡ up z - down z
at_least_zero_up (pos n) = omega arith
at_least_zero_up (negsuc n) = omega arith

pub bays_up_is : (a b : ℤ) → bays_up a b ≡ (up b + down a) - (up a + down b)
bays_up_is a b = omega (arith, ints, at_least_zero_up (b -ℤ a))

-- the set, for `omega (arith, bays)`
pub ruleset bays = (ints, bays_up_is)
