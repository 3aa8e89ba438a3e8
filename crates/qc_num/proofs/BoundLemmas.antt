-- Bounds, compared and taken together.
use Rattle.std.proofs.Common.{◌≡◌, ℕ, refl, ap, arith}
use Rattle.qc_num.specs.declared.bound.Bound.{Bound}
use Rattle.qc_num.specs.declared.bound.Bound.TheVariants.{Least, Never}
use Rattle.qc_num.specs.Bounds.{IsAtMost, lesser}

-- two ends that are the same bound are the same
pub same_least : (a b : ℕ) → ◌≡◌ {A = Bound} (Least a) (Least b) → a ≡ b
same_least a b e = cc

-- the lesser of a bound and Never is the bound
pub lesser_never : (a : Bound) → lesser a Never ≡ a
lesser_never (Least a) = refl
lesser_never Never = refl

-- the least of three bounds, in either order
pub lesser_assoc : (a b c : Bound) → lesser (lesser a b) c ≡ lesser a (lesser b c)
lesser_assoc (Least a) (Least b) (Least c) = ap Least (omega arith)
lesser_assoc (Least a) (Least b) Never = refl
lesser_assoc (Least a) Never c = refl
lesser_assoc Never b c = refl

-- ---- the order of bounds

pub at_most_same : (a : Bound) → IsAtMost a a
at_most_same (Least a) = omega arith
at_most_same Never = tt

pub at_most_never : (a : Bound) → IsAtMost a Never
at_most_never (Least a) = tt
at_most_never Never = tt

pub at_most_through : (a b c : Bound) → IsAtMost a b → IsAtMost b c → IsAtMost a c
at_most_through (Least a) (Least b) (Least c) h k = omega arith
at_most_through Never (Least b) c h k = absurd h
at_most_through a Never (Least c) h k = absurd k
at_most_through a b Never h k = tt

-- the lesser of two bounds is at most either
pub lesser_first : (a b : Bound) → IsAtMost (lesser a b) a
lesser_first (Least a) (Least b) = omega arith
lesser_first (Least a) Never = omega arith
lesser_first Never (Least b) = tt
lesser_first Never Never = tt

pub lesser_second : (a b : Bound) → IsAtMost (lesser a b) b
lesser_second (Least a) (Least b) = omega arith
lesser_second (Least a) Never = tt
lesser_second Never b = at_most_same b

-- the lesser of two is at most what one of them is at most
pub first_through : (a b c : Bound) → IsAtMost a c → IsAtMost (lesser a b) c
first_through a b c = at_most_through (lesser a b) a c (lesser_first a b)

pub second_through : (a b c : Bound) → IsAtMost b c → IsAtMost (lesser a b) c
second_through a b c = at_most_through (lesser a b) b c (lesser_second a b)

-- what is at most two bounds is at most the lesser
pub at_most_lesser : (a b c : Bound) → IsAtMost a b → IsAtMost a c → IsAtMost a (lesser b c)
at_most_lesser (Least a) (Least b) (Least c) h k = omega arith
at_most_lesser (Least a) (Least b) Never h k = h
at_most_lesser (Least a) Never c h k = k
at_most_lesser Never (Least b) c h k = absurd h
at_most_lesser Never Never c h k = k
