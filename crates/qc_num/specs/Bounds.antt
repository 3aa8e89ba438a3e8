-- public: bounds, numbers of ticks, and Never above them all.
use Rattle.std.specs.Prelude.{◌≤◌, min, Bool, true, false, ◌==◌, List, [], ◌∷◌}
use Rattle.qc_num.specs.declared.bound.Bound.{Bound}
use Rattle.qc_num.specs.declared.bound.Bound.TheVariants.{Least, Never}

-- the one is no greater than the other
abbrev pub IsAtMost : Bound → Bound → Type 0
IsAtMost (Least a) (Least b) = a ≤ b
IsAtMost Never (Least b) = ⊥
IsAtMost (Least a) Never = Unit {0}
IsAtMost Never Never = Unit {0}

-- the lesser of both
abbrev pub lesser : Bound → Bound → Bound
lesser (Least a) (Least b) = Least (min a b)
lesser (Least a) Never = Least a
lesser Never b = b

-- the least of these bounds, and Never where there is none
abbrev pub least_bound : List Bound → Bound
least_bound [] = Never
least_bound (b ∷ bs) = lesser b (least_bound bs)

-- both bounds are the same
abbrev pub is_bound : Bound → Bound → Bool
is_bound (Least a) (Least b) = a == b
is_bound Never Never = true
is_bound _ _ = false
