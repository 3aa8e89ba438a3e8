-- Lemmas on lists that several crates cite.
use Rattle.std.proofs.Common.{suc, zero, List, [], ◌∷◌, map, ap, arith, Contains}

-- what a list contains, the list that it is mapped to contains mapped
pub Contains-map : {X Y : Type 0} (f : X → Y) (xs : List X) (x : X) → Contains xs x → Contains (map f xs) (f x)
Contains-map f [] x (k, lt, e) = absurd (omega arith)
Contains-map f (z ∷ xs) x (zero, lt, e) = (0, omega arith, ap f e)
Contains-map f (z ∷ xs) x (suc k, lt, e) = let c = Contains-map f xs x (k, omega arith, e) in (suc c.0, omega (arith, c.1), c.2)
