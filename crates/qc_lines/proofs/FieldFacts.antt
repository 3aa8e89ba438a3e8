-- The field at a place, by the record's own look-up.
use Rattle.std.proofs.Common.{◌≡◌, ℕ, zero, suc, List, [], ◌∷◌, get_or, Option, Some, None, refl}
use Rattle.csv.specs.Records.{field_at}

-- a field that is there, and one that is not
pub field-some : (fields : List (List ℕ)) (at : ℕ) (field : List ℕ) → Some field ≡ field_at fields at → field ≡ get_or fields at []
unfolding field_at
field-some [] at field e = cc e
field-some (f ∷ fs) zero field e = cc
field-some (f ∷ fs) (suc at) field e = field-some fs at field e

pub field-none : (fields : List (List ℕ)) (at : ℕ) → ◌≡◌ {A = Option (List ℕ)} None (field_at fields at) → ◌≡◌ {A = List ℕ} [] (get_or fields at [])
unfolding field_at
field-none [] at e = refl
field-none (f ∷ fs) zero e = cc e
field-none (f ∷ fs) (suc at) e = field-none fs at e
