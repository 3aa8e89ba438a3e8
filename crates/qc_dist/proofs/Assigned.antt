-- What is assigned and ordered after one more decision, for what it names and for all else.
use Rattle.std.proofs.Common.{◌≡◌, ℕ, true, cond, ◌||◌, Some, List, ◌∷◌, refl, ap}
use Rattle.std.proofs.lemmas.Bool.{eq-eqb, ne_eqb}
use Rattle.qc_model.specs.declared.decision.Decision.{Decision}
use Rattle.qc_model.specs.declared.decision.Decision.TheVariants.{Assign, Order}
use Rattle.qc_model.specs.Nodes.{assigned, is_ordered}
use Rattle.qc_dist.proofs.Tables.{pair_differs, pair_is}

pub assigned_here : (ds : List Decision) (j k : ℕ) → assigned (Assign j k ∷ ds) j ≡ Some k
assigned_here ds j k = ap (λ b. cond b (Some k) (assigned ds j)) (eq-eqb j j refl)

pub assigned_other : (ds : List Decision) (j k i : ℕ) → (j ≡ i → ⊥)
    → assigned (Assign j k ∷ ds) i ≡ assigned ds i
assigned_other ds j k i differ = ap (λ b. cond b (Some k) (assigned ds i)) (ne_eqb j i differ)

pub ordered_here : (ds : List Decision) (i j : ℕ) → is_ordered (Order i j ∷ ds) i j ≡ true
ordered_here ds i j = ap (λ b. b || is_ordered ds i j) (pair_is i j)

pub ordered_other : (ds : List Decision) (a b i j : ℕ) → (a ≡ i → b ≡ j → ⊥)
    → is_ordered (Order a b ∷ ds) i j ≡ is_ordered ds i j
ordered_other ds a b i j differ = ap (λ m. m || is_ordered ds i j) (pair_differs a b i j differ)
