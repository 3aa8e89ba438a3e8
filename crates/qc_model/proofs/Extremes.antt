-- The greatest and the least of numbers that a function gives.
use Rattle.std.proofs.Common.{◌≡◌, ℕ, zero, suc, ◌+◌, ◌<◌, ◌≤◌, min, Bool, true, inl, inr, List, [], ◌∷◌, ◌++◌, length, map, take, get_or, Option, None, Some, refl, ap, sym, ◌∙◌, arith, filter}
use Rattle.std.specs.Option.{option_map_or}
use Rattle.std.proofs.lemmas.Bool.{cond_both, cases_lt, false≢true}
use Rattle.std.proofs.lemmas.List.{map-append, take_more}
use Rattle.std.specs.List.{range_with_len}
use Rattle.qc_model.specs.Nodes.{greatest, least}

pub greatest_le : (f : ℕ → ℕ) (m a n : ℕ) → ((k : ℕ) → k < a + n → f k ≤ m)
    → greatest (map f (range_with_len a n)) ≤ m
greatest_le f m a zero h = omega arith
greatest_le f m a (suc n) h =
    omega (arith, h a (omega arith), greatest_le f m (a + 1) n (λ k low. h k (omega arith)))

pub le_greatest : (f : ℕ → ℕ) (k a n : ℕ) → a ≤ k → k < a + n
    → f k ≤ greatest (map f (range_with_len a n))
le_greatest f k a zero low high = absurd (omega arith)
le_greatest f k a (suc n) low high = elim (cases_lt a k) [
  | inl l ↦ omega (arith, le_greatest f k (a + 1) n (omega arith) (omega arith))
  | inr l ↦ let e : a ≡ k = omega arith in omega (arith, ap f e)
]

least_first : (y : ℕ) (ys : List ℕ) → least (y ∷ ys) ≤ y
least_first y [] = omega arith
least_first y (z ∷ zs) = omega arith

-- there are some, and the least is at most m
abbrev Reaches : List ℕ → ℕ → Type 0
Reaches ys m = (0 < length ys) × (least ys ≤ m)

one_more : (x m : ℕ) (ys : List ℕ) → Reaches ys m → Reaches (x ∷ ys) m
one_more x m [] h = absurd (omega (arith, h.0))
one_more x m (y ∷ ys) h = (omega arith, omega (arith, h.1))

-- of those that pass a test
module _ (f : ℕ → ℕ) (p : ℕ → Bool) where
  reached : (k a n : ℕ) → a ≤ k → k < a + n → p k ≡ true
      → Reaches (map f (filter p (range_with_len a n))) (f k)
  reached k a zero low high t = absurd (omega arith)
  reached k a (suc n) low high t =
      let rest = filter p (range_with_len (a + 1) n) in
      cond_both (p a) (a ∷ rest) rest (λ ks. Reaches (map f ks) (f k))
      (λ passes. elim (cases_lt a k) [
        | inl l ↦ one_more (f a) (f k) (map f rest) (reached k (a + 1) n (omega arith) (omega arith) t)
        | inr l ↦ let e : a ≡ k = omega arith in (omega arith, omega (arith, ap f e, least_first (f a) (map f rest)))
      ])
      (λ fails. elim (cases_lt a k) [
        | inl l ↦ reached k (a + 1) n (omega arith) (omega arith) t
        | inr l ↦ let e : a ≡ k = omega arith in absurd (false≢true (sym fails ∙ ap p e ∙ t))
      ])

  pub least_le : (k a n : ℕ) → a ≤ k → k < a + n → p k ≡ true
      → least (map f (filter p (range_with_len a n))) ≤ f k
  least_le k a n low high t = (reached k a n low high t).1

-- ---- the least of some numbers, one more at a time

-- the least of these numbers, if there is one
abbrev pub least_option : List ℕ → Option ℕ
least_option [] = None
least_option (n ∷ ns) = Some (least (n ∷ ns))

least-append : (y : ℕ) (ys : List ℕ) (x : ℕ) → least ((y ∷ ys) ++ x ∷ []) ≡ min (least (y ∷ ys)) x
least-append y [] x = refl
least-append y (z ∷ zs) x = omega (arith, least-append z zs x)

pub least_option-append : (xs : List ℕ) (x : ℕ)
    → least_option (xs ++ x ∷ []) ≡ Some (option_map_or (λ n. min n x) (least_option xs) x)
least_option-append [] x = refl
least_option-append (y ∷ ys) x = ap Some (least-append y ys x)

pub least_more : (f : ℕ → ℕ) (js : List ℕ) (i : ℕ) (o : Option ℕ) (r : ℕ) → i < length js
    → o ≡ least_option (map f (take i js)) → r ≡ option_map_or (λ n. min n (f (get_or js i 0))) o (f (get_or js i 0))
    → Some r ≡ least_option (map f (take (i + 1) js))
least_more f js i o r low e is =
    let x = f (get_or js i 0) in
    ap Some (is ∙ ap (λ q. option_map_or (λ n. min n x) q x) e)
    ∙ sym (least_option-append (map f (take i js)) x)
    ∙ ap least_option (sym (map-append f (take i js) (get_or js i 0 ∷ [])))
    ∙ ap (λ ks. least_option (map f ks)) (sym (take_more js i 0 low))
