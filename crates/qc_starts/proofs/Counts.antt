-- How many elements there are, by how many fall into each of several classes.
use Rattle.std.proofs.Common.{◌≡◌, ◌≢◌, inl, inr, ℕ, zero, suc, ◌+◌, ◌*◌, ◌<◌, ◌≤◌, max, min, Bool, true, ◌&&◌, eqb, List, [], ◌∷◌, length, refl, ap, add-one, arith, count_by, sum_by}
use Rattle.std.proofs.lemmas.Bool.{cases_Bool, cases_lt, and_from, and_parts, eq-eqb, eqb-true, or_left, or_right}
use Rattle.std.proofs.lemmas.List.Sums.{sum_by-cons}
use Rattle.std.specs.List.{AllByRecursion, range_with_len}
use Rattle.qc_model.proofs.Sums.{sum_both, sum_le, sum_raised}
use Rattle.qc_dist.proofs.Ranges.{sum_more}
use Rattle.qc_arena.specs.declared.edge.Edge.{Edge}
use Rattle.qc_starts.specs.Arcs.{joins, leads}
use Rattle.qc_starts.specs.Spread.{one_of}

twice : (n : ℕ) → sum_by (λ c. 2 * c) (range_with_len 0 n) + n ≡ n * n
twice zero = omega arith
twice (suc n) =
    let next = ap (λ k. sum_by (λ c. 2 * c) (range_with_len 0 k)) (add-one n) in
    omega (arith, next, sum_more (λ c. 2 * c) n, twice n)

two_each : (n : ℕ) → sum_by (λ _. 2) (range_with_len 0 n) ≡ 2 * n
two_each zero = refl
two_each (suc n) =
    let next = ap (λ k. sum_by (λ _. 2) (range_with_len 0 k)) (add-one n) in
    omega (arith, next, sum_more (λ _. 2) n, two_each n)

pub count_cons : (p : Edge → Bool) (arc : Edge) (arcs : List Edge)
    → count_by p (arc ∷ arcs) ≡ one_of (p arc) + count_by p arcs
count_cons p arc arcs = sum_by-cons (λ (x : Edge). one_of (p x)) arc arcs

module _ (p : Edge → Bool) (f : Edge → ℕ) where
  abbrev in_class : ℕ → Edge → Bool
  in_class c arc = p arc && eqb (f arc) c

  -- an element that counts falls into some class
  some_class : (arc : Edge) (m : ℕ) → (p arc ≡ true → f arc < m)
      → one_of (p arc) ≤ sum_by (λ c. one_of (in_class c arc)) (range_with_len 0 m)
  some_class arc m low = elim (cases_Bool (p arc)) [
    | inl holds ↦
        let here = ap one_of (and_from (p arc) (eqb (f arc) (f arc)) holds (eq-eqb (f arc) (f arc) refl)) in
        omega (
          arith,
          ap one_of holds,
          sum_raised (λ c. one_of (in_class c arc)) (λ _. 0) 1 (f arc) 0 m (omega arith) (omega (arith, low holds))
              (omega (arith, here)) (λ j _. omega arith),
        )
    | inr fails ↦ omega (arith, ap one_of fails)
  ]

  -- all that counts is in some class
  pub by_classes : (arcs : List Edge) (m : ℕ) → AllByRecursion (λ arc. p arc ≡ true → f arc < m) arcs
      → count_by p arcs ≤ sum_by (λ c. count_by (in_class c) arcs) (range_with_len 0 m)
  by_classes [] m all = omega arith
  by_classes (arc ∷ arcs) m all =
      let both = sum_both (λ c. one_of (in_class c arc)) (λ c. count_by (in_class c) arcs)
      (λ c. count_by (in_class c) (arc ∷ arcs)) 0 m (λ c _ _. omega (arith, count_cons (in_class c) arc arcs)) in
      omega (arith, by_classes arcs m all.1, some_class arc m all.0, both, count_cons p arc arcs)

-- a test that implies another counts no more
pub count_by-le : (p q : Edge → Bool) → ((arc : Edge) → p arc ≡ true → q arc ≡ true) → (arcs : List Edge)
    → count_by p arcs ≤ count_by q arcs
count_by-le p q h [] = omega arith
count_by-le p q h (arc ∷ arcs) = elim (cases_Bool (p arc)) [
  | inl holds ↦ omega (arith, count_by-le p q h arcs, ap one_of holds, ap one_of (h arc holds), count_cons p arc arcs, count_cons q arc arcs)
  | inr fails ↦ omega (arith, count_by-le p q h arcs, ap one_of fails, count_cons p arc arcs, count_cons q arc arcs)
]

count_all : (arcs : List Edge) → count_by (λ _. true) arcs ≡ length arcs
count_all [] = refl
count_all (arc ∷ arcs) = omega (arith, count_all arcs, count_cons (λ _. true) arc arcs)

pub record IsBetween (n : ℕ) (arc : Edge) : Type 0 where
  pub from : arc.from < n
  pub to : arc.to < n
  pub apart : arc.from ≢ arc.to

abbrev greater_end : Edge → ℕ
greater_end arc = max arc.from arc.to

abbrev lesser_end : Edge → ℕ
lesser_end arc = min arc.from arc.to

joined : (c d : ℕ) (arc : Edge) → (eqb (greater_end arc) c && eqb (lesser_end arc) d) ≡ true
    → joins c d arc ≡ true
joined c d arc t =
    let parts = and_parts (eqb (greater_end arc) c) (eqb (lesser_end arc) d) t in
    let great = eqb-true (greater_end arc) c parts.0 in
    let less = eqb-true (lesser_end arc) d parts.1 in
    elim (cases_lt arc.from arc.to) [
      | inl l ↦ or_right (leads c d arc) (leads d c arc)
          (and_from (eqb arc.from d) (eqb arc.to c) (eq-eqb arc.from d (omega arith)) (eq-eqb arc.to c (omega arith)))
      | inr l ↦ or_left (leads c d arc) (leads d c arc)
          (and_from (eqb arc.from c) (eqb arc.to d) (eq-eqb arc.from c (omega arith)) (eq-eqb arc.to d (omega arith)))
    ]

-- where at most two arcs join each two of n nodes, there are at most two for each pair of them
pub arcs_few : (n : ℕ) (arcs : List Edge) → AllByRecursion (IsBetween n) arcs
    → ((i j : ℕ) → count_by (joins i j) arcs ≤ 2) → length arcs + n ≤ n * n
arcs_few n arcs all few =
    let split = by_classes (λ _. true) greater_end arcs n (mapped arcs all) in
    let each = sum_le (λ c. count_by (λ arc. true && eqb (greater_end arc) c) arcs) (λ c. 2 * c) 0 n
    (λ c _ _. of_class c) in
    omega (arith, split, each, twice n, count_all arcs)
  where
    mapped : (arcs : List Edge) → AllByRecursion (IsBetween n) arcs
        → AllByRecursion (λ arc. true ≡ true → greater_end arc < n) arcs
    mapped [] all = tt
    mapped (arc ∷ arcs) all = (λ _. omega (arith, all.0.from, all.0.to), mapped arcs all.1)

    below : (c : ℕ) (arcs : List Edge) → AllByRecursion (IsBetween n) arcs
        → AllByRecursion (λ arc. eqb (greater_end arc) c ≡ true → lesser_end arc < c) arcs
    below c [] all = tt
    below c (arc ∷ arcs) all =
        (λ t. let e = eqb-true (greater_end arc) c t in omega (arith, all.0.apart), below c arcs all.1)

    of_class : (c : ℕ) → count_by (λ arc. eqb (greater_end arc) c) arcs ≤ 2 * c
    of_class c =
        let split = by_classes (λ arc. eqb (greater_end arc) c) lesser_end arcs c (below c arcs all) in
        let each = sum_le (λ d. count_by (λ arc. eqb (greater_end arc) c && eqb (lesser_end arc) d) arcs) (λ _. 2) 0 c
        (λ d _ _. omega (
          arith,
          few c d,
          count_by-le (λ arc. eqb (greater_end arc) c && eqb (lesser_end arc) d) (joins c d)
              (joined c d) arcs,
        )) in
        omega (arith, split, each, two_each c)
