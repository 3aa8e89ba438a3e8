-- The steps of the search for a ring.
use Rattle.std.proofs.Common.{◌≡◌, ℕ, zero, suc, ◌+◌, ◌<◌, ◌≤◌, ◌++◌, ◌∷◌, ◌==◌, ◌&&◌, ◌||◌, [], Bool, true, false, cond, not, List, length, get_or, replicate, set, refl, sym, ap, subst, inl, inr, ◌∙◌, arith, Contains}
use Rattle.std.proofs.lemmas.Bool.{and_parts, cases_Bool, cases_lt, or_cases, or_left, or_right}
use Rattle.std.proofs.lemmas.Bool.Decides.{Decides-eqb}
use Rattle.std.proofs.lemmas.List.{get_or-set_other, get_or_default}
use Rattle.std.proofs.lemmas.List.Sums.{sum_by-set}
use Rattle.qc_model.specs.declared.pair.Pair.{Pair}
use Rattle.qc_model.specs.Instance.{IsPath, pair_of}
use Rattle.qc_tasks.specs.Marks.{AreAll, AreReached, at, is_new, leads_on, unmarked}
use Rattle.qc_tasks.specs.Rings.{leads}
use Rattle.qc_tasks.proofs.RingLemmas.{leads_path, path_join, path_leads}

-- the pairs up to here lead on to no task that isn't marked
abbrev pub AreFront : ℕ → List Pair → ℕ → List Bool → Type 0
AreFront n pairs from marks =
    (k : ℕ) → k < n → leads_on marks from (get_or pairs k (pair_of 0 0)) ≡ true → at marks (get_or pairs k (pair_of 0 0)).second ≡ true

-- a task more is marked
module _ (pairs : List Pair) (from : ℕ) (marks : List Bool) (p : Pair) (has : Contains pairs p) (new : is_new marks from p ≡ true) (lt : p.second < length marks) where
  pub reached_more : AreReached pairs from marks → AreReached pairs from (set marks p.second true)
  reached_more reached j e = elim (cases_lt j p.second) [
    | inl below ↦ reached j (sym (get_or-set_other marks p.second j true false (λ same. absurd (omega (arith, below, same)))) ∙ e)
    | inr not_below ↦ elim (cases_lt p.second j) [
      | inl above ↦ reached j (sym (get_or-set_other marks p.second j true false (λ same. absurd (omega (arith, above, same)))) ∙ e)
      | inr not_above ↦
          let same : p.second ≡ j = omega arith in
          let P : ℕ → Type 0 = λ n. (via : List ℕ) × IsPath pairs from via n in
          subst P same (elim (or_cases (p.first == from) (at marks p.first) (and_parts (leads_on marks from p) (not (at marks p.second)) new).0) [
            | inl start ↦
                let e : p.first ≡ from = (Decides-eqb p.first from).0 start in
                let Q : ℕ → Type 0 = λ n. Contains pairs (pair_of n p.second) in
                ([], subst Q e has)
            | inr marked ↦ (let way = reached p.first marked in (way.0 ++ p.first ∷ [], path_join pairs from way.0 p.first [] p.second way.1 has))
          ])
    ]
  ]

  pub unmarked_less : unmarked (set marks p.second true) < unmarked marks
  unmarked_less =
      let was : not (at marks p.second) ≡ true = (and_parts (leads_on marks from p) (not (at marks p.second)) new).1 in
      let one : ◌≡◌ {A = ℕ} (cond (not (at marks p.second)) 1 0) 1 = rw was refl in
      omega (arith, sum_by-set (λ b. cond (not b) 1 0) marks p.second true false lt, one)

-- a pair that leads on to no new task
pub front_more : (n : ℕ) (pairs : List Pair) (from : ℕ) (marks : List Bool) → is_new marks from (get_or pairs n (pair_of 0 0)) ≡ false → AreFront n pairs from marks → AreFront (n + 1) pairs from marks
front_more n pairs from marks old front k lt on = elim (cases_lt k n) [
  | inl before ↦ front k before on
  | inr last ↦
      let same : n ≡ k = omega arith in
      let P : ℕ → Type 0 = λ i. leads_on marks from (get_or pairs i (pair_of 0 0)) ≡ true → at marks (get_or pairs i (pair_of 0 0)).second ≡ true in
      subst P same (λ here. marked (leads_on marks from (get_or pairs n (pair_of 0 0))) (at marks (get_or pairs n (pair_of 0 0)).second) here old) on
]
  where
    marked : (a b : Bool) → a ≡ true → (a && not b) ≡ false → b ≡ true
    marked a true e f = refl
    marked true false e f = cc f
    marked false false e f = cc e

pub front_all : (n : ℕ) (pairs : List Pair) (from : ℕ) (marks : List Bool) → length pairs ≤ n → AreFront n pairs from marks → AreAll pairs from marks
front_all n pairs from marks past front i j (k, lt, here) on =
    let is : get_or pairs k (pair_of 0 0) ≡ pair_of i j = get_or_default pairs k (pair_of 0 0) (pair_of i j) lt ∙ here in
    ap (λ (p : Pair). at marks p.second) (sym is) ∙ front k (omega arith) (ap (leads_on marks from) is ∙ on)

-- what is marked at the end is what one comes to
all_marked : (pairs : List Pair) (from : ℕ) (marks : List Bool) → AreAll pairs from marks → (i : ℕ) (via : List ℕ) (j : ℕ) → ((i == from) || at marks i) ≡ true → IsPath pairs i via j → at marks j ≡ true
all_marked pairs from marks all i [] j on has = all i j has on
all_marked pairs from marks all i (k ∷ ks) j on path =
    all_marked pairs from marks all k ks j (or_right (k == from) (at marks k) (all i k path.0 on)) path.1

pub marked_is : (pairs : List Pair) (from : ℕ) (marks : List Bool) (j : ℕ) → AreReached pairs from marks → AreAll pairs from marks → at marks j ≡ leads pairs from j
marked_is pairs from marks j reached all = elim (cases_Bool (at marks j)) [
  | inl marked ↦ (let way = reached j marked in marked ∙ sym (path_leads pairs from way.0 j way.1))
  | inr bare ↦ elim (cases_Bool (leads pairs from j)) [
    | inl way ↦ (let (via, path) = leads_path pairs from j way in
        absurd (cc (sym bare ∙ all_marked pairs from marks all from via j (or_left (from == from) (at marks from) ((Decides-eqb from from).1 refl)) path)))
    | inr none ↦ bare ∙ sym none
  ]
]

-- no mark goes
pub no_more_unmarked : (more : Bool) (first marks : List Bool) → (more ≡ false → marks ≡ first) → (more ≡ true → unmarked marks < unmarked first) → unmarked marks ≤ unmarked first
no_more_unmarked true first marks same fewer = omega (arith, fewer refl)
no_more_unmarked false first marks same fewer = rw (same refl) (omega arith)

pub fewer_still : (a b c : ℕ) → a < b → b ≤ c → a < c
fewer_still a b c one two = omega arith

-- at first no task is marked
pub none_marked : (n j : ℕ) → get_or (replicate n false) j false ≡ true → ⊥
none_marked zero j e = cc e
none_marked (suc n) zero e = cc e
none_marked (suc n) (suc j) e = none_marked n j e
