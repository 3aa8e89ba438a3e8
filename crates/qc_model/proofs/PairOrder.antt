-- Pairs in order, and what a binary search finds among them.
use Rattle.std.proofs.Common.{◌≡◌, ◌↔◌, ℕ, ◌+◌, ◌<◌, ◌≤◌, inl, inr, Bool, false, IsTrue, List, length, AllPairs, Contains, Result, Ok, Err, ap, sym, subst, ◌∙◌, get_or, arith}
use Rattle.std.proofs.lemmas.Bool.{cases_lt, true≢false}
use Rattle.std.proofs.lemmas.Bool.Decides.{nat_tests}
use Rattle.std.proofs.lemmas.Cmp.{nat_cmp_total, on_total, then_total, tied_itself}
use Rattle.std.proofs.lemmas.List.Sorted.{searchable_from_sorted}
use Rattle.std.specs.Cmp.{IsTotalOrder}
use Rattle.std.specs.List.Sorted.{IsBinarySearchResult, IsSearchInRange, IsSortedBy}
use Rattle.std.specs.List.{AllWithin}
use Rattle.std.specs.Ordering.{is_lt, nat_cmp, ordering_then}
use Rattle.std.specs.Result.{is_ok}
use Rattle.std.specs.declared.cmp.Ordering.{Ordering}
use Rattle.std.specs.declared.cmp.Ordering.TheVariants.{Less, Equal, Greater}
use Rattle.qc_model.specs.declared.pair.Pair.{Pair}
use Rattle.qc_model.specs.Instance.{IsEarlier}

abbrev order : Pair → Pair → Ordering
order p q = ordering_then (nat_cmp p.first q.first) (nat_cmp p.second q.second)

order_total : IsTotalOrder order
order_total = then_total (on_total (λ p. p.first) nat_cmp_total) (on_total (λ p. p.second) nat_cmp_total)

not_less : (a b c d : ℕ) → a ≤ c → (a ≡ c → b < d) → is_lt (ordering_then (nat_cmp c a) (nat_cmp d b)) ≡ false
not_less a b c d h k = elim (cases_lt a c) [ inl l ↦ grind (arith, nat_tests) | inr l ↦ let e : a ≡ c = omega arith in let m = k e in grind (arith, nat_tests) ]

same_numbers : (a b c d : ℕ) → ordering_then (nat_cmp a c) (nat_cmp b d) ≡ Equal → (a ≡ c) × (b ≡ d)
same_numbers a b c d h = grind (arith, nat_tests)

sorted_pairs : (pairs : List Pair) → AllPairs IsEarlier pairs → IsSortedBy (λ p q. is_lt (order p q)) pairs
sorted_pairs pairs h = λ k d low high.
    let e = h k (k + 1) d (omega arith) high in
    not_less _ _ _ _ e.0 e.1

pub same_pair : (q r : Pair) → q.first ≡ r.first → q.second ≡ r.second → q ≡ r
same_pair q r first second = ap (λ m. record { first = m; second = q.second }) first ∙ ap (λ m. record { first = r.first; second = m }) second

-- a binary search tells whether the pair is there
pub found_there : (pairs : List Pair) (p : Pair) (r : Result ℕ ℕ) (b : Bool) → b ≡ is_ok r → IsSearchInRange r (length pairs) → IsBinarySearchResult (λ q. order q p) pairs r → AllPairs IsEarlier pairs → IsTrue b ↔ Contains pairs p
found_there pairs p (Ok i) b e low found up =
    let n = same_numbers _ _ _ _ (found p) in
    (λ _. (i, low, same_pair (get_or pairs i p) p n.0 n.1), λ _. e)
found_there pairs p (Err i) b e low found up = (λ t. absurd (true≢false (sym t ∙ e)), λ c. absurd (nowhere c.0 c.1 c.2))
  where
    point : AllWithin (λ q. order q p ≡ Less) pairs 0 i × AllWithin (λ q. order q p ≡ Greater) pairs i (length pairs)
    point = found (searchable_from_sorted order_total (λ q. q) pairs p (sorted_pairs pairs up))

    itself : (q : Pair) → q ≡ p → order q p ≡ Equal
    itself q e = subst (λ (x : Pair). order x p ≡ Equal) (sym e) (tied_itself order_total p)

    nowhere : (m : ℕ) → m < length pairs → get_or pairs m p ≡ p → ⊥
    nowhere m h e = elim (cases_lt m i) [
      | inl l ↦ let x = sym (point.0 m p (omega arith) l) ∙ itself _ e in cc
      | inr l ↦ let x = sym (point.1 m p l h) ∙ itself _ e in cc
    ]
