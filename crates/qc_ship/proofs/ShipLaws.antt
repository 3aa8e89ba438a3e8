-- What the checks of a ship file leave: the ship keeps the limits of its type.
use Rattle.std.proofs.Common.{map, ◌≡◌, ℕ, ◌+◌, ◌-◌, ◌<◌, ◌≤◌, ℤ, pos, negsuc, ◌≤ℤ◌, cond, List, [], ◌∷◌, ◌++◌, length, get_or, Some, Ok, Err, sym, subst, ◌∙◌, inl, inr, arith, AllPairs, nat_le, ◌&&◌, unsigned_abs, ok_or, option_map}
use Rattle.std.specs.List.{range_with_len}
use Rattle.std.proofs.lemmas.Bool.{cases_lt}
use Rattle.std.proofs.lemmas.Bool.Decides.{nat_tests}
use Rattle.std.proofs.lemmas.Int.{ints}
use Rattle.std.proofs.lemmas.List.FromFn.{get_or-range_with_len, length-range_with_len, get_or-map-range_with_len, length-map-range_with_len}
use Rattle.std.proofs.lemmas.Grind.{same_number_lists}
use Rattle.std.proofs.lemmas.List.Quantifiers.{all_pairs_push}
use Rattle.std.proofs.lemmas.Option.{slice_get-get_or}
use Rattle.qc_num.proofs.ReadingLemmas.{bind_ok, passed, same_ok}
use Rattle.toml.specs.Data.{Data, string, integer, float, boolean, datetime, array, table, as_array}
use Rattle.qc_ship.specs.declared.fault.Key.{Key}
use Rattle.qc_ship.specs.declared.fault.ShipKind.TheVariants.{WrongKind, Range}
use Rattle.qc_ship.specs.Keys.{fault}
use Rattle.qc_ship.specs.ShipValues.{elements, integer_in, number_in, array_in, last}

-- a relation of neighbours that carries over holds of each value and each later one
pub chain-push : {B : Type 0} (R : B → B → Type 0) → ((x y z : B) → R x y → R y z → R x z) → (before : List B) (b : B)
    → AllPairs R before → ((p : B) → last before ≡ Some p → R p b) → AllPairs R (before ++ b ∷ [])
chain-push {B} R carries before b pairs behind =
    all_pairs_push R before b pairs (λ k d within.
    let here : R (get_or before (length before - 1) d) b = behind _ (slice_get-get_or before (length before - 1) d (omega arith)) in
    elim (cases_lt k (length before - 1)) [
      | inl below ↦ carries _ _ _ (pairs k (length before - 1) d below (omega arith)) here
      | inr past ↦ (let same : length before - 1 ≡ k = omega arith in subst (λ (n : ℕ). R (get_or before n d) b) same here)
    ])

-- 1, 2 and so on, counted from 0
pub map-range_with_len : (n : ℕ) → map (λ k. k + 1) (range_with_len 0 n) ≡ range_with_len 1 n
map-range_with_len n =
    same_number_lists _ _ (length-map-range_with_len (λ k. k + 1) 0 n ∙ sym (length-range_with_len 1 n)) (λ k within.
    let inside : k < n = omega (arith, length-map-range_with_len (λ k. k + 1) 0 n) in
    omega (arith, get_or-map-range_with_len (λ k. k + 1) 0 n k k 0 inside (omega arith), get_or-range_with_len 1 n k 0 inside))

-- an integer between naturals
within_naturals : (low high : ℕ) (z : ℤ) (n : ℕ) → pos low ≤ℤ z → z ≤ℤ pos high → unsigned_abs z ≡ n → (low ≤ n) × (n ≤ high)
within_naturals low high (pos m) n from to same = grind (arith, ints)
within_naturals low high (negsuc m) n from to same = absurd (omega (arith, ints))

-- a bound on a number
pub integer_in-bounds : (key : Key) (number : ℕ) (low high : ℤ) (d : Data) (n : ℤ) → integer_in key number low high d ≡ Ok n → (low ≤ℤ n) × (n ≤ℤ high)
integer_in-bounds key number low high (integer z) n e =
    let (inside, same) = passed _ z n _ e in
    grind (arith, ints, inside, same)
integer_in-bounds key number low high (string _) n e = cc
integer_in-bounds key number low high (float _) n e = cc
integer_in-bounds key number low high (boolean _) n e = cc
integer_in-bounds key number low high (datetime _) n e = cc
integer_in-bounds key number low high (array _) n e = cc
integer_in-bounds key number low high (table _) n e = cc

pub number_in-bounds : (key : Key) (number low high : ℕ) (d : Data) (n : ℕ) → number_in key number low high d ≡ Ok n → (low ≤ n) × (n ≤ high)
number_in-bounds key number low high d n e =
    let (z, read, same) = bind_ok (integer_in key number (pos low) (pos high) d) (λ z. Ok (unsigned_abs z)) n e in
    let bounds = integer_in-bounds key number (pos low) (pos high) d z read in
    within_naturals low high z n bounds.0 bounds.1 (same_ok same)

pub array_in-count : (key : Key) (low high : ℕ) (d : Data) (ds : List Data) → array_in key low high d ≡ Ok ds → (low ≤ length ds) × (length ds ≤ high)
array_in-count key low high d ds e =
    let (items, read, same) = bind_ok (ok_or (option_map elements (as_array d)) (fault WrongKind key 0)) (λ items. cond (nat_le low (length items) && nat_le (length items) high) (Ok items) (Err (fault Range key 0))) ds e in
    let (inside, same) = passed _ items ds _ same in
    grind (arith, nat_tests, inside, same)
