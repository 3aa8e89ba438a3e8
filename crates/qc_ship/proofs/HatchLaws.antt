-- What hatches, places and pairs that were read are.
use Rattle.std.proofs.Common.{◌≡◌, ◌≢◌, ℕ, ◌+◌, ◌%◌, ◌<◌, ◌≤◌, pos, Bool, true, false, List, [], ◌∷◌, length, Option, Some, None, Ok, subst, ap, inl, inr, arith, nat_lt, suc, ◌==◌, ok_or, All, AllPairs, Contains, find}
use Rattle.std.specs.List.{range_with_len}
use Rattle.std.specs.Ordering.{int_eq}
use Rattle.std.specs.Option.{option_map_or}
use Rattle.std.proofs.lemmas.Bool.{cases_Bool}
use Rattle.std.proofs.lemmas.Bool.Decides.{nat_tests}
use Rattle.std.proofs.lemmas.List.Elements.{All-push}
use Rattle.std.proofs.lemmas.Option.{same_Some}
use Rattle.std.proofs.lemmas.List.FromFn.{get_or-range_with_len, length-range_with_len}
use Rattle.qc_num.specs.Reading.{◌>>=◌, each}
use Rattle.qc_num.proofs.ReadingLemmas.{bind_ok, each-keeps, length-each, passed, passed_not, same_ok}
use Rattle.toml.specs.Data.{Data, Members, get_member}
use Rattle.qc_model.specs.Numbers.{most_hatches, most_place}
use Rattle.qc_ship.specs.Numbers.{greatest_hatch, most_hatch_pairs}
use Rattle.qc_ship.specs.declared.fault.ShipFault.{ShipFault}
use Rattle.qc_ship.specs.declared.fault.Key.TheVariants as key
use Rattle.qc_ship.specs.declared.fault.ShipKind.TheVariants as kind
use Rattle.qc_ship.specs.Keys.{key_text, fault}
use Rattle.qc_ship.specs.declared.ship.HatchPair.{HatchPair}
use Rattle.qc_ship.specs.Ship.{lowest_bay, highest_bay, HasHatches}
use Rattle.qc_ship.specs.ShipValues.{Reading, required, array_in, last, next_number}
use Rattle.qc_ship.specs.ShipFile.{hatch_in, place_in, hatches_at, places_in, places_at, hatch_of, two_integers, pair_in, pairs_in, apart_at}
use Rattle.qc_ship.proofs.ShipLaws.{chain-push, number_in-bounds, array_in-count}

-- a test of the last value, where there is one
pub test_at_last : {B : Type 0} (test : B → Bool) (o : Option B) (p : B) → o ≡ Some p → option_map_or test o true ≡ true → test p ≡ true
test_at_last test None p here test_is = cc
test_at_last test (Some q) p here test_is = subst (λ x. test x ≡ true) (same_Some q p here) test_is

below : (a b : ℕ) → nat_lt a b ≡ true → a < b
below a b e = grind (arith, nat_tests)

lowest-highest : (h : ℕ) → lowest_bay h ≤ highest_bay h
lowest-highest h =
    elim (cases_Bool (h % 2 == 0)) [
      | inl even ↦ rw even (omega arith)
      | inr odd ↦ rw odd (omega arith)
    ]

-- what a hatch that was read is
hatch_in-tells : (before : List ℕ) (d : Data) (h : ℕ) → hatch_in before d ≡ Ok h
    → ((1 ≤ h) × (h ≤ greatest_hatch)) × ((p : ℕ) → last before ≡ Some p → highest_bay p < lowest_bay h)
hatch_in-tells before d h e =
    let (n, read, judged) = bind_ok _ _ h e in
    let (behind, same) = passed _ n h _ judged in
    let bounds : (1 ≤ n) × (n ≤ greatest_hatch) = number_in-bounds _ _ 1 greatest_hatch d n read in
    ((omega arith, omega arith), λ p here. subst (λ x. highest_bay p < lowest_bay x) same (below _ _ (test_at_last _ (last before) p here behind)))

place_in-tells : (before : List ℕ) (d : Data) (h : ℕ) → place_in before d ≡ Ok h
    → ((1 ≤ h) × (h ≤ most_place)) × ((p : ℕ) → last before ≡ Some p → p < h)
place_in-tells before d h e =
    let (n, read, judged) = bind_ok _ _ h e in
    let (behind, same) = passed _ n h _ judged in
    let bounds : (1 ≤ n) × (n ≤ most_place) = number_in-bounds _ _ 1 most_place d n read in
    ((omega arith, omega arith), λ p here. subst (λ x. p < x) same (below _ _ (test_at_last _ (last before) p here behind)))

-- the hatches of a file
pub HasHatches-from : (ms : Members) (hatches : List ℕ) → hatches_at ms ≡ Ok hatches → HasHatches hatches
HasHatches-from ms hatches e =
    let (d, found, more) = bind_ok (required key.Hatches 0 ms) (λ d. array_in key.Hatches 1 most_hatches d >>= each hatch_in []) hatches e in
    let (ds, read, judged) = bind_ok (array_in key.Hatches 1 most_hatches d) (each hatch_in []) hatches more in
    let counts : (1 ≤ length ds) × (length ds ≤ most_hatches) = array_in-count key.Hatches 1 most_hatches d ds read in
    let long : length hatches ≡ 0 + length ds = length-each hatch_in [] ds hatches judged in
    let P : List ℕ → Type 0 = λ hs. All (λ h. (1 ≤ h) × (h ≤ greatest_hatch)) hs × AllPairs (λ g h. highest_bay g < lowest_bay h) hs in
    let kept : P hatches = each-keeps hatch_in P (λ before d h so_far step.
    let tells = hatch_in-tells before d h step in (
      All-push (λ h. (1 ≤ h) × (h ≤ greatest_hatch)) before h so_far.0 tells.0,
      chain-push (λ g h. highest_bay g < lowest_bay h) (λ x y z left right. omega (arith, lowest-highest y)) before h so_far.1 tells.1,
    ))
    [] ds hatches (λ k d within. absurd (omega arith), λ i j d between within. absurd (omega arith)) judged in
    record { count = (omega (arith, counts.0, long), omega (arith, counts.1, long)); range = kept.0; order = kept.1 }

-- places that rise from 1 to 6,000, one for each hatch
pub record Places (count : ℕ) (places : List ℕ) : Type 0 where
  pub total : length places ≡ count
  pub range : All (λ p. (1 ≤ p) × (p ≤ most_place)) places
  pub order : AllPairs (λ p q. p < q) places

Places-from_array : (count : ℕ) (d : Data) (places : List ℕ) → places_in count d ≡ Ok places → Places count places
Places-from_array count d places e =
    let (ds, read, judged) = bind_ok (array_in key.Places count count d) (each place_in []) places e in
    let counts : (count ≤ length ds) × (length ds ≤ count) = array_in-count key.Places count count d ds read in
    let long : length places ≡ 0 + length ds = length-each place_in [] ds places judged in
    let P : List ℕ → Type 0 = λ ps. All (λ p. (1 ≤ p) × (p ≤ most_place)) ps × AllPairs (λ p q. p < q) ps in
    let kept : P places = each-keeps place_in P (λ before d h so_far step.
    let tells = place_in-tells before d h step in (
      All-push (λ p. (1 ≤ p) × (p ≤ most_place)) before h so_far.0 tells.0,
      chain-push (λ p q. p < q) (λ x y z left right. omega arith) before h so_far.1 tells.1,
    ))
    [] ds places (λ k d within. absurd (omega arith), λ i j d between within. absurd (omega arith)) judged in
    record { total = omega (arith, counts.0, counts.1, long); range = kept.0; order = kept.1 }

Places-counted : (count : ℕ) → count ≤ most_hatches → Places count (range_with_len 1 count)
Places-counted count few = record {
  total = length-range_with_len 1 count;
  range = λ k d within.
      let inside : k < count = omega (arith, length-range_with_len 1 count) in
      let at_k = get_or-range_with_len 1 count k d inside in
      (omega arith, omega arith);
  order = λ i j d between within.
      let inside : j < count = omega (arith, length-range_with_len 1 count) in
      omega (arith, get_or-range_with_len 1 count i d (omega arith), get_or-range_with_len 1 count j d inside);
}

-- a value at a key that may be left out
pub either_way : {A B : Type 0} (P : B → Type 0) (read : A → Reading B) (o : Option A) (default b : B)
    → option_map_or read o (Ok default) ≡ Ok b → P default → ((a : A) → read a ≡ Ok b → P b) → P b
either_way P read None default b e left_out given = subst P (same_ok e) left_out
either_way P read (Some a) default b e left_out given = given a e

pub Places-from : (count : ℕ) (ms : Members) (places : List ℕ) → count ≤ most_hatches → places_at count ms ≡ Ok places → Places count places
Places-from count ms places few e =
    either_way (Places count) (places_in count) _ (range_with_len 1 count) places e (Places-counted count few) (λ d read. Places-from_array count d places read)

-- pairs of different hatches of the ship
abbrev pub IsPairOf : List ℕ → HatchPair → Type 0
IsPairOf hatches pair = Contains hatches pair.a × Contains hatches pair.b × (pair.a ≢ pair.b)

pub not_equal : (a b : ℕ) → (a == b) ≡ false → a ≡ b → ⊥
not_equal a b differ equal = grind (arith, nat_tests)

pub find-Contains : {A : Type 0} (test : A → Bool) (xs : List A) (x : A) → find test xs ≡ Some x → Contains xs x
find-Contains test [] x e = cc
find-Contains test (y ∷ ys) x e =
    elim (cases_Bool (test y)) [
      | inl passes ↦ (0, omega arith, same_Some y x (rw passes at e))
      | inr fails ↦ (let (k, within, here) = find-Contains test ys x (rw fails at e) in (suc k, omega arith, here))
    ]

pub found : {A : Type 0} (o : Option A) (f : ShipFault) (a : A) → ◌≡◌ {A = Reading A} (ok_or o f) (Ok a) → o ≡ Some a
found None f a e = cc
found (Some x) f a e = ap Some (same_ok e)

pair_in-tells : (hatches : List ℕ) (before : List HatchPair) (d : Data) (pair : HatchPair) → pair_in hatches before d ≡ Ok pair → IsPairOf hatches pair
pair_in-tells hatches before d pair e =
    let number = next_number before in
    let apart = fault kind.Apart key.Apart number in
    let (numbers, two, e1) = bind_ok (ok_or (two_integers d) (fault kind.WrongKind key.Apart number)) _ pair e in
    let (a, at_a, e2) = bind_ok (ok_or (hatch_of hatches numbers.0) apart) _ pair e1 in
    let (b, at_b, e3) = bind_ok (ok_or (hatch_of hatches numbers.1) apart) _ pair e2 in
    let (differ, same) = passed_not (a == b) (Ok (record { a = a; b = b })) pair apart e3 in
    let P : HatchPair → Type 0 = IsPairOf hatches in
    subst P (same_ok same) (
      find-Contains (λ hatch. int_eq (pos hatch) numbers.0) hatches a (found (hatch_of hatches numbers.0) apart a at_a),
      find-Contains (λ hatch. int_eq (pos hatch) numbers.1) hatches b (found (hatch_of hatches numbers.1) apart b at_b),
      λ equal. not_equal a b differ equal,
    )

pub HasPairs-from : (hatches : List ℕ) (ms : Members) (pairs : List HatchPair) → apart_at hatches ms ≡ Ok pairs
    → (length pairs ≤ most_hatch_pairs) × All (IsPairOf hatches) pairs
HasPairs-from hatches ms pairs e =
    let P : List HatchPair → Type 0 = λ ps. (length ps ≤ most_hatch_pairs) × All (IsPairOf hatches) ps in
    either_way P (pairs_in hatches) (get_member (key_text key.Apart) ms) [] pairs e (omega arith, λ k d within. absurd (omega arith)) (λ d read.
    let (ds, items, judged) = bind_ok (array_in key.Apart 0 most_hatch_pairs d) (each (pair_in hatches) []) pairs read in
    let counts : (0 ≤ length ds) × (length ds ≤ most_hatch_pairs) = array_in-count key.Apart 0 most_hatch_pairs d ds items in
    let long : length pairs ≡ 0 + length ds = length-each (pair_in hatches) [] ds pairs judged in
    let Q : List HatchPair → Type 0 = All (IsPairOf hatches) in (
      omega (arith, counts.1, long),
      each-keeps (pair_in hatches) Q (λ before d pair so_far step. All-push (IsPairOf hatches) before pair so_far (pair_in-tells hatches before d pair step))
          [] ds pairs (λ k d within. absurd (omega arith)) judged,
    ))
