-- What cranes that were read are.
use Rattle.std.proofs.Common.{◌≡◌, ◌≢◌, ℕ, ◌-◌, ◌<◌, ◌≤◌, pos, ◌+ℤ◌, ◌≤ℤ◌, Bool, true, false, List, [], length, map, get_or, Contains, Some, Ok, sym, subst, ◌∙◌, inl, inr, arith, slice_index, All, AllPairs, int_le, bytes_eq}
use Rattle.std.specs.List.{list_any}
use Rattle.std.proofs.lemmas.Bool.{cases_lt, false≢true}
use Rattle.std.proofs.lemmas.Int.{ints}
use Rattle.std.proofs.lemmas.List.{get_or_default}
use Rattle.std.proofs.lemmas.List.Elements.{All-push, Contains-get_or}
use Rattle.std.proofs.lemmas.List.Folds.{list_any-from_Any}
use Rattle.std.proofs.lemmas.List.Quantifiers.{all_pairs_push}
use Rattle.std.proofs.lemmas.Slice.Eq.{bytes_eq-Decides}
use Rattle.qc_num.specs.Reading.{◌>>=◌, each}
use Rattle.qc_num.proofs.Lists.{Contains-map}
use Rattle.qc_num.proofs.ReadingLemmas.{bind_ok, each-keeps, length-each, passed, passed_not, same_ok}
use Rattle.toml.specs.Data.{Data, Members, get_member}
use Rattle.qc_model.specs.declared.crane.Crane.{Crane}
use Rattle.qc_model.specs.Numbers.{most_cranes, most_ready}
use Rattle.qc_ship.specs.declared.fault.Key.{Key}
use Rattle.qc_ship.specs.declared.fault.Key.TheVariants as key
use Rattle.qc_ship.specs.declared.fault.ShipKind.TheVariants as kind
use Rattle.qc_ship.specs.Keys.{key_text, fault}
use Rattle.qc_ship.specs.Ship.{least_start, greatest_start}
use Rattle.qc_ship.specs.ShipValues.{required, integer_in, number_in, number_or, array_in, last, next_number}
use Rattle.qc_ship.specs.ShipFile.{table_in, name_at, hatch_place, crane_at, keeps_gap, crane_in, cranes_at}
use Rattle.qc_ship.proofs.ShipLaws.{chain-push, integer_in-bounds, number_in-bounds, array_in-count}
use Rattle.qc_ship.proofs.HatchLaws.{Places, either_way, test_at_last}

pub number_or-bounds : (default : ℕ) (k : Key) (number low high : ℕ) (ms : Members) (n : ℕ)
    → number_or default k number low high ms ≡ Ok n → low ≤ default → default ≤ high → (low ≤ n) × (n ≤ high)
number_or-bounds default k number low high ms n e from to =
    either_way (λ m. (low ≤ m) × (m ≤ high)) (number_in k number low high) (get_member (key_text k) ms) default n e (from, to) (λ d read. number_in-bounds k number low high d n read)

-- a crane's start bay, ready time and reach, which goes from the place of a hatch to that of the same or a later one
abbrev pub IsCraneOf : Bool → List ℕ → Crane → Type 0
IsCraneOf in_decimetres places c =
    (c.ready ≤ most_ready)
    × ((least_start in_decimetres ≤ℤ c.bay) × (c.bay ≤ℤ greatest_start in_decimetres))
    × (Contains (map pos places) c.from × Contains (map pos places) c.to × (c.from ≤ℤ c.to))

-- places rise with the hatches
place_rises : (places : List ℕ) (i j : ℕ) → AllPairs (λ p q. p < q) places → i ≤ j → j < length places → slice_index places i ≤ slice_index places j
place_rises places i j order from within =
    elim (cases_lt i j) [
      | inl under ↦ (let rises = order i j 0 under within in omega (arith, rises))
      | inr past ↦ (let same : i ≡ j = omega arith in subst (λ (k : ℕ). slice_index places i ≤ slice_index places k) same (omega arith))
    ]

-- the place of a hatch is one of the places
is_place : (places : List ℕ) (hatch : ℕ) → 1 ≤ hatch → hatch ≤ length places → Contains (map pos places) (hatch_place places hatch)
is_place places hatch from to = Contains-map pos places (slice_index places (hatch - 1)) (Contains-get_or places (hatch - 1) 0 (omega arith))

reach_of : (count : ℕ) (places : List ℕ) (from to : ℕ) → Places count places → 1 ≤ from → from ≤ to → to ≤ length places
    → Contains (map pos places) (hatch_place places from) × Contains (map pos places) (hatch_place places to) × (hatch_place places from ≤ℤ hatch_place places to)
reach_of count places from to are low middle high =
    let rises = place_rises places (from - 1) (to - 1) are.order (omega arith) (omega arith) in
    (is_place places from low (omega arith), is_place places to (omega arith) high, omega (arith, ints, rises))

crane_at-tells : (in_decimetres : Bool) (count : ℕ) (places : List ℕ) (number : ℕ) (ms : Members) (c : Crane)
    → Places count places → 1 ≤ count → crane_at in_decimetres places number ms ≡ Ok c
    → IsCraneOf in_decimetres places c
crane_at-tells in_decimetres count places number ms c are some e =
    let (name, named, e1) = bind_ok (name_at number ms) _ c e in
    let (ready, at_ready, e2) = bind_ok _ _ c e1 in
    let (bay, at_bay, e3) = bind_ok _ _ c e2 in
    let (from, at_from, e4) = bind_ok _ _ c e3 in
    let (to, at_to, e5) = bind_ok _ _ c e4 in
    let (d, given, read) = bind_ok (required key.Bay number ms) (integer_in key.Bay number (least_start in_decimetres) (greatest_start in_decimetres)) bay at_bay in
    let readies = number_or-bounds 0 key.Ready number 0 most_ready ms ready at_ready (omega arith) (omega arith) in
    let starts = integer_in-bounds key.Bay number (least_start in_decimetres) (greatest_start in_decimetres) d bay read in
    let froms = number_or-bounds 1 key.From number 1 (length places) ms from at_from (omega arith) (omega arith) in
    let tos = number_or-bounds (length places) key.To number from (length places) ms to at_to froms.1 (omega arith) in
    let P : Crane → Type 0 = IsCraneOf in_decimetres places in
    subst P (same_ok e5)
    (readies.1, starts, reach_of count places from to are froms.0 tos.0 tos.1)

-- the order of two neighbouring cranes
order_test : (gap : ℕ) (p c : Crane) → int_le (p.bay +ℤ pos gap) c.bay ≡ true → (p.bay +ℤ pos gap) ≤ℤ c.bay
order_test gap p c e = grind (arith, ints, e)

-- no earlier crane has the name
new_name : (before : List Crane) (c : Crane) → list_any (λ earlier. bytes_eq earlier.name c.name) before ≡ false
    → (k : ℕ) (d : Crane) → k < length before → (get_or before k d).name ≢ c.name
new_name before c none k d within = λ same.
    let there : list_any (λ earlier. bytes_eq earlier.name c.name) before ≡ true =
    list_any-from_Any (λ earlier. bytes_eq earlier.name c.name) before (k, get_or before k d, within, get_or_default before k (get_or before k d) d within, (bytes_eq-Decides _ _).1 same) in
    false≢true (sym none ∙ there)

crane_in-tells : (in_decimetres : Bool) (gap count : ℕ) (places : List ℕ) (before : List Crane) (d : Data) (c : Crane)
    → Places count places → 1 ≤ count → crane_in in_decimetres gap places before d ≡ Ok c
    → IsCraneOf in_decimetres places c
    × ((k : ℕ) (e : Crane) → k < length before → (get_or before k e).name ≢ c.name)
    × ((p : Crane) → last before ≡ Some p → (p.bay +ℤ pos gap) ≤ℤ c.bay)
crane_in-tells in_decimetres gap count places before d c are some e =
    let number = next_number before in
    let (ms, is_table, e1) = bind_ok (table_in number d) _ c e in
    let (crane, keys, e2) = bind_ok (crane_at in_decimetres places number ms) _ c e1 in
    let (fresh, e3) = passed_not (list_any (λ earlier. bytes_eq earlier.name crane.name) before) _ c (fault kind.NameTwice key.Name number) e2 in
    let (behind, same) = passed (keeps_gap gap before crane.bay) crane c (fault kind.CraneOrder key.Crane number) e3 in
    let P : Crane → Type 0 = λ c. IsCraneOf in_decimetres places c
    × ((k : ℕ) (e : Crane) → k < length before → (get_or before k e).name ≢ c.name)
    × ((p : Crane) → last before ≡ Some p → (p.bay +ℤ pos gap) ≤ℤ c.bay) in
    subst P same (
      crane_at-tells in_decimetres count places number ms crane are some keys,
      new_name before crane fresh,
      λ p here. order_test gap p crane (test_at_last (λ previous. int_le (previous.bay +ℤ pos gap) crane.bay) (last before) p here behind),
    )

-- the cranes of a file
pub record Cranes (in_decimetres : Bool) (gap : ℕ) (places : List ℕ) (cranes : List Crane) : Type 0 where
  pub count : (1 ≤ length cranes) × (length cranes ≤ most_cranes)
  pub each_one : All (IsCraneOf in_decimetres places) cranes
  pub names : AllPairs (λ c d. c.name ≢ d.name) cranes
  pub order : AllPairs (λ c d. (c.bay +ℤ pos gap) ≤ℤ d.bay) cranes

-- what holds of the cranes so far
abbrev SoFar : Bool → ℕ → List ℕ → List Crane → Type 0
SoFar in_decimetres gap places cranes =
    All (IsCraneOf in_decimetres places) cranes × AllPairs (λ c d. c.name ≢ d.name) cranes × AllPairs (λ c d. (c.bay +ℤ pos gap) ≤ℤ d.bay) cranes

pub Cranes-from : (in_decimetres : Bool) (gap count : ℕ) (places : List ℕ) (ms : Members) (cranes : List Crane)
    → Places count places → 1 ≤ count → cranes_at in_decimetres gap places ms ≡ Ok cranes
    → Cranes in_decimetres gap places cranes
Cranes-from in_decimetres gap count places ms cranes are some e =
    let judge = crane_in in_decimetres gap places in
    let (d, found, more) = bind_ok (required key.Crane 0 ms) (λ d. array_in key.Crane 1 most_cranes d >>= each judge []) cranes e in
    let (ds, read, judged) = bind_ok (array_in key.Crane 1 most_cranes d) (each judge []) cranes more in
    let counts = array_in-count key.Crane 1 most_cranes d ds read in
    let long = length-each judge [] ds cranes judged in
    let kept : SoFar in_decimetres gap places cranes = each-keeps judge (SoFar in_decimetres gap places) (λ before d c so_far step.
    let tells = crane_in-tells in_decimetres gap count places before d c are some step in (
      All-push (IsCraneOf in_decimetres places) before c so_far.0 tells.0,
      all_pairs_push (λ c d. c.name ≢ d.name) before c so_far.1 tells.1,
      chain-push (λ c d. (c.bay +ℤ pos gap) ≤ℤ d.bay) (λ x y z left right. omega (arith, ints)) before c so_far.2 tells.2,
    ))
    [] ds cranes (λ k d within. absurd (omega arith), λ i j d between within. absurd (omega arith), λ i j d between within. absurd (omega arith)) judged in
    record { count = (omega (arith, counts.0, long), omega (arith, counts.1, long)); each_one = kept.0; names = kept.1; order = kept.2 }
