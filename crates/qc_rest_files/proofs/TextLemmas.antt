-- A ship's table as a text.
use Rattle.std.proofs.Common.{◌≡◌, ◌<◌, ◌≤◌, ℕ, suc, zero, Bool, true, false, List, [], ◌∷◌, map, IsUtf8, IsOk, Result, Ok, Err, refl, arith}
use Rattle.std.specs.List.{list_all}
use Rattle.std.specs.Prelude.{MatchResult}
use Rattle.std.specs.Str.{IsAscii}
use Rattle.std.proofs.lemmas.Bool.{and_parts}
use Rattle.std.proofs.lemmas.Bool.Decides.{nat_tests}
use Rattle.std.proofs.lemmas.Str.{IsUtf8-from_ascii}
use Rattle.toml.specs.Data.{Data, depth, items_depth, members_depth}
use Rattle.toml.specs.View.{items_of}
use Rattle.qc_model.specs.Names.{is_name, is_name_byte}
use Rattle.qc_ship.specs.Ship.{ShipView}
use Rattle.qc_rest_files.specs.ShipTable.{apart_value, before_value, crane_value, number, release_value, ship_table, table_with}

byte_low : (b : ℕ) → is_name_byte b ≡ true → b < 128
byte_low b d = grind (arith, nat_tests, d)

ascii : (bs : List ℕ) → list_all is_name_byte bs ≡ true → IsAscii bs
ascii [] all i = omega arith
ascii (b ∷ bs) all zero = byte_low b (and_parts (is_name_byte b) (list_all is_name_byte bs) all).0
ascii (b ∷ bs) all (suc i) = ascii bs (and_parts (is_name_byte b) (list_all is_name_byte bs) all).1 i

-- the name of a crane is UTF-8
pub name_utf8 : (bs : List ℕ) → is_name bs ≡ true → IsUtf8 bs
name_utf8 bs named = IsUtf8-from_ascii bs (ascii bs (and_parts _ (list_all is_name_byte bs) named).1)

-- no array is deeper than two
flat : {B : Type 0} (value : B → Data) → ((x : B) → depth (value x) ≤ 1) → (xs : List B) → items_depth (items_of (map value xs)) ≤ 1
flat value low [] = omega arith
flat value low (x ∷ xs) = omega (arith, low x, flat value low xs)

pub table_flat : (ship : ShipView) → members_depth (ship_table ship) ≤ 80
table_flat ship = by ship.in_decimetres
  where
    by : (b : Bool) → members_depth (table_with b ship) ≤ 80
    by true =
        omega (
          arith,
          flat apart_value (λ x. omega arith) ship.apart,
          flat before_value (λ x. omega arith) ship.before,
          flat (crane_value ship.places) (λ x. omega arith) ship.cranes,
          flat number (λ x. omega arith) ship.hatches,
          flat release_value (λ x. omega arith) ship.not_before,
          flat number (λ x. omega arith) ship.places,
        )
    by false =
        omega (
          arith,
          flat apart_value (λ x. omega arith) ship.apart,
          flat before_value (λ x. omega arith) ship.before,
          flat (crane_value ship.places) (λ x. omega arith) ship.cranes,
          flat number (λ x. omega arith) ship.hatches,
          flat release_value (λ x. omega arith) ship.not_before,
        )

-- what came through or not came through where it can't have not
pub match_ok : {T E : Type 0} (r : Result T E) (P : T → Type 0) (Q : E → Type 0) → MatchResult r P Q → ((e : E) → ¬ Q e) → IsOk r
match_ok (Ok x) P Q m none = refl
match_ok (Err e) P Q m none = absurd (none e m)
