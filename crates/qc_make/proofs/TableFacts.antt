-- What a table shows after a change, and how deep it is.
use Rattle.std.proofs.Common.{◌≡◌, ◌≤◌, ◌+◌, ℕ, List, [], ◌∷◌, ◌++◌, map, Ordering, Less, Equal, Greater, Global, String, string_bytes, refl, sym, ◌∙◌, arith}
use Rattle.std.specs.BTreeMap.{insert_entry}
use Rattle.std.specs.List.{range_with_len}
use Rattle.std.specs.Ordering.{match_ordering}
use Rattle.std.proofs.lemmas.List.{map-append}
use Rattle.std.proofs.lemmas.List.FromFn.{map-range_with_len_more}
use Rattle.std.specs.String.{string_cmp}
use Rattle.toml.specs.Data.{Data, table, items_depth, members_depth}
use Rattle.toml.specs.View.{items_of, members_view, view}
use Rattle.toml.specs.declared.value.Value.{Value}
use Rattle.toml.proofs.Views.{Entry}
use Rattle.qc_make.specs.MadeTable.{crane_table, hatch_number, number_value, ship_table, with_member}

-- a value put at a key
members_by : (o : Ordering) (a b c : List Entry) → members_view (match_ordering o a b c) ≡ match_ordering o (members_view a) (members_view b) (members_view c)
members_by Less a b c = refl
members_by Equal a b c = refl
members_by Greater a b c = refl

pub members_put : (es : List Entry) (k : String Global) (v : Value) → members_view (insert_entry string_cmp es k v) ≡ with_member (string_bytes k) (view v) (members_view es)
members_put [] k v = refl
members_put (e ∷ es) k v = members_by (string_cmp k e.0) _ _ _ ∙ rw (members_put es k v) refl

-- one value more of a list
pub values_more : (f : ℕ → Data) (vs : List Value) (v : Value) (k : ℕ) → map view vs ≡ map f (range_with_len 0 k) → view v ≡ f k → map view (vs ++ v ∷ []) ≡ map f (range_with_len 0 (k + 1))
values_more f vs v k so_far here = map-append view vs (v ∷ []) ∙ rw (so_far, here) (sym (map-range_with_len_more f 0 k k (omega arith)))

-- numbers have no depth, and tables of a crane one
numbers_flat : (ns : List ℕ) → items_depth (items_of (map (λ k. number_value (hatch_number k)) ns)) ≡ 0
numbers_flat [] = refl
numbers_flat (n ∷ ns) = rw (numbers_flat ns) refl

cranes_flat : (ns : List ℕ) → items_depth (items_of (map (λ k. table (crane_table k)) ns)) ≤ 1
cranes_flat [] = omega arith
cranes_flat (n ∷ ns) = omega (arith, cranes_flat ns)

pub table_flat : (hatches cranes : ℕ) → members_depth (ship_table hatches cranes) ≤ 80
table_flat hatches cranes = omega (arith, numbers_flat (range_with_len 0 hatches), cranes_flat (range_with_len 0 cranes))
