-- public: the table of the ship file that is made, by its numbers of hatches and cranes.
use Rattle.std.specs.Prelude.{ℕ, ◌+◌, ◌*◌, pos, List, ◌∷◌, map, codes, decimal}
use Rattle.std.specs.Cmp.Lexicographic.{slice_cmp}
use Rattle.std.specs.List.{range_with_len}
use Rattle.std.specs.Ordering.{match_ordering, nat_cmp}
use Rattle.toml.specs.Data.{Data, integer, string, array, table, Members, no_members, member}
use Rattle.toml.specs.View.{items_of}

-- hatch k, from 0: 2, 6, 10 and so on
abbrev pub hatch_number : ℕ → ℕ
hatch_number k = 4 * k + 2

-- the members with a value put at a key, in the order of the keys
abbrev pub with_member : List ℕ → Data → Members → Members
with_member key d no_members = member key d no_members
with_member key d (member k e ms) = match_ordering (slice_cmp nat_cmp key k)
    (member key d (member k e ms)) (member k d ms) (member k e (with_member key d ms))

-- a value that is a number
abbrev pub number_value : ℕ → Data
number_value n = integer (pos n)

-- the values of the hatches
abbrev pub hatch_values : ℕ → List Data
hatch_values hatches = map (λ k. number_value (hatch_number k)) (range_with_len 0 hatches)

-- the table of crane k, from 0, C1, C2 and so on at bays 1, 3 and so on, and the values of the cranes
abbrev pub crane_table : ℕ → Members
crane_table k = member (codes "bay") (number_value (2 * k + 1))
    (member (codes "name") (string (67 ∷ decimal (k + 1))) no_members)

abbrev pub crane_values : ℕ → List Data
crane_values cranes = map (λ k. table (crane_table k)) (range_with_len 0 cranes)

-- the table of the ship: a margin of one bay, 60 ticks of travel, 120 and 110 of a move, 240 of a cover; all other keys
-- are left out
abbrev pub ship_table : ℕ → ℕ → Members
ship_table hatches cranes =
    member (codes "cover") (number_value 240)
    (member (codes "crane") (array (items_of (crane_values cranes)))
    (member (codes "deck_move") (number_value 120)
    (member (codes "hatches") (array (items_of (hatch_values hatches)))
    (member (codes "hold_move") (number_value 110)
    (member (codes "margin") (number_value 1)
    (member (codes "travel") (number_value 60) no_members))))))
