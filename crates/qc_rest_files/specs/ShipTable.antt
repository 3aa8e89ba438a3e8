-- public: the table of a ship file that leaves nothing out, by what the ship is.
use Rattle.std.specs.Prelude.{ℕ, ◌+◌, ◌-◌, ℤ, pos, List, map, codes, Bool, true, false, not, position}
use Rattle.std.specs.Option.{option_map_or}
use Rattle.std.specs.Ordering.{int_eq}
use Rattle.toml.specs.Data.{Data, integer, string, array, table, no_items, item, Members, no_members, member}
use Rattle.toml.specs.View.{items_of}
use Rattle.qc_model.specs.declared.crane.Crane.{Crane}
use Rattle.qc_ship.specs.Ship.{ShipView}
use Rattle.qc_ship.specs.ShipFile.{name_text}
use Rattle.qc_ship.specs.declared.ship.HatchPair.{HatchPair}
use Rattle.qc_ship.specs.declared.ship.NamePair.{NamePair}
use Rattle.qc_ship.specs.declared.ship.NameTick.{NameTick}
use Rattle.qc_ship.specs.declared.ship.TaskName.{TaskName}

abbrev pub number : ℕ → Data
number n = integer (pos n)

abbrev pub two : Data → Data → Data
two a b = array (item a (item b no_items))

abbrev pub array_of : {B : Type 0} → (B → Data) → List B → Data
array_of value xs = array (items_of (map value xs))

-- the name of a task, and the entries of the arrays
abbrev pub name_value : TaskName → Data
name_value name = string (name_text name.hatch name.phase)

abbrev pub apart_value : HatchPair → Data
apart_value pair = two (number pair.a) (number pair.b)

abbrev pub before_value : NamePair → Data
before_value pair = two (name_value pair.first) (name_value pair.second)

abbrev pub release_value : NameTick → Data
release_value entry = two (name_value entry.name) (number entry.tick)

-- the number, from 1, of the hatch at a place
abbrev pub hatch_at : List ℕ → ℤ → ℕ
hatch_at places place = option_map_or (λ k. k + 1) (position (λ p. int_eq (pos p) place) places) 0

-- the table of a crane
abbrev pub crane_members : List ℕ → Crane → Members
crane_members places c =
    member (codes "bay") (integer c.bay)
    (member (codes "from") (number (hatch_at places c.from))
    (member (codes "name") (string c.name)
    (member (codes "ready") (number c.ready)
    (member (codes "to") (number (hatch_at places c.to)) no_members))))

abbrev pub crane_value : List ℕ → Crane → Data
crane_value places c = table (crane_members places c)

abbrev pub restows_text : Bool → List ℕ
restows_text true = codes "ordered"
restows_text false = codes "free"

-- a member that is there or isn't
abbrev pub member_if : Bool → List ℕ → Data → Members → Members
member_if true key d rest = member key d rest
member_if false key d rest = rest

-- the table, with or without places, its keys in the order of their bytes
abbrev pub table_with : Bool → ShipView → Members
table_with in_decimetres ship =
    member (codes "apart") (array_of apart_value ship.apart)
    (member (codes "before") (array_of before_value ship.before)
    (member_if in_decimetres (codes "clear") (number ship.gap)
    (member (codes "cover") (number ship.cover)
    (member (codes "crane") (array_of (crane_value ship.places) ship.cranes)
    (member (codes "deck_move") (number ship.deck_move)
    (member (codes "hatches") (array_of number ship.hatches)
    (member (codes "hold_move") (number ship.hold_move)
    (member_if (not in_decimetres) (codes "margin") (number (ship.gap - 1))
    (member (codes "not_before") (array_of release_value ship.not_before)
    (member_if in_decimetres (codes "places") (array_of number ship.places)
    (member (codes "restows") (string (restows_text ship.ordered))
    (member (codes "travel") (number ship.travel) no_members))))))))))))

-- `clear` and `places` of a ship that gives places, `margin` of another, and all other keys of each
abbrev pub ship_table : ShipView → Members
ship_table ship = table_with ship.in_decimetres ship
