-- public: the fields of a stowage list.
use Rattle.std.specs.Prelude.{ℕ, List, length, Bool, not, ◌&&◌, ◌==◌, ◌%◌, nat_le, if◌then◌else◌, codes}
use Rattle.std.specs.List.{list_all}

-- a visible character that is no comma and no double quote
abbrev pub is_id_byte : ℕ → Bool
is_id_byte b = nat_le 0x21 b && nat_le b 0x7E && not (b == 0x2C) && not (b == 0x22)

-- the id of a container: 1 to 20 such characters
abbrev pub is_id : List ℕ → Bool
is_id field = nat_le 1 (length field) && nat_le (length field) 20 && list_all is_id_byte field

-- the length in feet of the containers at a bay
abbrev pub length_text : ℕ → List ℕ
length_text bay = if bay % 2 == 0 then codes "40" else codes "20"
