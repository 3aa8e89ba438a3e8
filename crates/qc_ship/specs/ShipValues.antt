-- public: values of a TOML table, each with its fault.
use Rattle.std.specs.Prelude.{◌≡◌, ℕ, ◌+◌, ◌-◌, ℤ, pos, List, [], ◌∷◌, length, slice_get, ◌&&◌, nat_le, int_le, unsigned_abs, if◌then◌else◌, Option, Result, Ok, Err, ok_or, option_map}
use Rattle.std.specs.Option.{option_map_or}
use Rattle.qc_num.specs.Reading.{◌>>=◌}
use Rattle.toml.specs.Data.{Data, integer, string, Items, no_items, item, Members, get_member, as_array}
use Rattle.qc_ship.specs.Keys.{key_text, fault}
use Rattle.qc_ship.specs.declared.fault.Key.{Key}
use Rattle.qc_ship.specs.declared.fault.ShipKind.TheVariants.{Missing, WrongKind, Range}
use Rattle.qc_ship.specs.declared.fault.ShipFault.{ShipFault}

-- a value, or the first fault on the way to it
abbrev pub Reading : Type 0 → Type 0
Reading V = Result V ShipFault

-- what was read, seen by `view`, stands for this reading
abbrev pub IsRead : {T V : Type 0} → (T → V) → Reading V → Result T ShipFault → Type 0
IsRead view reading (Ok x) = reading ≡ Ok (view x)
IsRead view reading (Err f) = reading ≡ Err f

-- the value at a key that must be there; `number` is that of the crane whose key it is, or 0
abbrev pub required : Key → ℕ → Members → Reading Data
required key number ms = ok_or (get_member (key_text key) ms) (fault Missing key number)

-- the items of an array, in order
abbrev pub elements : Items → List Data
elements no_items = []
elements (item d ds) = d ∷ elements ds

-- an integer from `low` to `high`
abbrev pub integer_in : Key → ℕ → ℤ → ℤ → Data → Reading ℤ
integer_in key number low high (integer n) = if int_le low n && int_le n high then Ok n
    else Err (fault Range key number)
integer_in key number low high _ = Err (fault WrongKind key number)

-- the same, as a natural
abbrev pub number_in : Key → ℕ → ℕ → ℕ → Data → Reading ℕ
number_in key number low high d = do
  n ← integer_in key number (pos low) (pos high) d
  Ok (unsigned_abs n)

abbrev pub number_at : Key → ℕ → ℕ → ℕ → Members → Reading ℕ
number_at key number low high ms = required key number ms >>= number_in key number low high

-- the same at a key that may be left out
abbrev pub number_or : ℕ → Key → ℕ → ℕ → ℕ → Members → Reading ℕ
number_or default key number low high ms =
    option_map_or (number_in key number low high) (get_member (key_text key) ms) (Ok default)

-- an array of `low` to `high` values
abbrev pub array_in : Key → ℕ → ℕ → Data → Reading (List Data)
array_in key low high d = do
  ds ← ok_or (option_map elements (as_array d)) (fault WrongKind key 0)
  if nat_le low (length ds) && nat_le (length ds) high then Ok ds else Err (fault Range key 0)

-- a text
abbrev pub text_in : Key → ℕ → Data → Reading (List ℕ)
text_in key number (string s) = Ok s
text_in key number _ = Err (fault WrongKind key number)

-- the number of the value after these, counted from 1
abbrev pub next_number : {B : Type 0} → List B → ℕ
next_number before = length before + 1

-- the last value
abbrev pub last : {B : Type 0} → List B → Option B
last before = slice_get before (length before - 1)
