-- public: cells of a ship: bay, row and tier (ISO 9711), here with even tiers above 0.
use Rattle.std.specs.Prelude.{ℕ, ◌+◌, ◌-◌, ◌/◌, ◌%◌, ◌<◌, ◌≡◌, List, [], ◌∷◌, ◌++◌, length, take, drop, Bool, not, ◌&&◌, ◌||◌, ◌==◌, nat_lt, nat_le, if◌then◌else◌, Result, Ok, Err, codes}
use Rattle.std.specs.Char.{is_ascii_digit}
use Rattle.std.specs.List.{list_all, list_any}
use Rattle.std.specs.Str.Parse.{digits_value}
use Rattle.qc_ship.specs.declared.cell.CellFault.{CellFault}
use Rattle.qc_ship.specs.declared.cell.CellFault.TheVariants.{Length, Digit, BayZero, TierOdd, TierZero}

-- a cell by its numbers
pub record CellView : Type 0 where
  pub bay : ℕ
  pub row : ℕ
  pub tier : ℕ

-- what the digits of a text write: the last two its tier, the two before them its row, and those
-- before them its bay
abbrev pub bay_in : List ℕ → ℕ
bay_in text = digits_value 10 (take (length text - 4) text)

abbrev pub row_in : List ℕ → ℕ
row_in text = digits_value 10 (take 2 (drop (length text - 4) text))

abbrev pub tier_in : List ℕ → ℕ
tier_in text = digits_value 10 (drop (length text - 2) text)

-- a bay, a row and a tier as a cell, or the first fault of them
abbrev pub cell_of : ℕ → ℕ → ℕ → Result CellView CellFault
cell_of bay row tier =
    if bay == 0 then Err BayZero
    else (if not (tier % 2 == 0) then Err TierOdd
    else (if tier == 0 then Err TierZero
    else Ok (record { bay = bay; row = row; tier = tier })))

-- what a text reads as: the first fault that applies, else its cell
abbrev pub cell_in : List ℕ → Result CellView CellFault
cell_in text =
    if not ((length text == 6) || (length text == 7)) then Err Length
    else (if not (list_all is_ascii_digit text) then Err Digit
    else cell_of (bay_in text) (row_in text) (tier_in text))

-- what every cell keeps: those are the cells that some text reads as
pub record IsCell (cell : CellView) : Type 0 where
  pub bay_low : 0 < cell.bay
  pub bay_high : cell.bay < 1000
  pub row : cell.row < 100
  pub tier_low : 0 < cell.tier
  pub tier_high : cell.tier < 100
  pub even : cell.tier % 2 ≡ 0

-- the two digits of a number below 100
abbrev pub two_digits : ℕ → List ℕ
two_digits n = (48 + n / 10) ∷ (48 + n % 10) ∷ []

-- the text of a cell: two digits of the bay, or three from bay 100 on, two of the row and two of the tier
abbrev pub cell_text : CellView → List ℕ
cell_text cell =
    (if nat_lt cell.bay 100 then two_digits cell.bay
    else (48 + cell.bay / 100) ∷ two_digits (cell.bay % 100))
    ++ two_digits cell.row ++ two_digits cell.tier

-- tiers from 70 on are on deck, and those below in the hold
abbrev pub is_on_deck : CellView → Bool
is_on_deck cell = nat_le 70 cell.tier

-- a cell at an even bay is one of 40 feet
abbrev pub is_forty : CellView → Bool
is_forty cell = cell.bay % 2 == 0

-- the bays of 20 feet that a bay covers: an odd one itself, an even one those on both sides of it
abbrev pub slots : ℕ → List ℕ
slots bay = if bay % 2 == 0 then (bay - 1) ∷ (bay + 1) ∷ [] else bay ∷ []

-- two cells overlap in one row and tier where they cover a bay of 20 feet in common
abbrev pub overlap : CellView → CellView → Bool
overlap a b = (a.row == b.row) && (a.tier == b.tier)
    && list_any (λ slot. list_any (λ other. slot == other) (slots b.bay)) (slots a.bay)

-- the text of a fault
abbrev pub fault_text : CellFault → List ℕ
fault_text Length = codes "Length"
fault_text Digit = codes "Digit"
fault_text BayZero = codes "BayZero"
fault_text TierOdd = codes "TierOdd"
fault_text TierZero = codes "TierZero"
