-- public: the fields of a file of past tasks.
use Rattle.std.specs.Prelude.{ℕ, ◌*◌, List, length, Bool, ◌&&◌, ◌==◌, nat_le, if◌then◌else◌, Option, None, Some, Result, Ok, Err, codes}
use Rattle.std.specs.List.{list_all}
use Rattle.std.specs.Str.{bytes_eq}
use Rattle.qc_num.specs.Digits.{number_in}
use Rattle.qc_lines.specs.Records.{field_of}
use Rattle.qc_model.specs.Names.{is_name_byte}
use Rattle.qc_model.specs.declared.task.Phase.{Phase}
use Rattle.qc_model.specs.declared.task.Phase.TheVariants.{DeckOut, HoldOut, HoldIn, DeckIn}
use Rattle.qc_past.specs.declared.fault.PastKind.{PastKind}
use Rattle.qc_past.specs.declared.fault.PastKind.TheVariants as kind

-- the four names of the columns
abbrev pub is_header : List (List ℕ) → Bool
is_header fields =
    (length fields == 4) && bytes_eq (field_of fields 0) (codes "call")
    && bytes_eq (field_of fields 1) (codes "phase") && bytes_eq (field_of fields 2) (codes "planned")
    && bytes_eq (field_of fields 3) (codes "real")

-- the name of a call: 1 to 20 ASCII letters, digits, '-' and '_'
abbrev pub is_call : List ℕ → Bool
is_call field = nat_le 1 (length field) && nat_le (length field) 20 && list_all is_name_byte field

-- the phase that a field names; none where it is '-', for any phase
abbrev pub phase_in : List ℕ → Result (Option Phase) PastKind
phase_in field =
    if bytes_eq field (codes "-") then Ok None
    else (if bytes_eq field (codes "DD") then Ok (Some DeckOut)
    else (if bytes_eq field (codes "DH") then Ok (Some HoldOut)
    else (if bytes_eq field (codes "LH") then Ok (Some HoldIn)
    else (if bytes_eq field (codes "LD") then Ok (Some DeckIn) else Err kind.Phase))))

-- a number from 1 on
abbrev pub from_one : Option ℕ → Result ℕ PastKind
from_one None = Err kind.Number
from_one (Some number) = if number == 0 then Err kind.Number else Ok number

-- the length that a field writes: plain decimal of at most 9 digits, and not 0
abbrev pub length_in : List ℕ → Result ℕ PastKind
length_in field = from_one (number_in 9 field)

-- how many times as long as planned a task may really have taken
abbrev pub most_times : ℕ
most_times = 100

-- the real length is told in the unit of the planned one
abbrev pub is_one_unit : (planned real : ℕ) → Bool
is_one_unit planned real = nat_le real (most_times * planned)
