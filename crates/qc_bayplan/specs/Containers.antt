-- public: the container that an EQD tells at a cell.
use Rattle.std.specs.Prelude.{ℕ, List, ◌++◌, length, filter, find, codes, Bool, true, not, ◌&&◌, ◌||◌, ◌==◌, nat_le, nat_lt, if◌then◌else◌, Option, None, Some, Result, Ok, ⊤}
use Rattle.std.specs.List.{list_any}
use Rattle.std.specs.Str.{bytes_eq}
use Rattle.qc_num.specs.Reading.{◌>>=◌, require}
use Rattle.qc_ship.specs.Cells.{CellView, cell_text, is_forty, overlap}
use Rattle.qc_stow.specs.Fields.{is_id}
use Rattle.qc_edifact.specs.Cuts.{Elements, part_of}
use Rattle.qc_bayplan.specs.Places.{is_no_blank}
use Rattle.qc_bayplan.specs.Plan.{most_containers}
use Rattle.qc_bayplan.specs.Sorts.{is_departure}
use Rattle.qc_bayplan.specs.declared.container.Found.{Found}
use Rattle.qc_bayplan.specs.declared.plan.Container.{Container}
use Rattle.qc_bayplan.specs.declared.plan.Which.{Which}
use Rattle.qc_bayplan.specs.declared.fault.BayPlanKind.{BayPlanKind}
use Rattle.qc_bayplan.specs.declared.fault.BayPlanKind.TheVariants as kind

-- the id that an EQD tells, without any blank
abbrev pub own_id : Elements → List ℕ
own_id eqd = filter is_no_blank (part_of eqd 2 0)

-- a container for departure without an id of its own
abbrev pub is_unnamed : Which → Elements → Bool
is_unnamed which eqd = is_departure which && (length (own_id eqd) == 0)

-- the id of a container: its own, or one that is made of its cell
abbrev pub id_of : Which → Elements → CellView → List ℕ
id_of which eqd cell = if is_unnamed which eqd then codes "NEW-" ++ cell_text cell else own_id eqd

-- the first character of the size that an EQD tells, if it tells one
abbrev pub size_of : Elements → Option ℕ
size_of eqd = find is_no_blank (part_of eqd 3 0)

-- the lengths that are known: `2`, `4`, `9` and `G` to `P`
abbrev pub is_size : Option ℕ → Bool
is_size None = true
is_size (Some b) = (b == 0x32) || (b == 0x34) || (b == 0x39) || (nat_le 0x47 b && nat_le b 0x50)

-- 20 feet stand at an odd bay, and more at an even one
abbrev pub fits : Option ℕ → CellView → Bool
fits None cell = true
fits (Some b) cell = if b == 0x32 then not (is_forty cell) else is_forty cell

-- the container with this id and this size, at a cell
abbrev pub judged : List ℕ → Bool → Option ℕ → CellView → Result Found BayPlanKind
judged id unnamed size cell = do
  _ ← require (is_id id) kind.Id
  _ ← require (is_size size) kind.Size
  _ ← require (fits size cell) kind.LengthMismatch
  Ok (record { container = record { id = id; cell = cell }; unnamed = unnamed })

-- the container of an EQD at a cell
abbrev pub container_at : Which → Elements → CellView → Result Found BayPlanKind
container_at which eqd cell =
    judged (id_of which eqd cell) (is_unnamed which eqd) (size_of eqd) cell

-- an earlier container has the id
abbrev pub has_id : List Container → List ℕ → Bool
has_id earlier id = list_any (λ other. bytes_eq id other.id) earlier

-- an earlier container has a cell that overlaps this one
abbrev pub is_taken : List Container → CellView → Bool
is_taken earlier cell = list_any (λ other. overlap cell other.cell) earlier

-- the earlier ones leave the id and the cell of a container
abbrev pub left_free : List Container → Container → Result ⊤ BayPlanKind
left_free earlier container = do
  _ ← require (not (has_id earlier container.id)) kind.IdTwice
  require (not (is_taken earlier container.cell)) kind.CellTaken

-- the container of an EQD, after the earlier ones, where its place tells this cell
abbrev pub next_container : Which → List Container → Result CellView BayPlanKind → Elements
    → Result Found BayPlanKind
next_container which earlier place eqd = do
  _ ← require (nat_lt (length earlier) most_containers) kind.TooMany
  cell ← place
  found ← container_at which eqd cell
  _ ← left_free earlier found.container
  Ok found
