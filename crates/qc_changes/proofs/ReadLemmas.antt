-- What the reader of stowage lists makes of a list of moves.
use Rattle.std.proofs.Common.{◌≡◌, ◌≢◌, ◌∙◌, ◌⊎◌, ◌<◌, ◌≤◌, ◌+◌, ◌++◌, ◌∷◌, ◌==◌, ◌&&◌, ◌||◌, ◌/◌, ◌%◌, nat_lt, [], ℕ, Bool, true, false, cond, List, map, length, take, Some, Result, Ok, Err, codes, refl, sym, ap, subst, inl, inr, arith}
use Rattle.std.specs.Prelude.{is_some}
use Rattle.std.specs.Char.{digit_value, is_ascii_digit}
use Rattle.std.specs.Str.Parse.{digits_value}
use Rattle.std.specs.Str.{bytes_eq}
use Rattle.std.specs.List.{flat_map, list_all, list_any, AllByRecursion as Each}
use Rattle.std.proofs.lemmas.Bool.{and_parts, cases_Bool, lt-ltb, ltb-true}
use Rattle.std.proofs.lemmas.Bool.Decides.{nat_tests}
use Rattle.std.proofs.lemmas.List.{append_assoc, length-append, length-map, take_all}
use Rattle.std.proofs.lemmas.List.Folds.{list_any-append}
use Rattle.std.proofs.lemmas.List.Elements.{recursion_from_All}
use Rattle.csv.specs.Machine.{next_record}
use Rattle.csv.specs.Reading.{Reached, default_config, strip_bom}
use Rattle.csv.specs.Writing.{default_writer, needs_byte, row_text}
use Rattle.csv.specs.declared.parser.State.TheVariants as st
use Rattle.csv.proofs.RoundTrip.{read-write-many}
use Rattle.qc_num.specs.Reading.{each}
use Rattle.qc_lines.specs.Records.{records_of}
use Rattle.qc_lines.proofs.PlainRows.{four_fields, none_special}
use Rattle.qc_lines.proofs.WholeReads.{all-of}
use Rattle.qc_ship.specs.Cells as cells
use Rattle.qc_ship.specs.Cells.{CellView, IsCell, bay_in, cell_in, cell_text, overlap, tier_in, two_digits}
use Rattle.qc_ship.specs.Ship.{ShipView, place_of_bay}
use Rattle.qc_stow.specs.Fields.{is_id, is_id_byte}
use Rattle.qc_stow.specs.Fields as stow
use Rattle.qc_stow.specs.Moves.{AreMoves, has_id, is_taken, most_moves, same_move}
use Rattle.qc_stow.specs.Rows.{row_in}
use Rattle.qc_stow.specs.Stow.{moves_in, moves_of, next_row, numbered, over_hatch}
use Rattle.qc_stow.specs.declared.columns.Columns.{Columns}
use Rattle.qc_stow.specs.declared.fault.StowFault.{StowFault}
use Rattle.qc_stow.specs.declared.fault.StowKind.TheVariants as kind
use Rattle.qc_stow.specs.declared.row.Move.{Move}
use Rattle.qc_stow.specs.declared.row.Move.TheVariants.{Discharge, Load}
use Rattle.qc_stow.specs.declared.row.Row.{Row}
use Rattle.qc_bayplan.specs.Plan.{AreContainers, IsContainer}
use Rattle.qc_bayplan.specs.declared.plan.Container.{Container}
use Rattle.qc_changes.specs.Changes.{AreChanges, ChangesView}
use Rattle.qc_changes.specs.Classes.{stands}
use Rattle.qc_changes.specs.MoveList.{IsMoveList, row_of}
use Rattle.qc_changes.specs.ListText.{IsPlain, header, list_text, move_text, read_for, row_line}
use Rattle.qc_changes.proofs.Elements.{EachPair, In, each_in, pairs_from_index}
use Rattle.qc_changes.proofs.LeadLemmas.{apart, apart', cells_apart, each_off, each_on, off_apart, off_kinds, off_stand, on_apart, on_kinds, on_stand, pair_append, pair_from}
use Rattle.qc_changes.proofs.StandLemmas.{coming_in, going_in, id_other}

-- ---- the text of a cell

digit_is : (k : ℕ) → k < 10 → is_ascii_digit (48 + k) ≡ true
digit_is k low = grind (arith, nat_tests, low)

digit_back : (k : ℕ) → k < 10 → digit_value (48 + k) ≡ k
digit_back k low = grind (arith, nat_tests, low)

two_back : (n : ℕ) → n < 100 → digits_value 10 (two_digits n) ≡ n
two_back n low = rw (digit_back (n / 10) (omega arith), digit_back (n % 10) (omega arith)) (omega arith)

three_back : (n : ℕ) → n < 1000 → digits_value 10 ((48 + n / 100) ∷ two_digits (n % 100)) ≡ n
three_back n low =
    rw (digit_back (n / 100) (omega arith), digit_back (n % 100 / 10) (omega arith), digit_back (n % 100 % 10) (omega arith)) (omega arith)

two_all : (n : ℕ) (rest : List ℕ) → n < 100 → list_all is_ascii_digit rest ≡ true → list_all is_ascii_digit (two_digits n ++ rest) ≡ true
two_all n rest low all = rw (digit_is (n / 10) (omega arith), digit_is (n % 10) (omega arith), all) refl

by_parts : (text : List ℕ) (bay row tier : ℕ) → ((length text == 6) || (length text == 7)) ≡ true → list_all is_ascii_digit text ≡ true
    → bay_in text ≡ bay → cells.row_in text ≡ row → tier_in text ≡ tier → 0 < bay → 0 < tier → tier % 2 ≡ 0
    → cell_in text ≡ Ok (record { bay = bay; row = row; tier = tier })
by_parts text bay row tier size digits bay_is row_is tier_is bay_low tier_low even =
    let some_bay : (bay == 0) ≡ false = grind (arith, nat_tests, bay_low) in
    let some_tier : (tier == 0) ≡ false = grind (arith, nat_tests, tier_low) in
    let even_tier : (tier % 2 == 0) ≡ true = grind (arith, nat_tests, even) in
    rw (size, digits, bay_is, row_is, tier_is, some_bay, even_tier, some_tier) refl

place_digits : (cell : CellView) → IsCell cell → list_all is_ascii_digit (two_digits cell.row ++ two_digits cell.tier) ≡ true
place_digits cell is = two_all cell.row (two_digits cell.tier) is.row (two_all cell.tier [] is.tier_high refl)

cell_digits : (cell : CellView) → IsCell cell → list_all is_ascii_digit (cell_text cell) ≡ true
cell_digits cell is = elim (cases_Bool (nat_lt cell.bay 100)) [
  | inl low ↦ rw low (two_all cell.bay (two_digits cell.row ++ two_digits cell.tier) (ltb-true cell.bay 100 low) (place_digits cell is))
  | inr high ↦ rw (high, digit_is (cell.bay / 100) (omega (arith, is.bay_high))) (two_all (cell.bay % 100) (two_digits cell.row ++ two_digits cell.tier) (omega arith) (place_digits cell is))
]

cell_back : (cell : CellView) → IsCell cell → cell_in (cell_text cell) ≡ Ok cell
cell_back cell is = by (nat_lt cell.bay 100) refl
  where
    by : (b : Bool) → nat_lt cell.bay 100 ≡ b
        → cell_in (cond b (two_digits cell.bay) ((48 + cell.bay / 100) ∷ two_digits (cell.bay % 100)) ++ two_digits cell.row ++ two_digits cell.tier) ≡ Ok cell
    by true low =
        let small = ltb-true cell.bay 100 low in
        by_parts (two_digits cell.bay ++ two_digits cell.row ++ two_digits cell.tier) cell.bay cell.row cell.tier refl
        (two_all cell.bay (two_digits cell.row ++ two_digits cell.tier) small (place_digits cell is))
        (two_back cell.bay small) (two_back cell.row is.row) (two_back cell.tier is.tier_high) is.bay_low is.tier_low is.even
    by false high =
        by_parts (((48 + cell.bay / 100) ∷ two_digits (cell.bay % 100)) ++ two_digits cell.row ++ two_digits cell.tier) cell.bay cell.row cell.tier refl
        (rw (digit_is (cell.bay / 100) (omega (arith, is.bay_high))) (two_all (cell.bay % 100) (two_digits cell.row ++ two_digits cell.tier) (omega arith) (place_digits cell is)))
        (three_back cell.bay is.bay_high) (two_back cell.row is.row) (two_back cell.tier is.tier_high) is.bay_low is.tier_low is.even

-- ---- the text of a list, as records

id_plain : (b : ℕ) → is_id_byte b ≡ true → needs_byte default_writer b ≡ false
id_plain b d = grind (arith, nat_tests, d)

digit_plain : (b : ℕ) → is_ascii_digit b ≡ true → needs_byte default_writer b ≡ false
digit_plain b d = grind (arith, nat_tests, d)

kind_field : Move → List ℕ
kind_field Discharge = codes "D"
kind_field Load = codes "L"

abbrev line_fields : Row → List (List ℕ)
line_fields row = row.id ∷ kind_field row.kind ∷ cell_text row.cell ∷ stow.length_text row.cell.bay ∷ []

line_is : (row : Row) → IsPlain row → row_line row ≡ row_text default_writer (line_fields row)
unfolding kind_field
line_is row plain =
    joined row.kind (row.cell.bay % 2 == 0)
    ∙ sym (four_fields row.id (kind_field row.kind) (cell_text row.cell) (stow.length_text row.cell.bay)
    (none_special is_id_byte id_plain row.id (and_parts _ (list_all is_id_byte row.id) plain.id).1) (kind_plain row.kind)
    (none_special is_ascii_digit digit_plain (cell_text row.cell) (cell_digits row.cell plain.cell)) (length_plain (row.cell.bay % 2 == 0)))
  where
    kind_plain : (k : Move) → list_any (needs_byte default_writer) (kind_field k) ≡ false
    kind_plain Discharge = refl
    kind_plain Load = refl

    length_plain : (b : Bool) → list_any (needs_byte default_writer) (cond b (codes "40") (codes "20")) ≡ false
    length_plain true = refl
    length_plain false = refl

    front : (k : Move) (rest : List ℕ) → move_text k ++ rest ≡ codes "," ++ (kind_field k ++ (codes "," ++ rest))
    front Discharge rest = refl
    front Load rest = refl

    tail : (b : Bool) → cond b (codes ",40\n") (codes ",20\n") ≡ codes "," ++ (cond b (codes "40") (codes "20") ++ codes "\n")
    tail true = refl
    tail false = refl

    -- what is put together from the left, from the right
    right : (a b c d e f g h : List ℕ) → a ++ b ++ c ++ d ++ e ++ f ++ g ++ h ≡ a ++ (b ++ (c ++ (d ++ (e ++ (f ++ (g ++ h))))))
    right a b c d e f g h =
        append_assoc (a ++ b ++ c ++ d ++ e ++ f) g h ∙ append_assoc (a ++ b ++ c ++ d ++ e) f (g ++ h)
        ∙ append_assoc (a ++ b ++ c ++ d) e (f ++ (g ++ h)) ∙ append_assoc (a ++ b ++ c) d (e ++ (f ++ (g ++ h)))
        ∙ append_assoc (a ++ b) c (d ++ (e ++ (f ++ (g ++ h)))) ∙ append_assoc a b (c ++ (d ++ (e ++ (f ++ (g ++ h)))))

    joined : (k : Move) (b : Bool) → row.id ++ move_text k ++ cell_text row.cell ++ cond b (codes ",40\n") (codes ",20\n")
        ≡ row.id ++ codes "," ++ kind_field k ++ codes "," ++ cell_text row.cell ++ codes "," ++ cond b (codes "40") (codes "20") ++ codes "\n"
    joined k b =
        let size = cond b (codes "40") (codes "20") ++ codes "\n" in
        append_assoc (row.id ++ move_text k) (cell_text row.cell) (cond b (codes ",40\n") (codes ",20\n"))
        ∙ append_assoc row.id (move_text k) (cell_text row.cell ++ cond b (codes ",40\n") (codes ",20\n"))
        ∙ ap (λ (t : List ℕ). row.id ++ (move_text k ++ (cell_text row.cell ++ t))) (tail b)
        ∙ ap (λ (t : List ℕ). row.id ++ t) (front k (cell_text row.cell ++ (codes "," ++ size)))
        ∙ sym (right row.id (codes ",") (kind_field k) (codes ",") (cell_text row.cell) (codes ",") (cond b (codes "40") (codes "20")) (codes "\n"))

lines_reached : (rows : List Row) → Each IsPlain rows
    → Reached default_config st.StartRecord (flat_map row_line rows) (map line_fields rows) st.StartRecord []
unfolding Reached
lines_reached [] all = (refl, refl)
lines_reached (row ∷ rows) all =
    let rest = flat_map row_line rows in (
      (line_fields row, st.StartRecord, rest),
      rw (line_is row all.0) (read-write-many row.id (kind_field row.kind) (cell_text row.cell ∷ stow.length_text row.cell.bay ∷ []) rest),
      refl,
      lines_reached rows all.1,
    )

abbrev names : List (List ℕ)
names = codes "id" ∷ codes "move" ∷ codes "cell" ∷ codes "length" ∷ []

text_records : (rows : List Row) → Each IsPlain rows → records_of (list_text rows) ≡ names ∷ map line_fields rows
unfolding Reached strip_bom next_record
text_records rows all =
    let rest = flat_map row_line rows in
    let titled : row_text default_writer names ≡ header = four_fields (codes "id") (codes "move") (codes "cell") (codes "length") refl refl refl refl in
    let whole : Reached default_config st.StartRecord (header ++ rest) (names ∷ map line_fields rows) st.StartRecord [] = (
      (names, st.StartRecord, rest),
      subst (λ (first : List ℕ). next_record default_config st.StartRecord [] [] (first ++ rest) ≡ Some (names, st.StartRecord, rest)) titled
          (read-write-many (codes "id") (codes "move") (codes "cell" ∷ codes "length" ∷ []) rest),
      refl,
      lines_reached rows all,
    ) in
    sym (all-of st.StartRecord (header ++ rest) [] (names ∷ map line_fields rows) whole refl)

-- ---- the rows of these records

length_fits : (b : Bool) → bytes_eq (cond b (codes "40") (codes "20")) (cond b (codes "40") (codes "20")) ≡ true
length_fits true = refl
length_fits false = refl

abbrev columns : Columns
columns = record { id = 0; kind = 1; cell = 2; length = 3; all = 4 }

fields_back : (id : List ℕ) (k : Move) (cell : CellView) → is_id id ≡ true → IsCell cell
    → row_in columns (id ∷ kind_field k ∷ cell_text cell ∷ stow.length_text cell.bay ∷ []) ≡ Ok (record { id = id; kind = k; cell = cell })
unfolding kind_field
fields_back id Discharge cell id_is is = rw (id_is, cell_back cell is, length_fits (cell.bay % 2 == 0)) refl
fields_back id Load cell id_is is = rw (id_is, cell_back cell is, length_fits (cell.bay % 2 == 0)) refl

row_back : (row : Row) → IsPlain row → row_in columns (line_fields row) ≡ Ok row
row_back row plain = fields_back row.id row.kind row.cell plain.id plain.cell

-- a later row leaves an earlier one its id and its cell
record Leaves (earlier row : Row) : Type 0 where
  id : (same_move row.kind earlier.kind && bytes_eq row.id earlier.id) ≡ false
  cell : (same_move row.kind earlier.kind && overlap row.cell earlier.cell) ≡ false

record LeavesAll (earlier : List Row) (row : Row) : Type 0 where
  id : has_id earlier row ≡ false
  cell : is_taken earlier row ≡ false

leaves_more : (earlier : List Row) (one row : Row) → LeavesAll earlier row → Leaves one row → LeavesAll (earlier ++ one ∷ []) row
leaves_more earlier one row all leaves = record {
  id = list_any-append (λ (e : Row). same_move row.kind e.kind && bytes_eq row.id e.id) earlier (one ∷ []) ∙ rw (all.id, leaves.id) refl;
  cell = list_any-append (λ (e : Row). same_move row.kind e.kind && overlap row.cell e.cell) earlier (one ∷ []) ∙ rw (all.cell, leaves.cell) refl;
}

same_kinds : (k l : Move) → same_move k l ≡ true → l ≡ k
same_kinds Discharge Discharge e = refl
same_kinds Discharge Load e = cc
same_kinds Load Discharge e = cc
same_kinds Load Load e = refl

abbrev OtherId : Row → Row → Type 0
OtherId a b = a.kind ≡ b.kind → a.id ≢ b.id

abbrev OtherCell : Row → Row → Type 0
OtherCell a b = a.kind ≡ b.kind → overlap b.cell a.cell ≡ false

leaves_other : (a b : Row) → OtherId a b → OtherCell a b → Leaves a b
leaves_other a b id cell = elim (cases_Bool (same_move b.kind a.kind)) [
  | inl same ↦
      let one = same_kinds b.kind a.kind same in
      record { id = rw same (id_other b.id a.id (λ e. id one (sym e))); cell = rw same (cell one) }
  | inr other ↦ record { id = rw other refl; cell = rw other refl }
]

all_leave : (rows : List Row) → EachPair OtherId rows → EachPair OtherCell rows → EachPair Leaves rows
all_leave [] ids cells = tt
all_leave (row ∷ rows) ids cells = (each_leaves rows ids.0 cells.0, all_leave rows ids.1 cells.1)
  where
    each_leaves : (rs : List Row) → Each (OtherId row) rs → Each (OtherCell row) rs → Each (Leaves row) rs
    each_leaves [] i c = tt
    each_leaves (r ∷ rs) i c = (leaves_other row r i.0 c.0, each_leaves rs i.1 c.1)

module _ (ship : ShipView) where
  abbrev judge : List Row → Row → Result Row StowFault
  judge earlier row = numbered (length earlier + 2) (over_hatch ship row)

  next_back : (earlier : List Row) (row : Row) → length earlier < most_moves → IsPlain row → LeavesAll earlier row
      → next_row ship columns earlier (line_fields row) ≡ judge earlier row
  next_back earlier row few plain leaves =
      let room = lt-ltb (length earlier) most_moves few in
      elim (cases_Bool (is_some (place_of_bay ship row.cell.bay))) [
        | inl there ↦ rw (room, row_back row plain, there, leaves.id, leaves.cell) refl
        | inr none ↦ rw (room, row_back row plain, none) refl
      ]

  hatch_row : (earlier : List Row) (row : Row) → (judge earlier row ≡ Ok row) ⊎ ((why : StowFault) × (judge earlier row ≡ Err why))
  hatch_row earlier row = elim (cases_Bool (is_some (place_of_bay ship row.cell.bay))) [
    | inl there ↦ inl (rw there refl)
    | inr none ↦ inr (record { number = length earlier + 2; kind = kind.NoHatch }, rw none refl)
  ]

  each_back : (earlier rows : List Row) → length earlier + length rows ≤ most_moves → Each IsPlain rows → Each (LeavesAll earlier) rows
      → EachPair Leaves rows → each (next_row ship columns) earlier (map line_fields rows) ≡ each judge earlier rows
  each_back earlier [] few plain leaves pairs = refl
  each_back earlier (row ∷ rows) few plain leaves pairs =
      let next = next_back earlier row (omega (arith, few)) plain.0 leaves.0 in
      elim (hatch_row earlier row) [
        | inr stop ↦ rw (next ∙ stop.1, stop.1) refl
        | inl on ↦ rw (next ∙ on, on) (each_back (earlier ++ row ∷ []) rows (omega (arith, few, length-append earlier (row ∷ []))) plain.1 (more rows leaves.1 pairs.0) pairs.1)
      ]
    where
      more : (rs : List Row) → Each (LeavesAll earlier) rs → Each (Leaves row) rs → Each (LeavesAll (earlier ++ row ∷ [])) rs
      more [] a b = tt
      more (r ∷ rs) a b = (leaves_more earlier row r a.0 b.0, more rs a.1 b.1)

  rows_read : (rows : List Row) → length rows ≤ most_moves → Each IsPlain rows → EachPair Leaves rows
      → moves_in ship (list_text rows) ≡ read_for ship rows
  rows_read rows few plain pairs =
      let records = map line_fields rows in
      let size : length (names ∷ records) ≤ most_moves + 2 = omega (arith, few, length-map rows line_fields) in
      ap (λ (rs : List (List (List ℕ))). moves_of ship (take (most_moves + 2) rs)) (text_records rows plain)
      ∙ ap (moves_of ship) (take_all (most_moves + 2) (names ∷ records) size)
      ∙ each_back [] rows (omega (arith, few)) plain (none_before rows) pairs
    where
      none_before : (rs : List Row) → Each (LeavesAll []) rs
      none_before [] = tt
      none_before (r ∷ rs) = (record { id = refl; cell = refl }, none_before rs)

  -- any moves of a list, where their ids and cells are such
  pub moves_read : (rows : List Row) → AreMoves rows → Each IsPlain rows → moves_in ship (list_text rows) ≡ read_for ship rows
  moves_read rows are plain = rows_read rows are.count plain (all_leave rows (pairs_from_index _ rows are.ids) (pairs_from_index _ rows are.apart))

-- ---- a list that leads from one plan to another

module _ (first second : List Container) (c : ChangesView) (a : AreContainers first) (b : AreContainers second)
    (changes : AreChanges first second c) where
  abbrev m : IsMoveList first second changes.lifted c.rows
  m = changes.rows_are

  plain_in : (plan : List Container) → AreContainers plan → (k : Move) (x : Container) → In x plan → IsPlain (row_of k x)
  plain_in plan keeps k x at =
      let is = each_in IsContainer plan x (recursion_from_All IsContainer plan keeps.each) at in
      record { id = is.id; cell = is.cell }

  rows_plain : Each IsPlain c.rows
  rows_plain = subst (Each IsPlain) (sym m.rows_are) (each_append m.off m.on
      (each_off first second changes.lifted c.rows a b changes.are m IsPlain (λ x at. plain_in first a Discharge x (going_in first second changes.lifted (apart first second changes.lifted c.rows a b changes.are m) (apart' first second changes.lifted c.rows a b changes.are m) changes.are x at)))
      (each_on first second changes.lifted c.rows a b changes.are m IsPlain (λ x at. plain_in second b Load x (coming_in first second changes.lifted (apart first second changes.lifted c.rows a b changes.are m) (apart' first second changes.lifted c.rows a b changes.are m) changes.are x at))))
    where
      each_append : (xs ys : List Row) → Each IsPlain xs → Each IsPlain ys → Each IsPlain (xs ++ ys)
      each_append [] ys p q = q
      each_append (x ∷ xs) ys p q = (p.0, each_append xs ys p.1 q)

  and_false : (t : Bool) → (t && false) ≡ false
  and_false true = refl
  and_false false = refl

  leaves : (plan : List Container) → AreContainers plan → (x y : Row) → stands plan x.id ≡ Some x.cell → stands plan y.id ≡ Some y.cell
      → x.id ≢ y.id → Leaves x y
  leaves plan keeps x y at at' other = record {
    id = ap (λ t. same_move y.kind x.kind && t) (id_other y.id x.id (λ e. other (sym e))) ∙ and_false (same_move y.kind x.kind);
    cell = ap (λ t. same_move y.kind x.kind && t) (cells_apart plan keeps y.id x.id y.cell x.cell at' at (λ e. other (sym e))) ∙ and_false (same_move y.kind x.kind);
  }

  crossing : (x y : Row) → x.kind ≡ Discharge → y.kind ≡ Load → Leaves x y
  crossing x y goes comes = record { id = rw (comes, goes) refl; cell = rw (comes, goes) refl }

  rows_leave : EachPair Leaves c.rows
  rows_leave = subst (EachPair Leaves) (sym m.rows_are) (pair_append Leaves m.off m.on
      (pair_from (λ (x y : Row). x.id ≢ y.id) Leaves (λ (r : Row). stands first r.id ≡ Some r.cell) m.off
      (off_apart first second changes.lifted c.rows a b changes.are m) (off_stand first second changes.lifted c.rows a b changes.are m) (λ x y at at' ne. leaves first a x y at at' ne))
      (pair_from (λ (x y : Row). x.id ≢ y.id) Leaves (λ (r : Row). stands second r.id ≡ Some r.cell) m.on
      (on_apart first second changes.lifted c.rows a b changes.are m) (on_stand first second changes.lifted c.rows a b changes.are m) (λ x y at at' ne. leaves second b x y at at' ne))
      (λ x y at at'. crossing x y
      (each_in (λ (r : Row). r.kind ≡ Discharge) m.off x (off_kinds first second changes.lifted c.rows a b changes.are m) at)
      (each_in (λ (r : Row). r.kind ≡ Load) m.on y (on_kinds first second changes.lifted c.rows a b changes.are m) at')))

  pub list_reads : (ship : ShipView) → length c.rows ≤ most_moves → moves_in ship (list_text c.rows) ≡ read_for ship c.rows
  list_reads ship few = rows_read ship c.rows few rows_plain rows_leave
