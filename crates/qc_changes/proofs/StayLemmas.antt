-- What stays is over no cell of the list.
use Rattle.std.proofs.Common.{◌≡◌, ◌∙◌, ◌++◌, ◌∷◌, [], ◌||◌, ℕ, Bool, true, false, cond, List, Option, Some, None, All, refl, sym, ap, inl, inr}
use Rattle.std.specs.Prelude.{is_some}
use Rattle.std.specs.Str.{bytes_eq}
use Rattle.std.proofs.lemmas.Bool.{cases_Bool}
use Rattle.std.proofs.lemmas.List.Elements.{All-append, All-from_recursion, All-same}
use Rattle.qc_ship.specs.Cells.{CellView}
use Rattle.qc_bayplan.specs.Plan.{AreContainers}
use Rattle.qc_bayplan.specs.declared.plan.Container.{Container}
use Rattle.qc_stow.specs.declared.row.Row.{Row}
use Rattle.qc_changes.specs.declared.class.Class.TheVariants.{Lifted, Restowed, Staying}
use Rattle.qc_changes.specs.Over.{is_over}
use Rattle.qc_changes.specs.Classes.{AreLifted, changed, class_by, class_of, is_at, same_cell, stands, worked}
use Rattle.qc_changes.specs.MoveList.{IsMoveList}
use Rattle.qc_changes.proofs.Elements.{In, any_in, in_append, none_in}
use Rattle.qc_changes.proofs.LeadLemmas.{apart, apart', each_off, each_on}
use Rattle.qc_changes.proofs.StandLemmas.{changed_in, coming_worked, going, going_worked, has, id_same, same_id, stands_at, stays}

-- whose class is that stands in both plans at one cell and isn't lifted
staying_is : (at there : Option CellView) (lifted : Bool) (cell : CellView) → at ≡ Some cell → class_by at there lifted ≡ Some Staying
    → (is_at cell there ≡ true) × (lifted ≡ false)
staying_is None there lifted cell is h = absurd (cc is)
staying_is (Some x) None lifted cell is h = absurd (cc h)
staying_is (Some x) (Some y) lifted cell is h =
    let cell_is : x ≡ cell = cc is in
    let parts = both (same_cell x y) lifted (cc h) in
    (ap (λ (z : CellView). same_cell z y) (sym cell_is) ∙ parts.0, parts.1)
  where
    both : (same lifted : Bool) → cond same (cond lifted Lifted Staying) Restowed ≡ Staying → (same ≡ true) × (lifted ≡ false)
    both true true e = absurd (cc e)
    both true false e = (refl, refl)
    both false lifted e = absurd (cc e)

pub has_stands : (cs : List Container) (c : Container) → In c cs → is_some (stands cs c.id) ≡ true
has_stands [] c h = absurd h
has_stands (d ∷ ds) c h = elim (cases_Bool (bytes_eq d.id c.id)) [
  | inl own ↦ rw own refl
  | inr other ↦ elim h [
    | inl same ↦ absurd (cc (ids_same d c same, other))
    | inr later ↦ rw other (has_stands ds c later)
  ]
]
  where
    ids_same : (d c : Container) → d ≡ c → bytes_eq d.id c.id ≡ true
    ids_same d c e = id_same d.id c.id (ap (λ (x : Container). x.id) e)

pub one_class : (first second lifted : List Container) (id : List ℕ)
    → is_some (class_of first second lifted id) ≡ (is_some (stands first id) || is_some (stands second id))
one_class first second lifted id = at_both (stands first id) (stands second id) (is_some (stands lifted id))
  where
    at_both : (a b : Option CellView) (up : Bool) → is_some (class_by a b up) ≡ (is_some a || is_some b)
    at_both None None up = refl
    at_both (Some x) None up = refl
    at_both None (Some y) up = refl
    at_both (Some x) (Some y) up = refl

pub staying_free : (first second lifted : List Container) (rows : List Row) → AreContainers first → AreContainers second
    → AreLifted first second lifted → IsMoveList first second lifted rows
    → (id : List ℕ) (cell : CellView) → class_of first second lifted id ≡ Some Staying → stands first id ≡ Some cell
    → All (λ (row : Row). is_over cell row.cell ≡ false) rows
staying_free first second lifted rows a b are m id cell class at =
    let far = apart first second lifted rows a b are m in
    let far' = apart' first second lifted rows a b are m in
    let (still, not_lifted) = staying_is (stands first id) (stands second id) (is_some (stands lifted id)) cell at class in
    let none : has (going first second lifted far far' are) id ≡ false = elim (cases_Bool (has (going first second lifted far far' are) id)) [
      | inr fails ↦ fails
      | inl holds ↦
          let (c, (c_in, c_is)) = any_in (λ (c : Container). bytes_eq c.id id) (going first second lifted far far' are) holds in
          let id_is = same_id c.id id c_is in
          elim (in_append (changed first second) lifted c c_in) [
            | inr two ↦ absurd (cc (ap (λ (i : List ℕ). is_some (stands lifted i)) id_is, has_stands lifted c two, not_lifted))
            | inl one ↦
                let (was, moved) = changed_in first second lifted far far' are first second c one in
                let here : Some c.cell ≡ Some cell = sym (stands_at first far c was) ∙ ap (stands first) id_is ∙ at in
                let cell_is : c.cell ≡ cell = cc here in
                absurd (cc (ap (λ (x : CellView). is_at x (stands second c.id)) cell_is, ap (λ (i : List ℕ). is_at cell (stands second i)) id_is, moved, still))
          ]
    ] in
    let under = (stays first second lifted far far' are id cell none at).1 in
    All-same (λ (row : Row). is_over cell row.cell ≡ false) rows (m.off ++ m.on) m.rows_are
    (All-append (λ (row : Row). is_over cell row.cell ≡ false) m.off m.on
    (All-from_recursion (λ (row : Row). is_over cell row.cell ≡ false) m.off (each_off first second lifted rows a b are m (λ (row : Row). is_over cell row.cell ≡ false) (λ c c_in. none_in (is_over cell) (worked first second lifted) c.cell (going_worked first second lifted far far' are c c_in) under)))
    (All-from_recursion (λ (row : Row). is_over cell row.cell ≡ false) m.on (each_on first second lifted rows a b are m (λ (row : Row). is_over cell row.cell ≡ false) (λ c c_in. none_in (is_over cell) (worked first second lifted) c.cell (coming_worked first second lifted far far' are c c_in) under))))
