-- A list that takes off from the top down, and puts on from the bottom up, is legal row by row.
use Rattle.std.proofs.Common.{◌≡◌, ◌≢◌, ◌∙◌, ◌++◌, ◌∷◌, [], ℕ, ◌≤◌, Bool, true, false, List, Some, None, refl, sym, ap, inl, inr, subst, arith}
use Rattle.std.specs.Str.{bytes_eq}
use Rattle.std.specs.List.{list_any, AllByRecursion as Each}
use Rattle.std.proofs.lemmas.Bool.{cases_Bool}
use Rattle.qc_ship.specs.Cells.{CellView, overlap}
use Rattle.qc_stow.specs.declared.row.Move.{Move}
use Rattle.qc_stow.specs.declared.row.Move.TheVariants.{Discharge, Load}
use Rattle.qc_stow.specs.declared.row.Row.{Row}
use Rattle.qc_changes.specs.Over.{is_over}
use Rattle.qc_changes.specs.States.{AreLegal, IsFree, IsLegalMove, IsOpen, State, after, after_all, cell_behind}
use Rattle.qc_changes.proofs.Elements.{EachPair, In, any_in, each_in}
use Rattle.qc_changes.proofs.LiftLemmas.{not_over}
use Rattle.qc_changes.proofs.StandLemmas.{id_other, id_same, same_id}

-- some row has the id
abbrev pub names : List Row → List ℕ → Bool
names rows id = list_any (λ (r : Row). bytes_eq r.id id) rows

-- the state behind a row, at its own id and at others
pub at_own : (state : State) (r : Row) (id : List ℕ) → bytes_eq r.id id ≡ true → after state r id ≡ cell_behind r.kind r.cell
at_own state r id h = rw h refl

pub at_other : (state : State) (r : Row) (id : List ℕ) → bytes_eq r.id id ≡ false → after state r id ≡ state id
at_other state r id h = rw h refl

-- rows that don't name an id leave it where it is
pub kept : (rows : List Row) (state : State) (id : List ℕ) → names rows id ≡ false → after_all state rows id ≡ state id
kept [] state id none = refl
kept (r ∷ rs) state id none = elim (cases_Bool (bytes_eq r.id id)) [
  | inl here ↦ absurd (cc (rw here at none))
  | inr other ↦ kept rs (after state r) id (rw other at none) ∙ at_other state r id other
]

-- what is discharged is gone
pub gone : (rows : List Row) (state : State) (id : List ℕ) → Each (λ (r : Row). r.kind ≡ Discharge) rows
    → names rows id ≡ true → after_all state rows id ≡ None
gone [] state id kinds named = absurd (cc named)
gone (r ∷ rs) state id kinds named = elim (cases_Bool (names rs id)) [
  | inl later ↦ gone rs (after state r) id kinds.1 later
  | inr last ↦ elim (cases_Bool (bytes_eq r.id id)) [
    | inl here ↦ kept rs (after state r) id last ∙ at_own state r id here ∙ ap (λ (k : Move). cell_behind k r.cell) kinds.0
    | inr other ↦ absurd (cc (rw (other, last) at named))
  ]
]

-- what is loaded stands in its cell
pub came : (rows : List Row) (state : State) → Each (λ (r : Row). r.kind ≡ Load) rows
    → EachPair (λ (a b : Row). a.id ≢ b.id) rows → (row : Row) → In row rows → after_all state rows row.id ≡ Some row.cell
came [] state kinds apart row h = absurd h
came (r ∷ rs) state kinds apart row h = elim h [
  | inr later ↦ came rs (after state r) kinds.1 apart.1 row later
  | inl same ↦ subst (λ (x : Row). after_all (after state r) rs x.id ≡ Some x.cell) same
      (kept rs (after state r) r.id (none rs apart.0) ∙ at_own state r r.id (id_same r.id r.id refl) ∙ ap (λ (k : Move). cell_behind k r.cell) kinds.0)
]
  where
    none : (rs : List Row) → Each (λ (b : Row). r.id ≢ b.id) rs → names rs r.id ≡ false
    none [] each = refl
    none (b ∷ bs) each = rw (id_other b.id r.id (λ e. each.0 (sym e)), none bs each.1) refl

-- each discharge stands where its row says; what is over a row's cell is discharged as well, and higher tiers come
-- first
pub record CanAllGo (state : State) (rows : List Row) : Type 0 where
  pub kinds : Each (λ (r : Row). r.kind ≡ Discharge) rows
  pub stand : Each (λ (r : Row). state r.id ≡ Some r.cell) rows
  pub order : EachPair (λ (a b : Row). (a.id ≢ b.id) × (b.cell.tier ≤ a.cell.tier)) rows
  pub covered : Each (λ (r : Row). (id : List ℕ) (other : CellView) → state id ≡ Some other → is_over other r.cell ≡ true → names rows id ≡ true) rows

pub all_go : (rows : List Row) (state : State) → CanAllGo state rows → AreLegal state rows
all_go [] state can = tt
all_go (r ∷ rs) state can = (here, all_go rs (after state r) rest)
  where
    low : (id : List ℕ) (other : CellView) → state id ≡ Some other → names (r ∷ rs) id ≡ true → other.tier ≤ r.cell.tier
    low id other at named =
        let (x, (x_in, is)) = any_in (λ (x : Row). bytes_eq x.id id) (r ∷ rs) named in
        let there : Some x.cell ≡ Some other = sym (each_in (λ (x : Row). state x.id ≡ Some x.cell) (r ∷ rs) x can.stand x_in) ∙ subst (λ i. state i ≡ Some other) (sym (same_id x.id id is)) at in
        let cell_is : x.cell ≡ other = cc in
        subst (λ (d : CellView). d.tier ≤ r.cell.tier) cell_is (elim x_in [
          | inl same ↦ subst (λ (y : Row). y.cell.tier ≤ r.cell.tier) same (omega arith)
          | inr later ↦ (each_in (λ (b : Row). (r.id ≢ b.id) × (b.cell.tier ≤ r.cell.tier)) rs x can.order.0 later).1
        ])

    opened : IsOpen state r.cell
    opened id other at = elim (cases_Bool (is_over other r.cell)) [
      | inr fails ↦ fails
      | inl holds ↦ not_over other r.cell (low id other at (can.covered.0 id other at holds))
    ]

    here : IsLegalMove r.kind state r.id r.cell
    here = subst (λ (k : Move). IsLegalMove k state r.id r.cell) (sym can.kinds.0) (record { stands = can.stand.0; opened = opened })

    stand_on : (bs : List Row) → Each (λ (b : Row). (r.id ≢ b.id) × (b.cell.tier ≤ r.cell.tier)) bs
        → Each (λ (b : Row). state b.id ≡ Some b.cell) bs → Each (λ (b : Row). after state r b.id ≡ Some b.cell) bs
    stand_on [] p q = tt
    stand_on (b ∷ bs) p q = (at_other state r b.id (id_other r.id b.id p.0.0) ∙ q.0, stand_on bs p.1 q.1)

    cover : (bs : List Row)
        → Each (λ (b : Row). (id : List ℕ) (other : CellView) → state id ≡ Some other → is_over other b.cell ≡ true → names (r ∷ rs) id ≡ true) bs
        → Each (λ (b : Row). (id : List ℕ) (other : CellView) → after state r id ≡ Some other → is_over other b.cell ≡ true → names rs id ≡ true) bs
    cover [] each = tt
    cover (b ∷ bs) each = (
      (λ id other at over. elim (cases_Bool (bytes_eq r.id id)) [
        | inl own ↦ absurd (cc (at_own state r id own ∙ ap (λ (k : Move). cell_behind k r.cell) can.kinds.0, at))
        | inr not_own ↦ rw not_own at (each.0 id other (sym (at_other state r id not_own) ∙ at) over)
      ]),
      cover bs each.1,
    )

    rest : CanAllGo (after state r) rs
    rest = record {
      kinds = can.kinds.1;
      stand = stand_on rs can.order.0 can.stand.1;
      order = can.order.1;
      covered = cover rs can.covered.1;
    }

-- no row is on board, no two share an id or overlap, nothing on board overlaps a row's cell or is over it, and lower
-- tiers come first
pub record CanAllCome (state : State) (rows : List Row) : Type 0 where
  pub kinds : Each (λ (r : Row). r.kind ≡ Load) rows
  pub absent : Each (λ (r : Row). state r.id ≡ None) rows
  pub clear : Each (λ (r : Row). IsFree state r.cell × IsOpen state r.cell) rows
  pub order : EachPair (λ (a b : Row). (a.id ≢ b.id) × (overlap a.cell b.cell ≡ false) × (a.cell.tier ≤ b.cell.tier)) rows

pub all_come : (rows : List Row) (state : State) → CanAllCome state rows → AreLegal state rows
all_come [] state can = tt
all_come (r ∷ rs) state can = (here, all_come rs (after state r) rest)
  where
    here : IsLegalMove r.kind state r.id r.cell
    here = subst (λ (k : Move). IsLegalMove k state r.id r.cell) (sym can.kinds.0)
        (record { absent = can.absent.0; free = can.clear.0.0; opened = can.clear.0.1 })

    loaded : (id : List ℕ) (other : CellView) → bytes_eq r.id id ≡ true → after state r id ≡ Some other → r.cell ≡ other
    loaded id other own at =
        let both : Some r.cell ≡ Some other = sym (at_own state r id own ∙ ap (λ (k : Move). cell_behind k r.cell) can.kinds.0) ∙ at in cc

    absent_on : (bs : List Row) → Each (λ (b : Row). (r.id ≢ b.id) × (overlap r.cell b.cell ≡ false) × (r.cell.tier ≤ b.cell.tier)) bs
        → Each (λ (b : Row). state b.id ≡ None) bs → Each (λ (b : Row). after state r b.id ≡ None) bs
    absent_on [] p q = tt
    absent_on (b ∷ bs) p q = (at_other state r b.id (id_other r.id b.id p.0.0) ∙ q.0, absent_on bs p.1 q.1)

    clear_on : (bs : List Row) → Each (λ (b : Row). (r.id ≢ b.id) × (overlap r.cell b.cell ≡ false) × (r.cell.tier ≤ b.cell.tier)) bs
        → Each (λ (b : Row). IsFree state b.cell × IsOpen state b.cell) bs
        → Each (λ (b : Row). IsFree (after state r) b.cell × IsOpen (after state r) b.cell) bs
    clear_on [] p q = tt
    clear_on (b ∷ bs) p q = (
      (
        (λ id other at. elim (cases_Bool (bytes_eq r.id id)) [
          | inl own ↦ subst (λ (x : CellView). overlap x b.cell ≡ false) (loaded id other own at) p.0.1
          | inr not_own ↦ q.0.0 id other (sym (at_other state r id not_own) ∙ at)
        ]),
        (λ id other at. elim (cases_Bool (bytes_eq r.id id)) [
          | inl own ↦ subst (λ (x : CellView). is_over x b.cell ≡ false) (loaded id other own at) (not_over r.cell b.cell p.0.2)
          | inr not_own ↦ q.0.1 id other (sym (at_other state r id not_own) ∙ at)
        ]),
      ),
      clear_on bs p.1 q.1,
    )

    rest : CanAllCome (after state r) rs
    rest = record {
      kinds = can.kinds.1;
      absent = absent_on rs can.order.0 can.absent.1;
      clear = clear_on rs can.order.0 can.clear.1;
      order = can.order.1;
    }

-- one list behind another
pub legal_append : (xs ys : List Row) (state : State) → AreLegal state xs → AreLegal (after_all state xs) ys → AreLegal state (xs ++ ys)
legal_append [] ys state p q = q
legal_append (x ∷ xs) ys state p q = (p.0, legal_append xs ys (after state x) p.1 q)

pub after_append : (xs ys : List Row) (state : State) (id : List ℕ) → after_all state (xs ++ ys) id ≡ after_all (after_all state xs) ys id
after_append [] ys state id = refl
after_append (x ∷ xs) ys state id = after_append xs ys (after state x) id
