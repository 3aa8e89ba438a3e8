-- Where the containers of two plans stand, and which of them the list works.
use Rattle.std.proofs.Common.{◌==◌, ◌≡◌, ◌≢◌, ◌∙◌, ◌⊎◌, ◌++◌, ◌∷◌, [], ℕ, Bool, true, false, not, ◌&&◌, List, Option, Some, None, refl, sym, ap, inl, inr, subst}
use Rattle.std.specs.Str.{bytes_eq}
use Rattle.std.specs.List.{list_any}
use Rattle.std.proofs.lemmas.Bool.{and_parts, cases_Bool, eq-eqb, eqb-true, false_from_ne_true, not-true}
use Rattle.std.proofs.lemmas.Slice.Eq.{bytes_eq-Decides}
use Rattle.qc_ship.specs.Cells.{CellView}
use Rattle.qc_bayplan.specs.declared.plan.Container.{Container}
use Rattle.qc_changes.specs.Over.{is_over_any}
use Rattle.qc_changes.specs.Classes.{AreLifted, changed, is_at, is_still, same_cell, stands, worked}
use Rattle.qc_changes.proofs.Elements.{EachPair, In, any_in, each_in, filter_in, in_any, in_append, in_filter, in_left, in_right, map_in}

pub same_id : (a b : List ℕ) → bytes_eq a b ≡ true → a ≡ b
same_id a b = (bytes_eq-Decides a b).0

pub id_same : (a b : List ℕ) → a ≡ b → bytes_eq a b ≡ true
id_same a b = (bytes_eq-Decides a b).1

pub id_other : (a b : List ℕ) → a ≢ b → bytes_eq a b ≡ false
id_other a b h = false_from_ne_true (bytes_eq a b) (λ e. h (same_id a b e))

-- some container of these has the id
abbrev pub has : List Container → List ℕ → Bool
has containers id = list_any (λ c. bytes_eq c.id id) containers

abbrev pub AreApart : List Container → Type 0
AreApart = EachPair (λ (a b : Container). a.id ≢ b.id)

pub stands_at : (cs : List Container) → AreApart cs → (c : Container) → In c cs → stands cs c.id ≡ Some c.cell
stands_at [] apart c h = absurd h
stands_at (d ∷ ds) apart c h = elim h [
  | inl same ↦ let here : bytes_eq d.id c.id ≡ true = id_same d.id c.id (ap (λ (x : Container). x.id) same) in rw here (ap (λ (x : Container). Some x.cell) same)
  | inr later ↦
      let other : bytes_eq d.id c.id ≡ false = id_other d.id c.id (each_in (λ (b : Container). d.id ≢ b.id) ds c apart.0 later) in
      rw other (stands_at ds apart.1 c later)
]

pub stood_by : (cs : List Container) (id : List ℕ) (cell : CellView) → stands cs id ≡ Some cell
    → (c : Container) × (In c cs × (c.id ≡ id) × (c.cell ≡ cell))
stood_by [] id cell h = absurd (cc h)
stood_by (d ∷ ds) id cell h = elim (cases_Bool (bytes_eq d.id id)) [
  | inl here ↦ (d, (inl refl, same_id d.id id here, cc (rw here at h)))
  | inr other ↦ let (c, (at, id_is, cell_is)) = stood_by ds id cell (rw other at h) in (c, (inr at, id_is, cell_is))
]

pub same_cells : (a b : CellView) → same_cell a b ≡ true → a ≡ b
same_cells a b h =
    let (front, tier) = and_parts ((a.bay == b.bay) && (a.row == b.row)) (a.tier == b.tier) h in
    let (bay, row) = and_parts (a.bay == b.bay) (a.row == b.row) front in
    parts a b (eqb-true a.bay b.bay bay) (eqb-true a.row b.row row) (eqb-true a.tier b.tier tier)
  where
    parts : (a b : CellView) → a.bay ≡ b.bay → a.row ≡ b.row → a.tier ≡ b.tier → a ≡ b
    parts a b p q r =
        ap (λ (n : ℕ). let cell : CellView = record { bay = n; row = a.row; tier = a.tier } in cell) p
        ∙ ap (λ (n : ℕ). let cell : CellView = record { bay = b.bay; row = n; tier = a.tier } in cell) q
        ∙ ap (λ (n : ℕ). let cell : CellView = record { bay = b.bay; row = b.row; tier = n } in cell) r

pub cells_same : (a : CellView) → same_cell a a ≡ true
cells_same a = rw (eq-eqb a.bay a.bay refl, eq-eqb a.row a.row refl, eq-eqb a.tier a.tier refl) refl

pub at_cell : (cell : CellView) (o : Option CellView) → is_at cell o ≡ true → o ≡ Some cell
at_cell cell None h = absurd (cc h)
at_cell cell (Some other) h = ap (λ (c : CellView). Some c) (sym (same_cells cell other h))

some_is : (o : Option CellView) → (o ≡ None) ⊎ ((cell : CellView) × (o ≡ Some cell))
some_is None = inl refl
some_is (Some cell) = inr (cell, refl)

-- two plans and what is lifted between them
module _ (first second lifted : List Container) (apart : AreApart first) (apart' : AreApart second) (are : AreLifted first second lifted) where
  abbrev pub going : List Container
  going = changed first second ++ lifted

  abbrev pub coming : List Container
  coming = changed second first ++ lifted

  pub lifted_in : (c : Container) → In c lifted
      → In c first × (is_still second c ≡ true) × (is_over_any c.cell (worked first second lifted) ≡ true)
  lifted_in c h =
      let r = in_filter (λ (c : Container). is_still second c && is_over_any c.cell (worked first second lifted)) first c (subst (λ (cs : List Container). In c cs) are.are h) in
      let b = and_parts (is_still second c) (is_over_any c.cell (worked first second lifted)) r.1 in
      (r.0, b.0, b.1)

  pub changed_in : (plan other : List Container) (c : Container) → In c (changed plan other) → In c plan × (is_still other c ≡ false)
  changed_in plan other c h = let r = in_filter (λ (c : Container). not (is_still other c)) plan c h in (r.0, not-true (is_still other c) r.1)

  pub going_in : (c : Container) → In c going → In c first
  going_in c h = elim (in_append (changed first second) lifted c h) [
    | inl one ↦ (changed_in first second c one).0
    | inr two ↦ (lifted_in c two).0
  ]

  -- what is lifted is in the second plan too, the same container
  pub lifted_there : (c : Container) → In c lifted → In c second
  lifted_there c h =
      let (d, (at, id_is, cell_is)) = stood_by second c.id c.cell (at_cell c.cell (stands second c.id) (lifted_in c h).1) in
      subst (λ (x : Container). In x second) (same_container d c id_is cell_is) at
    where
      same_container : (d c : Container) → d.id ≡ c.id → d.cell ≡ c.cell → d ≡ c
      same_container d c i e =
          ap (λ (x : List ℕ). let it : Container = record { id = x; cell = d.cell } in it) i
          ∙ ap (λ (x : CellView). let it : Container = record { id = c.id; cell = x } in it) e

  pub coming_in : (c : Container) → In c coming → In c second
  coming_in c h = elim (in_append (changed second first) lifted c h) [
    | inl one ↦ (changed_in second first c one).0
    | inr two ↦ lifted_there c two
  ]

  in_worked : (c : Container) → In c (changed first second ++ changed second first ++ lifted) → In c.cell (worked first second lifted)
  in_worked c h = map_in (λ (x : Container). x.cell) (changed first second ++ changed second first ++ lifted) c h

  pub going_worked : (c : Container) → In c going → In c.cell (worked first second lifted)
  going_worked c h = in_worked c (elim (in_append (changed first second) lifted c h) [
    | inl one ↦ in_left (changed first second ++ changed second first) lifted c (in_left (changed first second) (changed second first) c one)
    | inr two ↦ in_right (changed first second ++ changed second first) lifted c two
  ])

  pub coming_worked : (c : Container) → In c coming → In c.cell (worked first second lifted)
  coming_worked c h = in_worked c (elim (in_append (changed second first) lifted c h) [
    | inl one ↦ in_left (changed first second ++ changed second first) lifted c (in_right (changed first second) (changed second first) c one)
    | inr two ↦ in_right (changed first second ++ changed second first) lifted c two
  ])

  has_in : (cs : List Container) (c : Container) (id : List ℕ) → In c cs → c.id ≡ id → has cs id ≡ true
  has_in cs c id at is = in_any (λ (c : Container). bytes_eq c.id id) cs c at (id_same c.id id is)

  -- what doesn't go stands in the second plan as it did, and over nothing that is worked
  pub stays : (id : List ℕ) (cell : CellView) → has going id ≡ false → stands first id ≡ Some cell
      → (stands second id ≡ Some cell) × (is_over_any cell (worked first second lifted) ≡ false)
  stays id cell none at =
      let (c, (here, id_is, cell_is)) = stood_by first id cell at in
      let still : is_still second c ≡ true = elim (cases_Bool (is_still second c)) [
        | inl holds ↦ holds
        | inr fails ↦ absurd (cc (has_in going c id (in_left (changed first second) lifted c (filter_in (λ (c : Container). not (is_still second c)) first c here (rw fails refl))) id_is))
      ] in
      let under : is_over_any c.cell (worked first second lifted) ≡ false = elim (cases_Bool (is_over_any c.cell (worked first second lifted))) [
        | inr fails ↦ fails
        | inl holds ↦ absurd (cc (has_in going c id (in_right (changed first second) lifted c (subst (λ (cs : List Container). In c cs) (sym are.are)
            (filter_in (λ (c : Container). is_still second c && is_over_any c.cell (worked first second lifted)) first c here (rw (still, holds) refl)))) id_is))
      ] in (
        subst (λ i. stands second i ≡ Some cell) id_is (at_cell c.cell (stands second c.id) still ∙ ap (λ (x : CellView). Some x) cell_is),
        subst (λ (x : CellView). is_over_any x (worked first second lifted) ≡ false) cell_is under,
      )

  -- what doesn't come stood in the first plan as it does, and doesn't go
  pub stayed : (id : List ℕ) (cell : CellView) → has coming id ≡ false → stands second id ≡ Some cell
      → (stands first id ≡ Some cell) × (has going id ≡ false)
  stayed id cell none at =
      let (c, (here, id_is, cell_is)) = stood_by second id cell at in
      let still : is_still first c ≡ true = elim (cases_Bool (is_still first c)) [
        | inl holds ↦ holds
        | inr fails ↦ absurd (cc (has_in coming c id (in_left (changed second first) lifted c (filter_in (λ (c : Container). not (is_still first c)) second c here (rw fails refl))) id_is))
      ] in
      let before : stands first id ≡ Some cell = subst (λ i. stands first i ≡ Some cell) id_is (at_cell c.cell (stands first c.id) still ∙ ap (λ (x : CellView). Some x) cell_is) in (
        before,
        elim (cases_Bool (has going id)) [
          | inr fails ↦ fails
          | inl holds ↦
              let (d, (at', is)) = any_in (λ (c : Container). bytes_eq c.id id) going holds in
              elim (in_append (changed first second) lifted d at') [
                | inr two ↦ absurd (cc (has_in coming d id (in_right (changed second first) lifted d two) (same_id d.id id is)))
                | inl one ↦
                    let (was, moved) = changed_in first second d one in
                    let d_at : Some d.cell ≡ Some cell = sym (stands_at first apart d was) ∙ subst (λ i. stands first i ≡ Some cell) (sym (same_id d.id id is)) before in
                    let there : is_still second d ≡ true = ap (is_at d.cell) (subst (λ i. stands second i ≡ Some cell) (sym (same_id d.id id is)) at ∙ sym d_at) ∙ cells_same d.cell in
                    absurd (cc (there, moved))
              ]
        ],
      )

  -- what comes and doesn't go wasn't there
  pub comes_new : (id : List ℕ) → has coming id ≡ true → has going id ≡ false → stands first id ≡ None
  comes_new id comes none =
      let (c, (at, is)) = any_in (λ (c : Container). bytes_eq c.id id) coming comes in
      let id_is : c.id ≡ id = same_id c.id id is in
      elim (some_is (stands first id)) [
        | inl absent ↦ absent
        | inr there ↦ elim (in_append (changed second first) lifted c at) [
          | inr two ↦ absurd (cc (has_in going c id (in_right (changed first second) lifted c two) id_is))
          | inl one ↦
              let (here, moved) = changed_in second first c one in
              let (both, under) = stays id there.0 none there.1 in
              let c_at : Some c.cell ≡ Some there.0 = sym (stands_at second apart' c here) ∙ subst (λ i. stands second i ≡ Some there.0) (sym id_is) both in
              let still : is_still first c ≡ true = ap (is_at c.cell) (subst (λ i. stands first i ≡ Some there.0) (sym id_is) there.1 ∙ sym c_at) ∙ cells_same c.cell in
              absurd (cc (still, moved))
        ]
      ]

  -- what doesn't come isn't in the second plan, or didn't go
  pub going_in_first : (id : List ℕ) → has going id ≡ true → (cell : CellView) × (stands first id ≡ Some cell)
  going_in_first id goes =
      let (c, (at, is)) = any_in (λ (c : Container). bytes_eq c.id id) going goes in
      (c.cell, subst (λ i. stands first i ≡ Some c.cell) (same_id c.id id is) (stands_at first apart c (going_in c at)))
