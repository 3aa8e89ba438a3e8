-- No list that leads from the first plan to the second has fewer moves.
use Rattle.std.proofs.Common.{◌≡◌, ◌≢◌, ◌∙◌, ◌⊎◌, ◌++◌, ◌∷◌, [], ℕ, zero, suc, ◌<◌, ◌≤◌, Bool, true, false, not, ◌&&◌, ◌||◌, List, length, map, Some, None, refl, sym, ap, inl, inr, subst, arith, length-append}
use Rattle.std.specs.Str.{bytes_eq}
use Rattle.std.specs.List.{list_any, filter, AllByRecursion as Each}
use Rattle.std.specs.Cmp.{decided}
use Rattle.std.proofs.lemmas.Bool.{and_parts, cases_Bool, cases_lt, or_parts}
use Rattle.std.proofs.lemmas.List.{length-map}
use Rattle.std.proofs.lemmas.List.Filters.{length-filter_both}
use Rattle.std.proofs.lemmas.List.Sorted.{length_permutation}
use Rattle.std.proofs.lemmas.Map.Made.{length-le_from_is_member}
use Rattle.std.proofs.lemmas.Slice.Eq.{bytes_eq-Decides}
use Rattle.qc_ship.specs.Cells.{CellView}
use Rattle.qc_bayplan.specs.Plan.{AreContainers}
use Rattle.qc_bayplan.specs.declared.plan.Container.{Container}
use Rattle.qc_stow.specs.Moves.{is_discharge, is_load}
use Rattle.qc_stow.specs.declared.row.Move.{Move}
use Rattle.qc_stow.specs.declared.row.Move.TheVariants.{Discharge, Load}
use Rattle.qc_stow.specs.declared.row.Row.{Row}
use Rattle.qc_changes.specs.Over.{is_over}
use Rattle.qc_changes.specs.Classes.{AreLifted, changed, is_at, stands, worked}
use Rattle.qc_changes.specs.MoveList.{IsMoveList, row_of}
use Rattle.qc_changes.specs.States.{AreLegal, IsLegalMove, Leads, State, after, after_all, cell_behind}
use Rattle.qc_changes.proofs.Elements.{EachPair, In, any_in, each_in, filter_in, in_any, in_append, in_map, map_in}
use Rattle.qc_changes.proofs.LeadLemmas.{apart, apart', apart_comes, apart_goes, distinct_of}
use Rattle.qc_changes.proofs.LegalLemmas.{at_other, at_own}
use Rattle.qc_changes.proofs.LiftLemmas.{not_over}
use Rattle.qc_changes.proofs.StandLemmas.{AreApart, at_cell, cells_same, changed_in, coming, going, has, id_same, lifted_in, lifted_there, same_id, stands_at}

-- some row of the kind names the id
abbrev pub goes_in : List Row → List ℕ → Bool
goes_in rows id = list_any (λ (r : Row). is_discharge r.kind && bytes_eq r.id id) rows

abbrev pub comes_in : List Row → List ℕ → Bool
comes_in rows id = list_any (λ (r : Row). is_load r.kind && bytes_eq r.id id) rows

which : (kind : Move) → (kind ≡ Discharge) ⊎ (kind ≡ Load)
which Discharge = inl refl
which Load = inr refl

legal_as : (kind other : Move) (state : State) (id : List ℕ) (cell : CellView) → kind ≡ other → IsLegalMove kind state id cell → IsLegalMove other state id cell
legal_as kind other state id cell e h = subst (λ (k : Move). IsLegalMove k state id cell) e h

-- what stands and isn't discharged is over no row's cell, and stands on
one_stays : (state : State) (r : Row) (id : List ℕ) (cell : CellView) → IsLegalMove r.kind state r.id r.cell → state id ≡ Some cell
    → (is_discharge r.kind && bytes_eq r.id id) ≡ false → (after state r id ≡ Some cell) × (is_over cell r.cell ≡ false)
one_stays state r id cell legal at fails = elim (which r.kind) [
  | inl goes ↦
      let can = legal_as r.kind Discharge state r.id r.cell goes legal in
      let other : bytes_eq r.id id ≡ false = ap (λ (k : Move). is_discharge k && bytes_eq r.id id) (sym goes) ∙ fails in
      (at_other state r id other ∙ at, can.opened id cell at)
  | inr comes ↦
      let can = legal_as r.kind Load state r.id r.cell comes legal in (
        elim (cases_Bool (bytes_eq r.id id)) [
          | inl own ↦ absurd (cc (ap state (same_id r.id id own), can.absent, at))
          | inr other ↦ at_other state r id other ∙ at
        ],
        can.opened id cell at,
      )
]

stays_on : (rows : List Row) (state : State) (id : List ℕ) (cell : CellView) → AreLegal state rows → state id ≡ Some cell
    → goes_in rows id ≡ false → (after_all state rows id ≡ Some cell) × Each (λ (r : Row). is_over cell r.cell ≡ false) rows
stays_on [] state id cell legal at fails = (at, tt)
stays_on (r ∷ rs) state id cell legal at fails =
    let parts = or_parts (is_discharge r.kind && bytes_eq r.id id) (goes_in rs id) fails in
    let one = one_stays state r id cell legal.0 at parts.0 in
    let rest = stays_on rs (after state r) id cell legal.1 one.0 parts.1 in
    (rest.0, (one.1, rest.1))

-- what isn't loaded is gone at last, or stands where it stood
not_loaded : (rows : List Row) (state : State) (id : List ℕ) → comes_in rows id ≡ false
    → (after_all state rows id ≡ None) ⊎ (after_all state rows id ≡ state id)
not_loaded [] state id fails = inr refl
not_loaded (r ∷ rs) state id fails =
    let parts = or_parts (is_load r.kind && bytes_eq r.id id) (comes_in rs id) fails in
    elim (not_loaded rs (after state r) id parts.1) [
      | inl gone ↦ inl gone
      | inr stood ↦ elim (cases_Bool (bytes_eq r.id id)) [
        | inr other ↦ inr (stood ∙ at_other state r id other)
        | inl own ↦ elim (which r.kind) [
          | inl goes ↦ inl (stood ∙ at_own state r id own ∙ ap (λ (k : Move). cell_behind k r.cell) goes)
          | inr comes ↦ absurd (cc (ap (λ (k : Move). is_load k && bytes_eq r.id id) comes, own, parts.0))
        ]
      ]
    ]

-- what is discharged and not loaded is gone at last
gone_at_last : (rows : List Row) (state : State) (id : List ℕ) → comes_in rows id ≡ false → goes_in rows id ≡ true → after_all state rows id ≡ None
gone_at_last [] state id fails holds = absurd (cc holds)
gone_at_last (r ∷ rs) state id fails holds =
    let parts = or_parts (is_load r.kind && bytes_eq r.id id) (comes_in rs id) fails in
    elim (cases_Bool (goes_in rs id)) [
      | inl later ↦ gone_at_last rs (after state r) id parts.1 later
      | inr last ↦ elim (which r.kind) [
        | inr comes ↦ absurd (cc (ap (λ (k : Move). (is_discharge k && bytes_eq r.id id) || goes_in rs id) comes, last, holds))
        | inl goes ↦ elim (cases_Bool (bytes_eq r.id id)) [
          | inr other ↦ absurd (cc (ap (λ (k : Move). (is_discharge k && bytes_eq r.id id) || goes_in rs id) goes, ap (λ t. t || goes_in rs id) other, last, holds))
          | inl own ↦
              let here : after state r id ≡ None = at_own state r id own ∙ ap (λ (k : Move). cell_behind k r.cell) goes in
              elim (not_loaded rs (after state r) id parts.1) [ inl gone ↦ gone | inr stood ↦ stood ∙ here ]
        ]
      ]
    ]

-- the first discharge of what stands at a cell is at that cell
leaves_from : (rows : List Row) (state : State) (id : List ℕ) (cell : CellView) → AreLegal state rows → state id ≡ Some cell
    → goes_in rows id ≡ true → (r : Row) × (In r rows × (r.cell ≡ cell))
leaves_from [] state id cell legal at holds = absurd (cc holds)
leaves_from (r ∷ rs) state id cell legal at holds = elim (cases_Bool (is_discharge r.kind && bytes_eq r.id id)) [
  | inr fails ↦
      let (x, (x_in, is)) = leaves_from rs (after state r) id cell legal.1 (one_stays state r id cell legal.0 at fails).0 (ap (λ t. t || goes_in rs id) (sym fails) ∙ holds) in
      (x, (inr x_in, is))
  | inl here ↦ elim (which r.kind) [
    | inr comes ↦ absurd (cc (ap (λ (k : Move). is_discharge k && bytes_eq r.id id) comes, here))
    | inl goes ↦
        let can = legal_as r.kind Discharge state r.id r.cell goes legal.0 in
        let own : bytes_eq r.id id ≡ true = ap (λ (k : Move). is_discharge k && bytes_eq r.id id) (sym goes) ∙ here in
        let both : Some r.cell ≡ Some cell = sym can.stands ∙ ap state (same_id r.id id own) ∙ at in
        (r, (inl refl, cc))
  ]
]

-- what stands at a cell at last and not at first is brought to it
comes_to : (rows : List Row) (state : State) (id : List ℕ) (cell : CellView) → is_at cell (state id) ≡ false
    → after_all state rows id ≡ Some cell → (r : Row) × (In r rows × (r.cell ≡ cell))
comes_to [] state id cell not_yet at = absurd (cc (ap (is_at cell) at, cells_same cell, not_yet))
comes_to (r ∷ rs) state id cell not_yet at = elim (cases_Bool (is_at cell (after state r id))) [
  | inr still_not ↦ let (x, (x_in, is)) = comes_to rs (after state r) id cell still_not at in (x, (inr x_in, is))
  | inl now ↦
      let here : after state r id ≡ Some cell = at_cell cell (after state r id) now in
      elim (cases_Bool (bytes_eq r.id id)) [
        | inr other ↦ absurd (cc (ap (is_at cell) (at_other state r id other), now, not_yet))
        | inl own ↦ elim (which r.kind) [
          | inl goes ↦ absurd (cc (at_own state r id own ∙ ap (λ (k : Move). cell_behind k r.cell) goes, here))
          | inr comes ↦
              let both : Some r.cell ≡ Some cell = sym (at_own state r id own ∙ ap (λ (k : Move). cell_behind k r.cell) comes) ∙ here in
              (r, (inl refl, cc))
        ]
      ]
]

module _ (first second lifted : List Container) (apart : AreApart first) (apart' : AreApart second) (are : AreLifted first second lifted)
    (rows : List Row) (leads : Leads (stands first) rows (stands second)) where
  changed_goes : (c : Container) → In c (changed first second) → goes_in rows c.id ≡ true
  changed_goes c at = elim (cases_Bool (goes_in rows c.id)) [
    | inl holds ↦ holds
    | inr fails ↦
        let (was, moved) = changed_in first second lifted apart apart' are first second c at in
        let last = (stays_on rows (stands first) c.id c.cell leads.legal (stands_at first apart c was) fails).0 in
        absurd (cc (ap (is_at c.cell) (sym (leads.ends c.id) ∙ last), cells_same c.cell, moved))
  ]

  changed_comes : (c : Container) → In c (changed second first) → comes_in rows c.id ≡ true
  changed_comes c at = elim (cases_Bool (comes_in rows c.id)) [
    | inl holds ↦ holds
    | inr fails ↦
        let (there, moved) = changed_in first second lifted apart apart' are second first c at in
        let last : after_all (stands first) rows c.id ≡ Some c.cell = leads.ends c.id ∙ stands_at second apart' c there in
        elim (not_loaded rows (stands first) c.id fails) [
          | inl gone ↦ absurd (cc (gone, last))
          | inr stood ↦ absurd (cc (ap (is_at c.cell) (sym stood ∙ last), cells_same c.cell, moved))
        ]
  ]

  -- a row of the list is at each cell at which something goes or comes of itself
  at_changed : (d : Container) → In d (changed first second) ⊎ In d (changed second first) → (r : Row) × (In r rows × (r.cell ≡ d.cell))
  at_changed d (inl at) =
      leaves_from rows (stands first) d.id d.cell leads.legal (stands_at first apart d (changed_in first second lifted apart apart' are first second d at).0) (changed_goes d at)
  at_changed d (inr at) =
      let (there, moved) = changed_in first second lifted apart apart' are second first d at in
      comes_to rows (stands first) d.id d.cell moved (leads.ends d.id ∙ stands_at second apart' d there)

  -- what is lifted up to a tier goes, where what is lifted below does
  lifted_goes_over : (c : Container) → In c lifted
      → ((d : Container) → In d lifted → d.cell.tier < c.cell.tier → goes_in rows d.id ≡ true) → goes_in rows c.id ≡ true
  lifted_goes_over c at below = elim (cases_Bool (goes_in rows c.id)) [
    | inl holds ↦ holds
    | inr fails ↦
        let (was, still, over) = lifted_in first second lifted apart apart' are c at in
        let free = (stays_on rows (stands first) c.id c.cell leads.legal (stands_at first apart c was) fails).1 in
        let (e, (e_in, e_over)) = any_in (is_over c.cell) (worked first second lifted) over in
        let (d, (d_in, d_is)) = in_map (λ (x : Container). x.cell) (changed first second ++ changed second first ++ lifted) e e_in in
        let d_over : is_over c.cell d.cell ≡ true = subst (λ (x : CellView). is_over c.cell x ≡ true) (sym d_is) e_over in
        let (r, (r_in, r_is)) = at_worked c d d_over below d_in in
        absurd (cc (subst (λ (x : CellView). is_over c.cell x ≡ false) r_is (each_in (λ (r : Row). is_over c.cell r.cell ≡ false) rows r free r_in), d_over))
  ]
    where
      at_worked : (c d : Container) → is_over c.cell d.cell ≡ true
          → ((d : Container) → In d lifted → d.cell.tier < c.cell.tier → goes_in rows d.id ≡ true)
          → In d (changed first second ++ changed second first ++ lifted) → (r : Row) × (In r rows × (r.cell ≡ d.cell))
      at_worked c d over below d_in = elim (in_append (changed first second ++ changed second first) lifted d d_in) [
        | inl one ↦ at_changed d (in_append (changed first second) (changed second first) d one)
        | inr two ↦
            let lower : d.cell.tier < c.cell.tier = elim (cases_lt d.cell.tier c.cell.tier) [
              | inl low ↦ low
              | inr high ↦ absurd (cc (not_over c.cell d.cell high, over))
            ] in
            leaves_from rows (stands first) d.id d.cell leads.legal (stands_at first apart d (lifted_in first second lifted apart apart' are d two).0) (below d two lower)
      ]

  lifted_goes_upto : (n : ℕ) (c : Container) → In c lifted → c.cell.tier ≤ n → goes_in rows c.id ≡ true
  lifted_goes_upto zero c at low = lifted_goes_over c at (λ d d_in lower. absurd (omega arith))
  lifted_goes_upto (suc n) c at low = lifted_goes_over c at (λ d d_in lower. lifted_goes_upto n d d_in (omega arith))

  lifted_goes : (c : Container) → In c lifted → goes_in rows c.id ≡ true
  lifted_goes c at = lifted_goes_upto c.cell.tier c at (omega arith)

  lifted_comes : (c : Container) → In c lifted → comes_in rows c.id ≡ true
  lifted_comes c at = elim (cases_Bool (comes_in rows c.id)) [
    | inl holds ↦ holds
    | inr fails ↦ absurd (cc (gone_at_last rows (stands first) c.id fails (lifted_goes c at), leads.ends c.id ∙ stands_at second apart' c (lifted_there first second lifted apart apart' are c at)))
  ]

  -- each id that goes or comes in the list does in every list that leads there
  pub must_go : (id : List ℕ) → has (going first second lifted apart apart' are) id ≡ true → goes_in rows id ≡ true
  must_go id holds =
      let (c, (at, is)) = any_in (λ (c : Container). bytes_eq c.id id) (going first second lifted apart apart' are) holds in
      subst (λ i. goes_in rows i ≡ true) (same_id c.id id is) (elim (in_append (changed first second) lifted c at) [
        | inl one ↦ changed_goes c one
        | inr two ↦ lifted_goes c two
      ])

  pub must_come : (id : List ℕ) → has (coming first second lifted apart apart' are) id ≡ true → comes_in rows id ≡ true
  must_come id holds =
      let (c, (at, is)) = any_in (λ (c : Container). bytes_eq c.id id) (coming first second lifted apart apart' are) holds in
      subst (λ i. comes_in rows i ≡ true) (same_id c.id id is) (elim (in_append (changed second first) lifted c at) [
        | inl one ↦ changed_comes c one
        | inr two ↦ lifted_comes c two
      ])

-- where rows of a kind name each of these containers, there are no fewer of them
as_many : (kind : Move → Bool) (cs : List Container) (rows : List Row) → EachPair (λ (x y : Container). x.id ≢ y.id) cs
    → ((id : List ℕ) → has cs id ≡ true → list_any (λ (r : Row). kind r.kind && bytes_eq r.id id) rows ≡ true)
    → length cs ≤ length (filter (λ (r : Row). kind r.kind) rows)
as_many kind cs rows far each =
    let these = filter (λ (r : Row). kind r.kind) rows in
    let key = λ (r : Row). r.id in
    omega (
      arith,
      length-map cs (λ (c : Container). c.id),
      length-map these key,
      length-le_from_is_member (decided bytes_eq bytes_eq-Decides) (map (λ (c : Container). c.id) cs) (map key these) (distinct_of (λ (c : Container). c.id) cs far) (λ q holds. found q holds),
    )
  where
    found : (q : List ℕ) → list_any (bytes_eq q) (map (λ (c : Container). c.id) cs) ≡ true
        → list_any (bytes_eq q) (map (λ (r : Row). r.id) (filter (λ (r : Row). kind r.kind) rows)) ≡ true
    found q holds =
        let (k, (k_in, k_is)) = any_in (bytes_eq q) (map (λ (c : Container). c.id) cs) holds in
        let (c, (c_in, c_is)) = in_map (λ (c : Container). c.id) cs k k_in in
        let named : has cs q ≡ true = in_any (λ (d : Container). bytes_eq d.id q) cs c c_in (id_same c.id q (c_is ∙ sym (same_id q k k_is))) in
        let (r, (r_in, r_is)) = any_in (λ (r : Row). kind r.kind && bytes_eq r.id q) rows (each q named) in
        let (of_kind, own) = and_parts (kind r.kind) (bytes_eq r.id q) r_is in
        in_any (bytes_eq q) (map (λ (r : Row). r.id) (filter (λ (r : Row). kind r.kind) rows)) r.id
        (map_in (λ (r : Row). r.id) (filter (λ (r : Row). kind r.kind) rows) r (filter_in (λ (r : Row). kind r.kind) rows r r_in of_kind))
        (id_same q r.id (sym (same_id r.id q own)))

other_kind : (r : Row) → is_load r.kind ≡ not (is_discharge r.kind)
other_kind r = tells r.kind
  where
    tells : (kind : Move) → is_load kind ≡ not (is_discharge kind)
    tells Discharge = refl
    tells Load = refl

pub list_least : (first second lifted : List Container) (rows others : List Row) → AreContainers first → AreContainers second
    → AreLifted first second lifted → IsMoveList first second lifted rows → Leads (stands first) others (stands second)
    → length rows ≤ length others
list_least first second lifted rows others a b are m leads =
    let far = apart first second lifted rows a b are m in
    let far' = apart' first second lifted rows a b are m in
    let off_count = length_permutation (map (row_of Discharge) (changed first second ++ lifted)) m.off m.parts.off_are in
    let on_count = length_permutation (map (row_of Load) (changed second first ++ lifted)) m.on m.parts.on_are in
    let go = as_many is_discharge (changed first second ++ lifted) others (apart_goes first second lifted rows a b are m) (must_go first second lifted far far' are others leads) in
    let come = as_many is_load (changed second first ++ lifted) others (apart_comes first second lifted rows a b are m) (must_come first second lifted far far' are others leads) in
    omega (
      arith,
      off_count,
      on_count,
      go,
      come,
      ap (λ (rs : List Row). length rs) m.rows_are,
      length-append m.off m.on,
      length-map (changed first second ++ lifted) (row_of Discharge),
      length-map (changed second first ++ lifted) (row_of Load),
      length-filter_both (λ (r : Row). is_discharge r.kind) (λ (r : Row). is_load r.kind) other_kind others,
    )
