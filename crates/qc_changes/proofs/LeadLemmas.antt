-- The list leads from the first plan to the second.
use Rattle.std.proofs.Common.{◌≡◌, ◌≢◌, ◌∙◌, ◌⊎◌, ◌++◌, ◌∷◌, [], ℕ, ◌≤◌, ◌==◌, Bool, true, false, not, ◌&&◌, ◌||◌, List, map, get_or, Option, Some, None, refl, sym, ap, inl, inr, subst, arith}
use Rattle.std.specs.Str.{bytes_eq}
use Rattle.std.specs.List.{IsDistinct, list_any, filter, AllByRecursion as Each}
use Rattle.std.specs.List.Sorted.{IsPermutation, IsSorted}
use Rattle.std.specs.Cmp.{IsTotalOrder, decided}
use Rattle.std.specs.Ordering.{is_lt, nat_cmp, ordering_then}
use Rattle.std.specs.declared.cmp.Ordering.{Ordering}
use Rattle.std.proofs.lemmas.Bool.{cases_Bool, cases_order, eq-eqb, lt-ltb, ne_eqb}
use Rattle.std.proofs.lemmas.Bool.Decides.{eqb_tells}
use Rattle.std.proofs.lemmas.Cmp.{back_total, nat_cmp_total, on_total, then_total}
use Rattle.std.proofs.lemmas.Slice.Eq.{bytes_eq-Decides}
use Rattle.std.proofs.lemmas.Map.Keys.{IsDistinct-IsPermutation, IsDistinct-cons, IsDistinct-head, IsDistinct-tail}
use Rattle.std.proofs.lemmas.List.Elements.{All-from_recursion, recursion_from_All}
use Rattle.std.proofs.lemmas.List.MinMax.{ranks_by}
use Rattle.std.proofs.lemmas.List.Sorted.{All-permutation, IsPermutation-map, list_any-IsPermutation, sorted_far}
use Rattle.qc_ship.specs.Cells.{CellView, overlap, slots}
use Rattle.qc_bayplan.specs.Plan.{AreContainers}
use Rattle.qc_bayplan.specs.declared.plan.Container.{Container}
use Rattle.qc_stow.specs.declared.row.Move.TheVariants.{Discharge, Load}
use Rattle.qc_stow.specs.declared.row.Row.{Row}
use Rattle.qc_changes.specs.Over.{is_over, is_over_any}
use Rattle.qc_changes.specs.Classes.{AreLifted, changed, is_at, is_still, stands, worked}
use Rattle.qc_changes.specs.MoveList.{IsMoveList, off_cmp, on_cmp, place_cmp, row_of}
use Rattle.qc_changes.specs.States.{AreLegal, IsFree, IsOpen, Leads, State, after_all}
use Rattle.qc_changes.proofs.Any.{any_agree, any_either, any_map}
use Rattle.qc_changes.proofs.Elements.{EachPair, In, any_in, each_in, each_of, in_any, in_map, none_in, pair_both, pairs_from_index}
use Rattle.qc_changes.proofs.LegalLemmas.{CanAllCome, CanAllGo, after_append, all_come, all_go, came, gone, kept, legal_append, names}
use Rattle.qc_changes.proofs.StandLemmas.{AreApart, cells_same, changed_in, comes_new, coming, coming_in, coming_worked, going, going_in, going_worked, has, id_other, id_same, lifted_in, lifted_there, same_id, stands_at, stayed, stays, stood_by}

-- ---- lists in another order

distinct_none : IsDistinct bytes_eq []
unfolding IsDistinct
distinct_none = tt

module _ {X : Type 0} (key : X → List ℕ) where
  pub distinct_of : (xs : List X) → EachPair (λ x y. key x ≢ key y) xs → IsDistinct bytes_eq (map key xs)
  distinct_of [] h = distinct_none
  distinct_of (x ∷ xs) h = IsDistinct-cons bytes_eq (key x) (map key xs) (differ xs h.0) (distinct_of xs h.1)
    where
      differ : (ys : List X) → Each (λ y. key x ≢ key y) ys → Each (λ k. bytes_eq (key x) k ≡ false) (map key ys)
      differ [] h = tt
      differ (y ∷ ys) h = (id_other (key x) (key y) h.0, differ ys h.1)

  pairs_of : (xs : List X) → IsDistinct bytes_eq (map key xs) → EachPair (λ x y. key x ≢ key y) xs
  pairs_of [] d = tt
  pairs_of (x ∷ xs) d = (differ xs (IsDistinct-head bytes_eq (key x) (map key xs) d), pairs_of xs (IsDistinct-tail bytes_eq (key x) (map key xs) d))
    where
      differ : (ys : List X) → Each (λ k. bytes_eq (key x) k ≡ false) (map key ys) → Each (λ y. key x ≢ key y) ys
      differ [] h = tt
      differ (y ∷ ys) h = ((λ e. absurd (cc (id_same (key x) (key y) e, h.0))), differ ys h.1)

  pub apart_sorted : (xs ys : List X) → IsPermutation xs ys → EachPair (λ x y. key x ≢ key y) xs → EachPair (λ x y. key x ≢ key y) ys
  apart_sorted xs ys same h =
      pairs_of ys (IsDistinct-IsPermutation bytes_eq (decided bytes_eq bytes_eq-Decides).symm (map key xs) (map key ys) (IsPermutation-map key xs ys same) (distinct_of xs h))

pair_map : {X Y : Type 0} (R : Y → Y → Type 0) (f : X → Y) (xs : List X) → EachPair (λ x y. R (f x) (f y)) xs → EachPair R (map f xs)
pair_map R f [] p = tt
pair_map R f (x ∷ xs) p = (each_map (R (f x)) f xs p.0, pair_map R f xs p.1)
  where
    each_map : {X Y : Type 0} (P : Y → Type 0) (f : X → Y) (xs : List X) → Each (λ x. P (f x)) xs → Each P (map f xs)
    each_map P f [] p = tt
    each_map P f (x ∷ xs) p = (p.0, each_map P f xs p.1)

pair_filter : {X : Type 0} (R : X → X → Type 0) (p : X → Bool) (xs : List X) → EachPair R xs → EachPair R (filter p xs)
pair_filter R p [] h = tt
pair_filter {X} R p (x ∷ xs) h = elim (cases_Bool (p x)) [
  | inl holds ↦ rw holds (each_filter (R x) xs h.0, pair_filter R p xs h.1)
  | inr fails ↦ rw fails (pair_filter R p xs h.1)
]
  where
    each_filter : (P : X → Type 0) (ys : List X) → Each P ys → Each P (filter p ys)
    each_filter P [] h = tt
    each_filter P (y ∷ ys) h = elim (cases_Bool (p y)) [ inl holds ↦ rw holds (h.0, each_filter P ys h.1) | inr fails ↦ rw fails (each_filter P ys h.1) ]

pub pair_append : {X : Type 0} (R : X → X → Type 0) (xs ys : List X) → EachPair R xs → EachPair R ys
    → ((x y : X) → In x xs → In y ys → R x y) → EachPair R (xs ++ ys)
pair_append R [] ys p q cross = q
pair_append {X} R (x ∷ xs) ys p q cross =
    (each_append xs ys p.0 (each_of (R x) ys (λ y at. cross x y (inl refl) at)), pair_append R xs ys p.1 q (λ z y at at'. cross z y (inr at) at'))
  where
    each_append : (zs ws : List X) → Each (R x) zs → Each (R x) ws → Each (R x) (zs ++ ws)
    each_append [] ws a b = b
    each_append (z ∷ zs) ws a b = (a.0, each_append zs ws a.1 b)

pub pair_from : {X : Type 0} (R T : X → X → Type 0) (P : X → Type 0) (xs : List X) → EachPair R xs → Each P xs
    → ((x y : X) → P x → P y → R x y → T x y) → EachPair T xs
pair_from R T P [] p q h = tt
pair_from {X} R T P (x ∷ xs) p q h = (go xs p.0 q.1, pair_from R T P xs p.1 q.1 h)
  where
    go : (ys : List X) → Each (R x) ys → Each P ys → Each (T x) ys
    go [] a b = tt
    go (y ∷ ys) a b = (h x y q.0 b.0 a.0, go ys a.1 b.1)

-- ---- overlapping goes both ways

pub eqb_sym : (a b : ℕ) → (a == b) ≡ (b == a)
eqb_sym a b = elim (eqb_tells a b) [
  | inl same ↦ same.0 ∙ sym (eq-eqb b a (sym same.1))
  | inr differ ↦ differ.0 ∙ sym (ne_eqb b a (λ e. differ.1 (sym e)))
]

any_swap : (xs ys : List ℕ) → list_any (λ x. list_any (λ y. x == y) ys) xs ≡ list_any (λ y. list_any (λ x. y == x) xs) ys
any_swap [] ys = sym (nothing ys)
  where
    nothing : (ys : List ℕ) → list_any (λ (y : ℕ). false) ys ≡ false
    nothing [] = refl
    nothing (y ∷ ys) = nothing ys
any_swap (x ∷ xs) ys =
    ap (λ b. list_any (λ y. x == y) ys || b) (any_swap xs ys)
    ∙ ap (λ b. b || list_any (λ y. list_any (λ z. y == z) xs) ys) (any_agree (λ y. x == y) (λ y. y == x) ys (each_of (λ y. (x == y) ≡ (y == x)) ys (λ y _. eqb_sym x y)))
    ∙ any_either (λ y. y == x) (λ y. list_any (λ z. y == z) xs) ys

abbrev meet : CellView → CellView → Bool
meet x y = list_any (λ slot. list_any (λ other. slot == other) (slots y.bay)) (slots x.bay)

pub overlap_sym : (a b : CellView) → overlap a b ≡ overlap b a
overlap_sym a b =
    ap (λ t. (t && (a.tier == b.tier)) && meet a b) (eqb_sym a.row b.row)
    ∙ ap (λ t. ((b.row == a.row) && t) && meet a b) (eqb_sym a.tier b.tier)
    ∙ ap (λ t. ((b.row == a.row) && (b.tier == a.tier)) && t) (any_swap (slots a.bay) (slots b.bay))

-- containers of a plan with different ids stand apart
pub cells_apart : (plan : List Container) → AreContainers plan → (i j : List ℕ) (x y : CellView) → stands plan i ≡ Some x → stands plan j ≡ Some y
    → i ≢ j → overlap x y ≡ false
cells_apart plan keeps i j x y at at' ne =
    let (c, (c_in, c_id, c_cell)) = stood_by plan i x at in
    let (d, (d_in, d_id, d_cell)) = stood_by plan j y at' in
    let free = either plan (pairs_from_index (λ (p q : Container). overlap q.cell p.cell ≡ false) plan keeps.apart) c d c_in d_in (λ e. ne (sym c_id ∙ ap (λ (z : Container). z.id) e ∙ d_id)) in
    subst (λ (z : CellView). overlap z y ≡ false) c_cell (subst (λ (z : CellView). overlap c.cell z ≡ false) d_cell free)
  where
    either : (cs : List Container) → EachPair (λ (p q : Container). overlap q.cell p.cell ≡ false) cs
        → (c d : Container) → In c cs → In d cs → c ≢ d → overlap c.cell d.cell ≡ false
    either [] pairs c d c_in d_in ne = absurd c_in
    either (e ∷ es) pairs c d c_in d_in ne = elim c_in [
      | inl c_is ↦ elim d_in [
        | inl d_is ↦ absurd (ne (sym c_is ∙ d_is))
        | inr d_later ↦ overlap_sym c.cell d.cell ∙ subst (λ (z : Container). overlap d.cell z.cell ≡ false) c_is (each_in (λ (q : Container). overlap q.cell e.cell ≡ false) es d pairs.0 d_later)
      ]
      | inr c_later ↦ elim d_in [
        | inl d_is ↦ subst (λ (z : Container). overlap c.cell z.cell ≡ false) d_is (each_in (λ (q : Container). overlap q.cell e.cell ≡ false) es c pairs.0 c_later)
        | inr d_later ↦ either es pairs.1 c d c_later d_later ne
      ]
    ]

-- ---- order

pub off_total : IsTotalOrder off_cmp
off_total =
    then_total (back_total (on_total (λ (r : Row). r.cell.tier) nat_cmp_total))
    (then_total (on_total (λ (r : Row). r.cell.bay) nat_cmp_total) (on_total (λ (r : Row). r.cell.row) nat_cmp_total))

pub on_total_order : IsTotalOrder on_cmp
on_total_order =
    then_total (on_total (λ (r : Row). r.cell.tier) nat_cmp_total)
    (then_total (on_total (λ (r : Row). r.cell.bay) nat_cmp_total) (on_total (λ (r : Row). r.cell.row) nat_cmp_total))

level : (a b : ℕ) (o : Ordering) → is_lt (ordering_then (nat_cmp b a) o) ≡ false → a ≤ b
level a b o h = elim (cases_order a b) [
  | inl same ↦ omega arith
  | inr other ↦ elim other [
    | inl below ↦ omega arith
    | inr above ↦ absurd (cc (rw (lt-ltb b a above) at h))
  ]
]

pub falls : (rows : List Row) → IsSorted off_cmp rows → EachPair (λ (a b : Row). b.cell.tier ≤ a.cell.tier) rows
falls rows sorted = pairs_from_index (λ (a b : Row). b.cell.tier ≤ a.cell.tier) rows (λ i j d lt low.
    let x = get_or rows i d in let y = get_or rows j d in
    level y.cell.tier x.cell.tier (place_cmp y.cell x.cell)
    (sorted_far (λ a b. is_lt (off_cmp a b)) (ranks_by off_total (λ (r : Row). r)) rows sorted i j d (omega arith) low))

pub rises : (rows : List Row) → IsSorted on_cmp rows → EachPair (λ (a b : Row). a.cell.tier ≤ b.cell.tier) rows
rises rows sorted = pairs_from_index (λ (a b : Row). a.cell.tier ≤ b.cell.tier) rows (λ i j d lt low.
    let x = get_or rows i d in let y = get_or rows j d in
    level x.cell.tier y.cell.tier (place_cmp y.cell x.cell)
    (sorted_far (λ a b. is_lt (on_cmp a b)) (ranks_by on_total_order (λ (r : Row). r)) rows sorted i j d (omega arith) low))

-- ---- the list

module _ (first second lifted : List Container) (rows : List Row) (a : AreContainers first) (b : AreContainers second)
    (are : AreLifted first second lifted) (m : IsMoveList first second lifted rows) where
  pub apart : AreApart first
  apart = pairs_from_index (λ (x y : Container). x.id ≢ y.id) first a.ids

  pub apart' : AreApart second
  apart' = pairs_from_index (λ (x y : Container). x.id ≢ y.id) second b.ids

  abbrev goes : List Container
  goes = going first second lifted apart apart' are

  abbrev comes : List Container
  comes = coming first second lifted apart apart' are

  pub each_off : (P : Row → Type 0) → ((c : Container) → In c goes → P (row_of Discharge c)) → Each P m.off
  each_off P h = recursion_from_All P m.off (All-permutation P (map (row_of Discharge) goes) m.off m.parts.off_are
      (All-from_recursion P (map (row_of Discharge) goes) (each_of P (map (row_of Discharge) goes) (λ y at.
      let (x, (x_in, is)) = in_map (row_of Discharge) goes y at in subst P is (h x x_in)))))

  pub each_on : (P : Row → Type 0) → ((c : Container) → In c comes → P (row_of Load c)) → Each P m.on
  each_on P h = recursion_from_All P m.on (All-permutation P (map (row_of Load) comes) m.on m.parts.on_are
      (All-from_recursion P (map (row_of Load) comes) (each_of P (map (row_of Load) comes) (λ y at.
      let (x, (x_in, is)) = in_map (row_of Load) comes y at in subst P is (h x x_in)))))

  pub names_off : (id : List ℕ) → names m.off id ≡ has goes id
  names_off id = sym (list_any-IsPermutation (λ (r : Row). bytes_eq r.id id) (map (row_of Discharge) goes) m.off m.parts.off_are)
      ∙ any_map (λ (r : Row). bytes_eq r.id id) (row_of Discharge) goes

  pub names_on : (id : List ℕ) → names m.on id ≡ has comes id
  names_on id = sym (list_any-IsPermutation (λ (r : Row). bytes_eq r.id id) (map (row_of Load) comes) m.on m.parts.on_are)
      ∙ any_map (λ (r : Row). bytes_eq r.id id) (row_of Load) comes

  same_place : (plan : List Container) → AreApart plan → (c d : Container) → In c plan → In d plan → c.id ≡ d.id → Some c.cell ≡ Some d.cell
  same_place plan far c d at at' e = sym (stands_at plan far c at) ∙ ap (stands plan) e ∙ stands_at plan far d at'

  pub apart_goes : EachPair (λ (x y : Container). x.id ≢ y.id) goes
  apart_goes = pair_append (λ (x y : Container). x.id ≢ y.id) (changed first second) lifted
      (pair_filter (λ (x y : Container). x.id ≢ y.id) (λ c. not (is_still second c)) first apart)
      (subst (λ (cs : List Container). EachPair (λ (x y : Container). x.id ≢ y.id) cs) (sym are.are) (pair_filter (λ (x y : Container). x.id ≢ y.id) (λ c. is_still second c && is_over_any c.cell (worked first second lifted)) first apart))
      (λ c d c_in d_in e.
      let (c_at, moved) = changed_in first second lifted apart apart' are first second c c_in in
      let (d_at, still, over) = lifted_in first second lifted apart apart' are d d_in in
      let cell_is : c.cell ≡ d.cell = cc (same_place first apart c d c_at d_at e) in
      let same : is_still second c ≡ is_still second d = ap (λ (x : CellView). is_at x (stands second c.id)) cell_is ∙ ap (λ i. is_at d.cell (stands second i)) e in
      absurd (cc (same, moved, still)))

  pub apart_comes : EachPair (λ (x y : Container). x.id ≢ y.id) comes
  apart_comes = pair_append (λ (x y : Container). x.id ≢ y.id) (changed second first) lifted
      (pair_filter (λ (x y : Container). x.id ≢ y.id) (λ c. not (is_still first c)) second apart')
      (subst (λ (cs : List Container). EachPair (λ (x y : Container). x.id ≢ y.id) cs) (sym are.are) (pair_filter (λ (x y : Container). x.id ≢ y.id) (λ c. is_still second c && is_over_any c.cell (worked first second lifted)) first apart))
      (λ c d c_in d_in e.
      let (c_at, moved) = changed_in first second lifted apart apart' are second first c c_in in
      let d_at = lifted_there first second lifted apart apart' are d d_in in
      let d_first = (lifted_in first second lifted apart apart' are d d_in).0 in
      let there : stands first c.id ≡ Some c.cell = ap (stands first) e ∙ stands_at first apart d d_first ∙ sym (same_place second apart' c d c_at d_at e) in
      let still : is_still first c ≡ true = ap (is_at c.cell) there ∙ cells_same c.cell in
      absurd (cc (moved, still)))

  pub off_kinds : Each (λ (r : Row). r.kind ≡ Discharge) m.off
  off_kinds = each_off (λ (r : Row). r.kind ≡ Discharge) (λ c at. refl)

  pub on_kinds : Each (λ (r : Row). r.kind ≡ Load) m.on
  on_kinds = each_on (λ (r : Row). r.kind ≡ Load) (λ c at. refl)

  pub off_apart : EachPair (λ (x y : Row). x.id ≢ y.id) m.off
  off_apart = apart_sorted (λ (r : Row). r.id) (map (row_of Discharge) goes) m.off m.parts.off_are
      (pair_map (λ (x y : Row). x.id ≢ y.id) (row_of Discharge) goes apart_goes)

  pub on_apart : EachPair (λ (x y : Row). x.id ≢ y.id) m.on
  on_apart = apart_sorted (λ (r : Row). r.id) (map (row_of Load) comes) m.on m.parts.on_are
      (pair_map (λ (x y : Row). x.id ≢ y.id) (row_of Load) comes apart_comes)

  pub off_stand : Each (λ (r : Row). stands first r.id ≡ Some r.cell) m.off
  off_stand = each_off (λ (r : Row). stands first r.id ≡ Some r.cell) (λ c at. stands_at first apart c (going_in first second lifted apart apart' are c at))

  can_go : CanAllGo (stands first) m.off
  can_go = record {
    kinds = off_kinds;
    stand = off_stand;
    order = pair_both (λ (x y : Row). x.id ≢ y.id) (λ (x y : Row). y.cell.tier ≤ x.cell.tier) m.off off_apart (falls m.off m.parts.off_order);
    covered = each_off (λ (r : Row). (id : List ℕ) (other : CellView) → stands first id ≡ Some other → is_over other r.cell ≡ true → names m.off id ≡ true)
        (λ c at id other there over. elim (cases_Bool (has goes id)) [
          | inl holds ↦ names_off id ∙ holds
          | inr fails ↦
              let (both, under) = stays first second lifted apart apart' are id other fails there in
              absurd (cc (over, none_in (is_over other) (worked first second lifted) c.cell (going_worked first second lifted apart apart' are c at) under))
        ]);
  }

  abbrev between : State
  between = after_all (stands first) m.off

  went : (id : List ℕ) → has goes id ≡ true → between id ≡ None
  went id holds = gone m.off (stands first) id off_kinds (names_off id ∙ holds)

  left : (id : List ℕ) → has goes id ≡ false → between id ≡ stands first id
  left id fails = kept m.off (stands first) id (names_off id ∙ fails)

  -- who is left stands in the second plan too, over nothing that is worked
  still_there : (id : List ℕ) (other : CellView) → between id ≡ Some other
      → (has goes id ≡ false) × (stands first id ≡ Some other) × (stands second id ≡ Some other) × (is_over_any other (worked first second lifted) ≡ false)
  still_there id other at = elim (cases_Bool (has goes id)) [
    | inl holds ↦ absurd (cc (went id holds, at))
    | inr fails ↦
        let before : stands first id ≡ Some other = sym (left id fails) ∙ at in
        let (both, under) = stays first second lifted apart apart' are id other fails before in
        (fails, before, both, under)
  ]

  pub on_stand : Each (λ (r : Row). stands second r.id ≡ Some r.cell) m.on
  on_stand = each_on (λ (r : Row). stands second r.id ≡ Some r.cell) (λ c at. stands_at second apart' c (coming_in first second lifted apart apart' are c at))

  has_itself : (c : Container) → In c comes → has comes c.id ≡ true
  has_itself c at = in_any (λ (d : Container). bytes_eq d.id c.id) comes c at (id_same c.id c.id refl)

  can_come : CanAllCome between m.on
  can_come = record {
    kinds = on_kinds;
    absent = each_on (λ (r : Row). between r.id ≡ None) (λ c at. elim (cases_Bool (has goes c.id)) [
      | inl holds ↦ went c.id holds
      | inr fails ↦ left c.id fails ∙ comes_new first second lifted apart apart' are c.id (has_itself c at) fails
    ]);
    clear = each_on (λ (r : Row). IsFree between r.cell × IsOpen between r.cell) (λ c at. (
      (λ id other there.
          let (fails, before, both, under) = still_there id other there in
          cells_apart second b id c.id other c.cell both (stands_at second apart' c (coming_in first second lifted apart apart' are c at))
          (λ e. absurd (cc (before, comes_new first second lifted apart apart' are id (ap (has comes) e ∙ has_itself c at) fails)))),
      (λ id other there.
          let (fails, before, both, under) = still_there id other there in
          none_in (is_over other) (worked first second lifted) c.cell (coming_worked first second lifted apart apart' are c at) under),
    ));
    order = pair_from (λ (x y : Row). (x.id ≢ y.id) × (x.cell.tier ≤ y.cell.tier)) (λ (x y : Row). (x.id ≢ y.id) × (overlap x.cell y.cell ≡ false) × (x.cell.tier ≤ y.cell.tier))
        (λ (r : Row). stands second r.id ≡ Some r.cell) m.on
        (pair_both (λ (x y : Row). x.id ≢ y.id) (λ (x y : Row). x.cell.tier ≤ y.cell.tier) m.on on_apart (rises m.on m.parts.on_order)) on_stand
        (λ x y at at' h. (h.0, cells_apart second b x.id y.id x.cell y.cell at at' h.0, h.1));
  }

  ends_there : (id : List ℕ) → after_all between m.on id ≡ stands second id
  ends_there id = elim (cases_Bool (has comes id)) [
    | inl holds ↦
        let (r, (r_in, is)) = any_in (λ (r : Row). bytes_eq r.id id) m.on (names_on id ∙ holds) in
        subst (λ i. after_all between m.on i ≡ stands second i) (same_id r.id id is)
        (came m.on between on_kinds on_apart r r_in ∙ sym (each_in (λ (r : Row). stands second r.id ≡ Some r.cell) m.on r on_stand r_in))
    | inr fails ↦ kept m.on between id (names_on id ∙ fails) ∙ rest fails (some_is (stands second id))
  ]
    where
      some_is : (o : Option CellView) → (o ≡ None) ⊎ ((cell : CellView) × (o ≡ Some cell))
      some_is None = inl refl
      some_is (Some cell) = inr (cell, refl)

      rest : has comes id ≡ false → (stands second id ≡ None) ⊎ ((cell : CellView) × (stands second id ≡ Some cell)) → between id ≡ stands second id
      rest fails (inr there) = let (before, stay) = stayed first second lifted apart apart' are id there.0 fails there.1 in left id stay ∙ before ∙ sym there.1
      rest fails (inl absent) = elim (cases_Bool (has goes id)) [
        | inl holds ↦ went id holds ∙ sym absent
        | inr stay ↦ elim (some_is (stands first id)) [
          | inl none ↦ left id stay ∙ none ∙ sym absent
          | inr there ↦ absurd (cc ((stays first second lifted apart apart' are id there.0 stay there.1).0, absent))
        ]
      ]

  pub list_leads : Leads (stands first) rows (stands second)
  list_leads = record {
    legal = subst (AreLegal (stands first)) (sym m.rows_are) (legal_append m.off m.on (stands first) (all_go m.off (stands first) can_go) (all_come m.on between can_come));
    ends = λ id. ap (λ (rs : List Row). after_all (stands first) rs id) m.rows_are ∙ after_append m.off m.on (stands first) id ∙ ends_there id;
  }
