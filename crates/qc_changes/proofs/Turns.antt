-- Turns of the loops over containers.
use Rattle.std.proofs.Common.{◌≡◌, ◌≢◌, ◌∙◌, ◌+◌, ◌++◌, ◌∷◌, [], ℕ, zero, suc, ◌<◌, ◌≤◌, Bool, true, false, cond, List, length, get_or, map, take, Some, refl, sym, ap, inl, inr, subst, arith, AllPairs, append_assoc}
use Rattle.std.specs.List.{filter, AllByRecursion as Each}
use Rattle.std.specs.List.Sorted.{IsNonDecreasingBy}
use Rattle.std.specs.Str.{bytes_eq}
use Rattle.std.proofs.lemmas.Bool.{cases_Bool}
use Rattle.std.proofs.lemmas.List.{get_or-take, get_or_default, length-take, take_more}
use Rattle.std.proofs.lemmas.List.Elements.{filter_more, recursion_from_All}
use Rattle.qc_ship.specs.Cells.{CellView}
use Rattle.qc_bayplan.specs.declared.plan.Container.{Container}
use Rattle.qc_stow.specs.declared.row.Move.{Move}
use Rattle.qc_stow.specs.declared.row.Row.{Row}
use Rattle.qc_changes.specs.Over.{is_over_any}
use Rattle.qc_changes.specs.Classes.{cells_of, stands}
use Rattle.qc_changes.specs.Lifts.{Lifts}
use Rattle.qc_changes.specs.MoveList.{row_of}
use Rattle.qc_changes.proofs.Elements.{EachPair, pairs_from_index}
use Rattle.qc_changes.proofs.LiftLemmas.{lifts_more, lifts_skip}
use Rattle.qc_changes.proofs.StandLemmas.{id_other, same_id}

map-append : {X Y : Type 0} (f : X → Y) (xs ys : List X) → map f (xs ++ ys) ≡ map f xs ++ map f ys
map-append f [] ys = refl
map-append f (x ∷ xs) ys = ap (λ zs. f x ∷ zs) (map-append f xs ys)

module _ {X Y : Type 0} (p : X → Bool) (f : X → Y) (xs : List X) (i : ℕ) (x : X) (lt : i < length xs) (is : x ≡ get_or xs i x) where
  here : filter p (take (i + 1) xs) ≡ filter p (take i xs) ++ cond (p x) (x ∷ []) []
  here = filter_more p xs i x lt ∙ ap (λ (y : X). filter p (take i xs) ++ cond (p y) (y ∷ []) []) (sym is)

  -- the element passes: it stands behind those before it
  pub one_more : (old before after : List Y) → p x ≡ true → before ≡ old ++ map f (filter p (take i xs)) → after ≡ before ++ f x ∷ []
      → after ≡ old ++ map f (filter p (take (i + 1) xs))
  one_more old before after holds so_far now =
      now ∙ ap (λ (ys : List Y). ys ++ f x ∷ []) so_far ∙ append_assoc old (map f (filter p (take i xs))) (f x ∷ [])
      ∙ ap (λ (ys : List Y). old ++ ys) (sym (ap (map f) (here ∙ ap (λ b. filter p (take i xs) ++ cond b (x ∷ []) []) holds) ∙ map-append f (filter p (take i xs)) (x ∷ [])))

  pub none_more : (old before : List Y) → p x ≡ false → before ≡ old ++ map f (filter p (take i xs))
      → before ≡ old ++ map f (filter p (take (i + 1) xs))
  none_more old before fails so_far =
      so_far ∙ ap (λ (ys : List X). old ++ map f ys) (sym (here ∙ ap (λ b. filter p (take i xs) ++ cond b (x ∷ []) []) fails ∙ nil (filter p (take i xs))))
    where
      nil : (ys : List X) → ys ++ [] ≡ ys
      nil [] = refl
      nil (y ∷ ys) = ap (λ zs. y ∷ zs) (nil ys)

-- one more container is told of
stands-push : (cs : List Container) (c : Container) → Each (λ (d : Container). d.id ≢ c.id) cs → (id : List ℕ)
    → stands (cs ++ c ∷ []) id ≡ cond (bytes_eq c.id id) (Some c.cell) (stands cs id)
stands-push [] c each id = refl
stands-push (d ∷ ds) c each id = elim (cases_Bool (bytes_eq d.id id)) [
  | inr other ↦ rw other (stands-push ds c each.1 id)
  | inl own ↦ let differ : bytes_eq c.id id ≡ false = id_other c.id id (λ e. each.0 (same_id d.id id own ∙ sym e)) in rw (own, differ) refl
]

pub stands_more : (cs : List Container) (i : ℕ) (c : Container) → i < length cs → c ≡ get_or cs i c → AllPairs (λ (a b : Container). a.id ≢ b.id) cs
    → (id : List ℕ) → stands (take (i + 1) cs) id ≡ cond (bytes_eq c.id id) (Some c.cell) (stands (take i cs) id)
stands_more cs i c lt is apart id =
    let front : take (i + 1) cs ≡ take i cs ++ c ∷ [] = take_more cs i c lt ∙ ap (λ (d : Container). take i cs ++ d ∷ []) (sym is) in
    let far : EachPair (λ (a b : Container). a.id ≢ b.id) (take i cs ++ c ∷ []) = subst (λ (ds : List Container). EachPair (λ (a b : Container). a.id ≢ b.id) ds) front (pair_take (λ (a b : Container). a.id ≢ b.id) cs (i + 1) (pairs_from_index (λ (a b : Container). a.id ≢ b.id) cs apart)) in
    ap (λ (ds : List Container). stands ds id) front ∙ stands-push (take i cs) c (pair_last (λ (a b : Container). a.id ≢ b.id) (take i cs) c far) id
  where
    each_take : {X : Type 0} (P : X → Type 0) (xs : List X) (n : ℕ) → Each P xs → Each P (take n xs)
    each_take P [] zero h = tt
    each_take P [] (suc n) h = tt
    each_take P (x ∷ xs) zero h = tt
    each_take P (x ∷ xs) (suc n) h = (h.0, each_take P xs n h.1)

    pair_take : {X : Type 0} (R : X → X → Type 0) (xs : List X) (n : ℕ) → EachPair R xs → EachPair R (take n xs)
    pair_take R [] zero h = tt
    pair_take R [] (suc n) h = tt
    pair_take R (x ∷ xs) zero h = tt
    pair_take R (x ∷ xs) (suc n) h = (each_take (R x) xs n h.0, pair_take R xs n h.1)

    each_last : {X : Type 0} (P : X → Type 0) (xs : List X) (x : X) → Each P (xs ++ x ∷ []) → P x
    each_last P [] x h = h.0
    each_last P (y ∷ ys) x h = each_last P ys x h.1

    pair_last : {X : Type 0} (R : X → X → Type 0) (xs : List X) (x : X) → EachPair R (xs ++ x ∷ []) → Each (λ y. R y x) xs
    pair_last R [] x h = tt
    pair_last R (y ∷ ys) x h = (each_last (R y) ys x h.0, pair_last R ys x h.1)

-- the cells of one row more
pub cells_more : (cells : List CellView) (rows : List Row) (i : ℕ) (row : Row) → i < length rows → row ≡ get_or rows i row
    → (cells ++ map (λ (r : Row). r.cell) (take i rows)) ++ row.cell ∷ [] ≡ cells ++ map (λ (r : Row). r.cell) (take (i + 1) rows)
cells_more cells rows i row lt is =
    append_assoc cells (map (λ (r : Row). r.cell) (take i rows)) (row.cell ∷ [])
    ∙ ap (λ (cs : List CellView). cells ++ cs) (sym (ap (map (λ (r : Row). r.cell)) (take_more rows i row lt ∙ ap (λ (r : Row). take i rows ++ r ∷ []) (sym is))
    ∙ map-append (λ (r : Row). r.cell) (take i rows) (row ∷ [])))

-- the cells of the moves of containers
pub cells_of_rows : (kind : Move) (cs : List Container) → map (λ (r : Row). r.cell) (map (row_of kind) cs) ≡ cells_of cs
cells_of_rows kind [] = refl
cells_of_rows kind (c ∷ cs) = ap (λ (xs : List CellView). c.cell ∷ xs) (cells_of_rows kind cs)

pub rows_append : (kind : Move) (xs ys : List Container) → map (row_of kind) (xs ++ ys) ≡ map (row_of kind) xs ++ map (row_of kind) ys
rows_append kind xs ys = map-append (row_of kind) xs ys

-- the next cell of a list that rises
module _ (cells : List CellView) (i : ℕ) (cell : CellView) (lt : i < length cells) (is : cell ≡ get_or cells i cell)
    (up : IsNonDecreasingBy (λ (c : CellView). c.tier) cells) (worked lifted : List CellView) (lifts : Lifts worked (take i cells) lifted) where
  front_is : take (i + 1) cells ≡ take i cells ++ cell ∷ []
  front_is = take_more cells i cell lt ∙ ap (λ (c : CellView). take i cells ++ c ∷ []) (sym is)

  no_higher : Each (λ (c : CellView). c.tier ≤ cell.tier) (take i cells)
  no_higher = recursion_from_All (λ (c : CellView). c.tier ≤ cell.tier) (take i cells) (λ k d low.
      let before : k < i = omega (arith, length-take i cells) in
      subst (λ (n : ℕ). (get_or (take i cells) k d).tier ≤ n) (ap (λ (c : CellView). c.tier) (get_or_default cells i d cell lt ∙ sym is))
      (subst (λ (c : CellView). c.tier ≤ (get_or cells i d).tier) (sym (get_or-take i cells k d before)) (up k i d (omega arith) lt)))

  pub lift_turn : is_over_any cell (worked ++ lifted) ≡ true → Lifts worked (take (i + 1) cells) (lifted ++ cell ∷ [])
  lift_turn over = subst (λ (cs : List CellView). Lifts worked cs (lifted ++ cell ∷ [])) (sym front_is) (lifts_more worked (take i cells) lifted cell no_higher lifts over)

  pub skip_turn : is_over_any cell (worked ++ lifted) ≡ false → Lifts worked (take (i + 1) cells) lifted
  skip_turn under = subst (λ (cs : List CellView). Lifts worked cs lifted) (sym front_is) (lifts_skip worked (take i cells) lifted cell lifts under)
