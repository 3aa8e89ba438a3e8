-- What must be lifted: that one set is right, that there is one, and that the pass finds it.
use Rattle.std.proofs.Common.{◌≡◌, ◌∙◌, ℕ, zero, suc, ◌<◌, ◌≤◌, ◌++◌, ◌∷◌, [], Bool, true, false, cond, ◌&&◌, ◌||◌, List, refl, sym, ap, inl, inr, arith, append_assoc}
use Rattle.std.specs.List.{list_any, filter, AllByRecursion as Each}
use Rattle.std.specs.List.Sorted.{IsPermutation}
use Rattle.std.proofs.lemmas.Bool.{cases_Bool, cases_lt, le-ltb}
use Rattle.std.proofs.lemmas.List.Folds.{list_any-append}
use Rattle.std.proofs.lemmas.List.Elements.{filter-append}
use Rattle.std.proofs.lemmas.List.Sorted.{list_any-IsPermutation}
use Rattle.qc_ship.specs.Cells.{CellView}
use Rattle.qc_bayplan.specs.declared.plan.Container.{Container}
use Rattle.qc_changes.specs.Over.{is_over, is_over_any}
use Rattle.qc_changes.specs.Classes.{AreLifted, cells_of, changed, chosen, is_still, worked}
use Rattle.qc_changes.specs.Lifts.{Lifts}
use Rattle.qc_changes.proofs.Any.{any_filter, filter_each}

pub not_over : (cell below : CellView) → cell.tier ≤ below.tier → is_over cell below ≡ false
not_over cell below h = rw (le-ltb below.tier cell.tier h) refl

-- one more lifted cell that is no lower changes nothing for those before it
over_more : (cell : CellView) (cells : List CellView) (one : CellView) → cell.tier ≤ one.tier
    → is_over_any cell (cells ++ one ∷ []) ≡ is_over_any cell cells
over_more cell cells one h =
    list_any-append (is_over cell) cells (one ∷ []) ∙ rw (not_over cell one h) (or_false (is_over_any cell cells))
  where
    or_false : (b : Bool) → (b || (false || false)) ≡ b
    or_false true = refl
    or_false false = refl

filter_last : {X : Type 0} (p : X → Bool) (xs : List X) (x : X) → filter p (xs ++ x ∷ []) ≡ filter p xs ++ cond (p x) (x ∷ []) []
filter_last p xs x = filter-append p xs (x ∷ [])

-- the next cell from below is over what is worked: it is lifted
pub lifts_more : (worked front lifted : List CellView) (cell : CellView)
    → Each (λ (c : CellView). c.tier ≤ cell.tier) front → Lifts worked front lifted
    → is_over_any cell (worked ++ lifted) ≡ true
    → Lifts worked (front ++ cell ∷ []) (lifted ++ cell ∷ [])
lifts_more worked front lifted cell low lifts over =
    let now = λ (c : CellView). is_over_any c (worked ++ (lifted ++ cell ∷ [])) in
    let same : Each (λ (c : CellView). is_over_any c (worked ++ lifted) ≡ now c) front = each_same front low in
    let here : now cell ≡ true = step cell (omega arith) ∙ over in
    sym (filter_last now front cell ∙ rw here (ap (λ (cs : List CellView). cs ++ cell ∷ []) (sym (filter_each (λ c. is_over_any c (worked ++ lifted)) now front same) ∙ sym lifts)))
  where
    step : (c : CellView) → c.tier ≤ cell.tier → is_over_any c (worked ++ (lifted ++ cell ∷ [])) ≡ is_over_any c (worked ++ lifted)
    step c h = ap (is_over_any c) (sym (append_assoc worked lifted (cell ∷ []))) ∙ over_more c (worked ++ lifted) cell h

    each_same : (cs : List CellView) → Each (λ (c : CellView). c.tier ≤ cell.tier) cs
        → Each (λ (c : CellView). is_over_any c (worked ++ lifted) ≡ is_over_any c (worked ++ (lifted ++ cell ∷ []))) cs
    each_same [] h = tt
    each_same (c ∷ cs) h = (sym (step c h.0), each_same cs h.1)

-- it isn't: it stays
pub lifts_skip : (worked front lifted : List CellView) (cell : CellView) → Lifts worked front lifted
    → is_over_any cell (worked ++ lifted) ≡ false → Lifts worked (front ++ cell ∷ []) lifted
lifts_skip worked front lifted cell lifts none =
    lifts ∙ sym (filter_last (λ c. is_over_any c (worked ++ lifted)) front cell ∙ rw none (append_nil (filter (λ c. is_over_any c (worked ++ lifted)) front)))
  where
    append_nil : {X : Type 0} (xs : List X) → xs ++ [] ≡ xs
    append_nil [] = refl
    append_nil (x ∷ xs) = ap (λ ys. x ∷ ys) (append_nil xs)

-- what the pass lifts of the cells of still containers are the lifted ones
module _ (first second : List Container) where
  abbrev pub moved : List CellView
  moved = cells_of (changed first second) ++ cells_of (changed second first)

  cells_append : (xs ys : List Container) → cells_of (xs ++ ys) ≡ cells_of xs ++ cells_of ys
  cells_append [] ys = refl
  cells_append (x ∷ xs) ys = ap (λ (cs : List CellView). x.cell ∷ cs) (cells_append xs ys)

  pub worked_is : (lifted : List Container) → worked first second lifted ≡ moved ++ cells_of lifted
  worked_is lifted = cells_append (changed first second ++ changed second first) lifted
      ∙ ap (λ (cs : List CellView). cs ++ cells_of lifted) (cells_append (changed first second) (changed second first))

  any_chosen : (p : CellView → Bool) (q : CellView → Bool) (cs : List Container)
      → list_any p (cells_of (filter (λ c. is_still second c && q c.cell) cs))
      ≡ list_any (λ cell. q cell && p cell) (cells_of (filter (is_still second) cs))
  any_chosen p q [] = refl
  any_chosen p q (c ∷ cs) = elim (cases_Bool (is_still second c)) [
    | inr fails ↦ rw fails (any_chosen p q cs)
    | inl holds ↦ elim (cases_Bool (q c.cell)) [
      | inl over ↦ rw (holds, over) (ap (λ b. p c.cell || b) (any_chosen p q cs))
      | inr under ↦ rw (holds, under) (any_chosen p q cs)
    ]
  ]

  pub lifts_are : (cells lifted : List CellView) → IsPermutation (cells_of (filter (is_still second) first)) cells
      → Lifts moved cells lifted → AreLifted first second (chosen first second (moved ++ lifted))
  lifts_are cells lifted same lifts = record {
    are = filter_each (λ c. is_still second c && is_over_any c.cell (moved ++ lifted)) (λ c. is_still second c && is_over_any c.cell (worked first second (chosen first second (moved ++ lifted)))) first (each_all first);
  }
    where
      agree : (e : CellView) → list_any (is_over e) lifted ≡ list_any (is_over e) (cells_of (chosen first second (moved ++ lifted)))
      agree e =
          ap (list_any (is_over e)) lifts ∙ any_filter (is_over e) (λ cell. is_over_any cell (moved ++ lifted)) cells
          ∙ sym (list_any-IsPermutation (λ cell. is_over_any cell (moved ++ lifted) && is_over e cell) (cells_of (filter (is_still second) first)) cells same)
          ∙ sym (any_chosen (is_over e) (λ cell. is_over_any cell (moved ++ lifted)) first)

      over_same : (e : CellView) → is_over_any e (moved ++ lifted) ≡ is_over_any e (worked first second (chosen first second (moved ++ lifted)))
      over_same e =
          list_any-append (is_over e) moved lifted ∙ ap (λ b. is_over_any e moved || b) (agree e)
          ∙ sym (list_any-append (is_over e) moved (cells_of (chosen first second (moved ++ lifted))))
          ∙ ap (is_over_any e) (sym (worked_is (chosen first second (moved ++ lifted))))

      each_all : (cs : List Container) → Each (λ (c : Container). (is_still second c && is_over_any c.cell (moved ++ lifted)) ≡ (is_still second c && is_over_any c.cell (worked first second (chosen first second (moved ++ lifted))))) cs
      each_all [] = tt
      each_all (c ∷ cs) = (ap (λ b. is_still second c && b) (over_same c.cell), each_all cs)

  -- ---- one set is right

  -- two choices that agree below a tier agree on what is over
  agree_below : (p q : Container → Bool) (e : CellView) (cs : List Container)
      → Each (λ (c : Container). c.cell.tier < e.tier → p c ≡ q c) cs
      → list_any (is_over e) (cells_of (filter p cs)) ≡ list_any (is_over e) (cells_of (filter q cs))
  agree_below p q e [] each = refl
  agree_below p q e (c ∷ cs) each = elim (cases_lt c.cell.tier e.tier) [
    | inl low ↦ elim (cases_Bool (q c)) [
      | inl holds ↦ rw (each.0 low ∙ holds, holds) (ap (λ b. is_over e c.cell || b) (agree_below p q e cs each.1))
      | inr fails ↦ rw (each.0 low ∙ fails, fails) (agree_below p q e cs each.1)
    ]
    | inr high ↦ skip p c cs high ∙ agree_below p q e cs each.1 ∙ sym (skip q c cs high)
  ]
    where
      skip : (p : Container → Bool) (c : Container) (cs : List Container) → e.tier ≤ c.cell.tier
          → list_any (is_over e) (cells_of (filter p (c ∷ cs))) ≡ list_any (is_over e) (cells_of (filter p cs))
      skip p c cs high = elim (cases_Bool (p c)) [
        | inl holds ↦ rw (holds, not_over e c.cell high) refl
        | inr fails ↦ rw fails refl
      ]

  over_worked : (e : CellView) (xs ys : List Container) → list_any (is_over e) (cells_of xs) ≡ list_any (is_over e) (cells_of ys)
      → is_over_any e (worked first second xs) ≡ is_over_any e (worked first second ys)
  over_worked e xs ys same =
      ap (is_over_any e) (worked_is xs) ∙ list_any-append (is_over e) moved (cells_of xs)
      ∙ ap (λ b. is_over_any e moved || b) same
      ∙ sym (list_any-append (is_over e) moved (cells_of ys)) ∙ ap (is_over_any e) (sym (worked_is ys))

  abbrev chooses : List Container → Container → Bool
  chooses lifted c = is_still second c && is_over_any c.cell (worked first second lifted)

  -- what is over is the same for both, up to any tier
  same_over : (xs ys : List Container) → AreLifted first second xs → AreLifted first second ys
      → (n : ℕ) (e : CellView) → e.tier ≤ n
      → is_over_any e (worked first second xs) ≡ is_over_any e (worked first second ys)
  same_over xs ys one other zero e h =
      over_worked e xs ys (ap (λ (cs : List Container). list_any (is_over e) (cells_of cs)) one.are
      ∙ agree_below (chooses xs) (chooses ys) e first (none first)
      ∙ ap (λ (cs : List Container). list_any (is_over e) (cells_of cs)) (sym other.are))
    where
      none : (cs : List Container) → Each (λ (c : Container). c.cell.tier < e.tier → chooses xs c ≡ chooses ys c) cs
      none [] = tt
      none (c ∷ cs) = (λ low. absurd (omega arith), none cs)
  same_over xs ys one other (suc n) e h =
      over_worked e xs ys (ap (λ (cs : List Container). list_any (is_over e) (cells_of cs)) one.are
      ∙ agree_below (chooses xs) (chooses ys) e first (below (λ (d : CellView) k. same_over xs ys one other n d k) first)
      ∙ ap (λ (cs : List Container). list_any (is_over e) (cells_of cs)) (sym other.are))
    where
      below : ((d : CellView) → d.tier ≤ n → is_over_any d (worked first second xs) ≡ is_over_any d (worked first second ys))
          → (cs : List Container) → Each (λ (c : Container). c.cell.tier < e.tier → chooses xs c ≡ chooses ys c) cs
      below by [] = tt
      below by (c ∷ cs) = (λ low. ap (λ b. is_still second c && b) (by c.cell (omega arith)), below by cs)

  pub one_lifted : (xs ys : List Container) → AreLifted first second xs → AreLifted first second ys → xs ≡ ys
  one_lifted xs ys one other = one.are ∙ filter_each (chooses xs) (chooses ys) first (all first) ∙ sym other.are
    where
      all : (cs : List Container) → Each (λ (c : Container). chooses xs c ≡ chooses ys c) cs
      all [] = tt
      all (c ∷ cs) = (ap (λ b. is_still second c && b) (same_over xs ys one other c.cell.tier c.cell (omega arith)), all cs)

  -- ---- there is one: choose again as often as there are tiers

  abbrev chosen_after : ℕ → List Container
  chosen_after zero = []
  chosen_after (suc n) = filter (chooses (chosen_after n)) first

  settled : (n : ℕ) (e : CellView) → e.tier ≤ n
      → is_over_any e (worked first second (chosen_after n)) ≡ is_over_any e (worked first second (chosen_after (suc n)))
  settled zero e h = over_worked e [] (chosen_after (suc zero)) (sym (nothing first))
    where
      nothing : (cs : List Container) → list_any (is_over e) (cells_of (filter (chooses []) cs)) ≡ false
      nothing [] = refl
      nothing (c ∷ cs) = elim (cases_Bool (chooses [] c)) [
        | inl holds ↦ rw (holds, not_over e c.cell (omega arith)) (nothing cs)
        | inr fails ↦ rw fails (nothing cs)
      ]
  settled (suc n) e h = over_worked e (chosen_after (suc n)) (chosen_after (suc (suc n)))
      (agree_below (chooses (chosen_after n)) (chooses (chosen_after (suc n))) e first (below (λ (d : CellView) k. settled n d k) first))
    where
      below : ((d : CellView) → d.tier ≤ n → is_over_any d (worked first second (chosen_after n)) ≡ is_over_any d (worked first second (chosen_after (suc n))))
          → (cs : List Container) → Each (λ (c : Container). c.cell.tier < e.tier → chooses (chosen_after n) c ≡ chooses (chosen_after (suc n)) c) cs
      below by [] = tt
      below by (c ∷ cs) = (λ low. ap (λ b. is_still second c && b) (by c.cell (omega arith)), below by cs)

  pub some_lifted : (n : ℕ) → Each (λ (c : Container). c.cell.tier ≤ n) first → (lifted : List Container) × AreLifted first second lifted
  some_lifted n low = (chosen_after (suc n), record { are = filter_each (chooses (chosen_after n)) (chooses (chosen_after (suc n))) first (all first low) })
    where
      all : (cs : List Container) → Each (λ (c : Container). c.cell.tier ≤ n) cs
          → Each (λ (c : Container). chooses (chosen_after n) c ≡ chooses (chosen_after (suc n)) c) cs
      all [] h = tt
      all (c ∷ cs) h = (ap (λ b. is_still second c && b) (settled n c.cell h.0), all cs h.1)
