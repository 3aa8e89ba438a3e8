-- How many containers have each class.
use Rattle.std.proofs.Common.{◌≡◌, ◌≢◌, ◌∙◌, ◌⊎◌, ◌+◌, ◌∷◌, [], ℕ, Bool, true, false, not, ◌&&◌, cond, List, Option, Some, None, length, refl, sym, ap, subst, inl, inr, arith}
use Rattle.std.specs.Prelude.{is_some}
use Rattle.std.specs.Str.{bytes_eq}
use Rattle.std.specs.List.{count_by, filter, AllByRecursion as Each}
use Rattle.std.proofs.lemmas.Bool.{cases_Bool, not-true}
use Rattle.std.proofs.lemmas.List.{length-append}
use Rattle.qc_bayplan.specs.Plan.{AreContainers}
use Rattle.qc_ship.specs.Cells.{CellView}
use Rattle.qc_bayplan.specs.declared.plan.Container.{Container}
use Rattle.qc_changes.specs.declared.class.Class.{Class}
use Rattle.qc_changes.specs.declared.class.Class.TheVariants as class
use Rattle.qc_changes.specs.declared.counts.Counts.{Counts}
use Rattle.qc_changes.specs.Over.{is_over_any}
use Rattle.qc_changes.specs.Classes.{AreLifted, changed, class_by, class_of, is_at, is_still, same_cell, stands, worked}
use Rattle.qc_changes.specs.Lifts.{HasOff, counts_from}
use Rattle.qc_changes.specs.Counts.{count_in, count_of, either, is_class, is_gone, same_class}
use Rattle.qc_changes.proofs.Elements.{In, each_of, filter_in, in_filter, pairs_from_index}
use Rattle.qc_changes.proofs.LiftLemmas.{one_lifted}
use Rattle.qc_changes.proofs.StandLemmas.{AreApart, cells_same, id_other, id_same, same_cells, same_id, stands_at, stood_by}
use Rattle.qc_changes.proofs.StayLemmas.{has_stands}
use Rattle.qc_changes.proofs.Tally.{add, tally, tally_agree, tally_all, tally_append, tally_filter, tally_is, tally_none, tally_not, tally_sum, tally_three, tally_two}

-- ---- containers of one plan that the other has too, counted in either

abbrev hits : (CellView → Bool) → Option CellView → Bool
hits f None = false
hits f (Some x) = f x

stands_none : (cs : List Container) (id : List ℕ) → Each (λ (d : Container). id ≢ d.id) cs → stands cs id ≡ None
stands_none [] id each = refl
stands_none (c ∷ cs) id each =
    let other : bytes_eq c.id id ≡ false = id_other c.id id (λ e. each.0 (sym e)) in rw other (stands_none cs id each.1)

no_hit : (t : CellView → Bool) (id : List ℕ) (bs : List Container) → Each (λ (d : Container). id ≢ d.id) bs
    → tally (λ c. bytes_eq id c.id && t c.cell) bs ≡ 0
no_hit t id [] each = refl
no_hit t id (b ∷ bs) each =
    let other : bytes_eq id b.id ≡ false = id_other id b.id each.0 in rw other (no_hit t id bs each.1)

-- of the containers of a plan just one has an id, if any
one_hit : (t : CellView → Bool) (id : List ℕ) (bs : List Container) → AreApart bs
    → tally (λ c. bytes_eq id c.id && t c.cell) bs ≡ add (hits t (stands bs id)) 0
one_hit t id [] apart = refl
one_hit t id (b ∷ bs) apart = elim (cases_Bool (bytes_eq b.id id)) [
  | inl own ↦
      let is = same_id b.id id own in
      let mine : bytes_eq id b.id ≡ true = id_same id b.id (sym is) in
      rw (own, mine) (ap (add (t b.cell)) (no_hit t id bs (subst (λ (i : List ℕ). Each (λ (d : Container). i ≢ d.id) bs) is apart.0)))
  | inr other ↦
      let mine : bytes_eq id b.id ≡ false = id_other id b.id (λ e. not_same b.id id other (sym e)) in
      rw (other, mine) (one_hit t id bs apart.1)
]
  where
    not_same : (a b : List ℕ) → bytes_eq a b ≡ false → a ≡ b → ⊥
    not_same a b other same = cc (other, id_same a b same)

pub meet : (t : CellView → CellView → Bool) (first second : List Container) → AreApart first → AreApart second
    → tally (λ c. hits (t c.cell) (stands second c.id)) first ≡ tally (λ c. hits (λ x. t x c.cell) (stands first c.id)) second
meet t [] second apart apart' = sym (tally_none (λ c. hits (λ x. t x c.cell) (stands [] c.id)) second (each_of (λ (c : Container). hits (λ x. t x c.cell) (stands [] c.id) ≡ false) second (λ c at. refl)))
meet t (a ∷ cs) second apart apart' =
    front (hits (t a.cell) (stands second a.id)) (tally (λ c. hits (t c.cell) (stands second c.id)) cs)
    ∙ ap (λ (n : ℕ). n + tally (λ c. hits (t c.cell) (stands second c.id)) cs) (sym (one_hit (t a.cell) a.id second apart'))
    ∙ ap (λ (n : ℕ). tally (λ c. bytes_eq a.id c.id && t a.cell c.cell) second + n) (meet t cs second apart.1 apart')
    ∙ tally_sum (λ (c : Container). bytes_eq a.id c.id && t a.cell c.cell) (λ c. hits (λ x. t x c.cell) (stands cs c.id)) (λ c. hits (λ x. t x c.cell) (stands (a ∷ cs) c.id)) second each
  where
    front : (b : Bool) (n : ℕ) → add b n ≡ add b 0 + n
    front true n = omega arith
    front false n = omega arith

    each : (c : Container) → ((hits (λ x. t x c.cell) (stands cs c.id) ≡ false) × (hits (λ x. t x c.cell) (stands (a ∷ cs) c.id) ≡ (bytes_eq a.id c.id && t a.cell c.cell)))
        ⊎ (((bytes_eq a.id c.id && t a.cell c.cell) ≡ false) × (hits (λ x. t x c.cell) (stands (a ∷ cs) c.id) ≡ hits (λ x. t x c.cell) (stands cs c.id)))
    each c = elim (cases_Bool (bytes_eq a.id c.id)) [
      | inl own ↦
          let none : stands cs c.id ≡ None = stands_none cs c.id (subst (λ (i : List ℕ). Each (λ (d : Container). i ≢ d.id) cs) (same_id a.id c.id own) apart.0) in
          inl (rw none refl, rw own refl)
      | inr other ↦ inr (rw other refl, rw other refl)
    ]

same_cell_sym : (a b : CellView) → same_cell a b ≡ same_cell b a
same_cell_sym a b = elim (cases_Bool (same_cell a b)) [
  | inl holds ↦ let e = same_cells a b holds in holds ∙ sym (ap (λ (x : CellView). same_cell x a) (sym e) ∙ cells_same a)
  | inr fails ↦ elim (cases_Bool (same_cell b a)) [
    | inl back ↦ let e = same_cells b a back in absurd (cc (fails, ap (λ (x : CellView). same_cell a x) e ∙ cells_same a))
    | inr none ↦ fails ∙ sym none
  ]
]

-- ---- the classes of the first plan's containers

module _ (first second lifted : List Container) (apart : AreApart first) (apart' : AreApart second) (are : AreLifted first second lifted) where
  abbrev over : Container → Bool
  over c = is_over_any c.cell (worked first second lifted)

  abbrev chooses : Container → Bool
  chooses c = is_still second c && over c

  -- what is lifted is just what is chosen
  lifted_is : (c : Container) → In c first → is_some (stands lifted c.id) ≡ chooses c
  lifted_is c at = elim (cases_Bool (chooses c)) [
    | inl holds ↦ has_stands lifted c (subst (λ (cs : List Container). In c cs) (sym are.are) (filter_in chooses first c at holds)) ∙ sym holds
    | inr fails ↦ none (stands lifted c.id) refl fails
  ]
    where
      same_container : (d c : Container) → d.id ≡ c.id → d.cell ≡ c.cell → d ≡ c
      same_container d c i e =
          ap (λ (x : List ℕ). let it : Container = record { id = x; cell = d.cell } in it) i
          ∙ ap (λ (x : CellView). let it : Container = record { id = c.id; cell = x } in it) e

      none : (o : Option CellView) → stands lifted c.id ≡ o → chooses c ≡ false → is_some o ≡ chooses c
      none None is fails = sym fails
      none (Some cell) is fails =
          let (d, (d_at, id_is, cell_is)) = stood_by lifted c.id cell is in
          let r = in_filter chooses first d (subst (λ (cs : List Container). In d cs) are.are d_at) in
          let both : Some d.cell ≡ Some c.cell = sym (stands_at first apart d r.0) ∙ ap (stands first) id_is ∙ stands_at first apart c at in
          let cell_same : d.cell ≡ c.cell = cc both in
          let same = same_container d c id_is cell_same in
          absurd (cc (ap chooses same, r.1, fails))

  class_here : (c : Container) → In c first → class_of first second lifted c.id ≡ class_by (Some c.cell) (stands second c.id) (chooses c)
  class_here c at =
      ap (λ (o : Option CellView). class_by o (stands second c.id) (is_some (stands lifted c.id))) (stands_at first apart c at)
      ∙ ap (class_by (Some c.cell) (stands second c.id)) (lifted_is c at)

  class_there : (c : Container) → In c (filter (is_gone first) second) → class_of first second lifted c.id ≡ Some class.Loaded
  class_there c at =
      let r = in_filter (is_gone first) second c at in
      ap (λ (o : Option CellView). class_by o (stands second c.id) (is_some (stands lifted c.id))) (none (stands first c.id) (not-true (is_some (stands first c.id)) r.1))
      ∙ ap (λ (o : Option CellView). class_by None o (is_some (stands lifted c.id))) (stands_at second apart' c r.0)
    where
      none : (o : Option CellView) → is_some o ≡ false → o ≡ None
      none None h = refl
      none (Some cell) h = absurd (cc h)

  -- a count, by a test of the first plan's containers and one of those that it hasn't
  by_tests : (k : Class) (p : Container → Bool) (b : Bool)
      → ((c : Container) → In c first → is_class k (class_by (Some c.cell) (stands second c.id) (chooses c)) ≡ p c)
      → same_class k class.Loaded ≡ b
      → count_of first second lifted k ≡ tally p first + tally (λ (c : Container). b) (filter (is_gone first) second)
  by_tests k p b here there =
      let is : Container → Bool = λ c. is_class k (class_of first second lifted c.id) in
      sym (tally_is is (either first second)) ∙ tally_append is first (filter (is_gone first) second)
      ∙ ap (λ (n : ℕ). n + tally is (filter (is_gone first) second))
      (tally_agree is p first (each_of (λ (c : Container). is c ≡ p c) first (λ c at. ap (is_class k) (class_here c at) ∙ here c at)))
      ∙ ap (λ (n : ℕ). tally p first + n)
      (tally_agree is (λ _. b) (filter (is_gone first) second) (each_of (λ (c : Container). is c ≡ b) (filter (is_gone first) second) (λ c at. ap (is_class k) (class_there c at) ∙ there)))

  nobody : (cs : List Container) → tally (λ (c : Container). false) cs ≡ 0
  nobody cs = tally_none (λ _. false) cs (each_of (λ (c : Container). false ≡ false) cs (λ c at. refl))

  everybody : (cs : List Container) → tally (λ (c : Container). true) cs ≡ length cs
  everybody cs = tally_all (λ _. true) cs (each_of (λ (c : Container). true ≡ true) cs (λ c at. refl))

  -- how many have each class
  abbrev pub gone : ℕ
  gone = tally (is_gone second) first

  abbrev pub new : ℕ
  new = tally (is_gone first) second

  abbrev pub moved : ℕ
  moved = tally (λ c. not (is_gone second c) && not (is_still second c)) first

  abbrev pub stay : ℕ
  stay = tally (λ c. is_still second c && not (over c)) first

  pub discharged_is : count_of first second lifted class.Discharged ≡ gone
  discharged_is =
      by_tests class.Discharged (is_gone second) false (λ c at. at_both c.cell (stands second c.id) (over c)) refl
      ∙ ap (λ (n : ℕ). gone + n) (nobody (filter (is_gone first) second)) ∙ omega arith
    where
      at_both : (cell : CellView) (o : Option CellView) (up : Bool) → is_class class.Discharged (class_by (Some cell) o (is_at cell o && up)) ≡ not (is_some o)
      at_both cell None up = refl
      at_both cell (Some x) up = same (same_cell cell x) up
        where
          same : (s up : Bool) → is_class class.Discharged (Some (cond s (cond (s && up) class.Lifted class.Staying) class.Restowed)) ≡ false
          same true true = refl
          same true false = refl
          same false up = refl

  pub loaded_is : count_of first second lifted class.Loaded ≡ new
  loaded_is =
      by_tests class.Loaded (λ _. false) true (λ c at. at_both c.cell (stands second c.id) (over c)) refl
      ∙ ap (λ (n : ℕ). n + tally (λ (c : Container). true) (filter (is_gone first) second)) (nobody first)
      ∙ zero_ahead (tally (λ (c : Container). true) (filter (is_gone first) second))
      ∙ everybody (filter (is_gone first) second) ∙ tally_filter (is_gone first) second
    where
      zero_ahead : (n : ℕ) → 0 + n ≡ n
      zero_ahead n = omega arith

      at_both : (cell : CellView) (o : Option CellView) (up : Bool) → is_class class.Loaded (class_by (Some cell) o (is_at cell o && up)) ≡ false
      at_both cell None up = refl
      at_both cell (Some x) up = same (same_cell cell x) up
        where
          same : (s up : Bool) → is_class class.Loaded (Some (cond s (cond (s && up) class.Lifted class.Staying) class.Restowed)) ≡ false
          same true true = refl
          same true false = refl
          same false up = refl

  pub restowed_is : count_of first second lifted class.Restowed ≡ moved
  restowed_is =
      by_tests class.Restowed (λ c. not (is_gone second c) && not (is_still second c)) false (λ c at. at_both c.cell (stands second c.id) (over c)) refl
      ∙ ap (λ (n : ℕ). moved + n) (nobody (filter (is_gone first) second)) ∙ omega arith
    where
      at_both : (cell : CellView) (o : Option CellView) (up : Bool) → is_class class.Restowed (class_by (Some cell) o (is_at cell o && up)) ≡ (not (not (is_some o)) && not (is_at cell o))
      at_both cell None up = refl
      at_both cell (Some x) up = same (same_cell cell x) up
        where
          same : (s up : Bool) → is_class class.Restowed (Some (cond s (cond (s && up) class.Lifted class.Staying) class.Restowed)) ≡ not s
          same true true = refl
          same true false = refl
          same false up = refl

  lifted_count : tally chooses first ≡ length lifted
  lifted_count = sym (tally_filter chooses first) ∙ ap (λ (cs : List Container). length cs) (sym are.are)

  pub lifted_counted : count_of first second lifted class.Lifted ≡ length lifted
  lifted_counted =
      by_tests class.Lifted chooses false (λ c at. at_both c.cell (stands second c.id) (over c)) refl
      ∙ ap (λ (n : ℕ). tally chooses first + n) (nobody (filter (is_gone first) second)) ∙ zero_behind (tally chooses first) ∙ lifted_count
    where
      zero_behind : (n : ℕ) → n + 0 ≡ n
      zero_behind n = omega arith

      at_both : (cell : CellView) (o : Option CellView) (up : Bool) → is_class class.Lifted (class_by (Some cell) o (is_at cell o && up)) ≡ (is_at cell o && up)
      at_both cell None up = refl
      at_both cell (Some x) up = same (same_cell cell x) up
        where
          same : (s up : Bool) → is_class class.Lifted (Some (cond s (cond (s && up) class.Lifted class.Staying) class.Restowed)) ≡ (s && up)
          same true true = refl
          same true false = refl
          same false up = refl

  pub staying_is : count_of first second lifted class.Staying ≡ stay
  staying_is =
      by_tests class.Staying (λ c. is_still second c && not (over c)) false (λ c at. at_both c.cell (stands second c.id) (over c)) refl
      ∙ ap (λ (n : ℕ). stay + n) (nobody (filter (is_gone first) second)) ∙ omega arith
    where
      at_both : (cell : CellView) (o : Option CellView) (up : Bool) → is_class class.Staying (class_by (Some cell) o (is_at cell o && up)) ≡ (is_at cell o && not up)
      at_both cell None up = refl
      at_both cell (Some x) up = same (same_cell cell x) up
        where
          same : (s up : Bool) → is_class class.Staying (Some (cond s (cond (s && up) class.Lifted class.Staying) class.Restowed)) ≡ (s && not up)
          same true true = refl
          same true false = refl
          same false up = refl

  pub counted : (counts : Counts) → counts.discharged ≡ gone → counts.loaded ≡ new → counts.restowed ≡ moved
      → counts.lifted ≡ length lifted → counts.staying ≡ stay → (k : Class) → count_in k counts ≡ count_of first second lifted k
  counted counts d l r k s class.Discharged = d ∙ sym discharged_is
  counted counts d l r k s class.Loaded = l ∙ sym loaded_is
  counted counts d l r k s class.Restowed = r ∙ sym restowed_is
  counted counts d l r k s class.Lifted = k ∙ sym lifted_counted
  counted counts d l r k s class.Staying = s ∙ sym staying_is

  -- ---- sums

  gone_moves : (c : Container) → is_gone second c ≡ true → is_still second c ≡ false
  gone_moves c = at_there (stands second c.id)
    where
      at_there : (o : Option CellView) → not (is_some o) ≡ true → is_at c.cell o ≡ false
      at_there None h = refl
      at_there (Some x) h = absurd (cc h)

  -- what stays where it is is lifted or stays
  pub still_is : length lifted + stay ≡ tally (is_still second) first
  still_is = ap (λ (n : ℕ). n + stay) (sym lifted_count) ∙ tally_two (is_still second) over first

  pub first_is : gone + (moved + tally (is_still second) first) ≡ length first
  first_is = tally_three (is_gone second) (is_still second) first gone_moves

  -- as many of either plan are in the other, and as many at one cell
  common_is : tally (λ c. not (is_gone second c)) first ≡ tally (λ c. not (is_gone first c)) second
  common_is =
      tally_agree (λ (c : Container). not (is_gone second c)) (λ c. hits (λ x. true) (stands second c.id)) first (each_of (λ (c : Container). not (is_gone second c) ≡ hits (λ x. true) (stands second c.id)) first (λ c at. there (stands second c.id)))
      ∙ meet (λ x y. true) first second apart apart'
      ∙ sym (tally_agree (λ (c : Container). not (is_gone first c)) (λ c. hits (λ x. true) (stands first c.id)) second (each_of (λ (c : Container). not (is_gone first c) ≡ hits (λ x. true) (stands first c.id)) second (λ c at. there (stands first c.id))))
    where
      there : (o : Option CellView) → not (not (is_some o)) ≡ hits (λ x. true) o
      there None = refl
      there (Some x) = refl

  pub still_both : tally (is_still second) first ≡ tally (is_still first) second
  still_both =
      tally_agree (is_still second) (λ (c : Container). hits (same_cell c.cell) (stands second c.id)) first (each_of (λ (c : Container). is_still second c ≡ hits (same_cell c.cell) (stands second c.id)) first (λ c at. there c.cell (stands second c.id)))
      ∙ meet same_cell first second apart apart'
      ∙ sym (tally_agree (is_still first) (λ (c : Container). hits (λ x. same_cell x c.cell) (stands first c.id)) second (each_of (λ (c : Container). is_still first c ≡ hits (λ x. same_cell x c.cell) (stands first c.id)) second (λ c at. back c.cell (stands first c.id))))
    where
      there : (cell : CellView) (o : Option CellView) → is_at cell o ≡ hits (same_cell cell) o
      there cell None = refl
      there cell (Some x) = refl

      back : (cell : CellView) (o : Option CellView) → is_at cell o ≡ hits (λ x. same_cell x cell) o
      back cell None = refl
      back cell (Some x) = same_cell_sym cell x

  pub second_is : new + (moved + tally (is_still second) first) ≡ length second
  second_is =
      let all = tally_not (is_gone first) second in
      let one = tally_not (is_gone second) first in
      omega (arith, all, one, common_is, first_is)

  pub changed_is : (plan other : List Container) → length (changed plan other) + tally (is_still other) plan ≡ length plan
  changed_is plan other =
      let same = tally_filter (λ (c : Container). not (is_still other c)) plan in
      let all = tally_not (is_still other) plan in
      omega (arith, same, all)

-- the counts that the code comes to
pub counts_right : (first second : List Container) → AreContainers first → AreContainers second → (off : ℕ) (counts : Counts)
    → HasOff first second off
    → counts ≡ counts_from (length first) off (count_by (is_gone second) first) (count_by (is_still second) first) (count_by (is_gone first) second)
    → (lifted : List Container) → AreLifted first second lifted → (k : Class) → count_in k counts ≡ count_of first second lifted k
counts_right first second a b off counts has e lifted are =
    let far = pairs_from_index (λ (x y : Container). x.id ≢ y.id) first a.ids in
    let far' = pairs_from_index (λ (x y : Container). x.id ≢ y.id) second b.ids in
    let same = ap (λ (cs : List Container). length cs) (one_lifted first second has.lifted lifted has.are are) in
    let gone_is = tally_is (is_gone second) first in
    let still_counted = tally_is (is_still second) first in
    let all = first_is first second lifted far far' are in
    let stays = still_is first second lifted far far' are in
    let goes = changed_is first second lifted far far' are first second in
    let size = has.count ∙ length-append (changed first second) has.lifted in
    let r = ap (λ (c : Counts). c.restowed) e in
    let k = ap (λ (c : Counts). c.lifted) e in
    let s = ap (λ (c : Counts). c.staying) e in
    counted first second lifted far far' are counts
    (ap (λ (c : Counts). c.discharged) e ∙ sym gone_is)
    (ap (λ (c : Counts). c.loaded) e ∙ sym (tally_is (is_gone first) second))
    (omega (arith, r, gone_is, still_counted, all))
    (omega (arith, k, same, still_counted, goes, size))
    (omega (arith, s, same, still_counted, goes, size, stays))
