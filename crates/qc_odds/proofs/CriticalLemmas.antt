-- Marked tasks are the critical ones.
use Rattle.std.proofs.Common.{◌≡◌, ◌≢◌, ℕ, zero, suc, ◌+◌, ◌<◌, ◌≤◌, ◌↔◌, inl, inr, Bool, true, false, cond, not, ◌&&◌, nat_lt, List, length, map, slice_index, refl, sym, ap, ◌∙◌, arith}
use Rattle.std.specs.List.{range_with_len}
use Rattle.std.specs.Prelude.{IsTrue}
use Rattle.std.proofs.lemmas.Bool.{and_from, and_parts, cases_Bool, cases_eq, false≢true, lt-ltb, ltb-true, not-true, not_from_false}
use Rattle.std.proofs.lemmas.Grind.{get_or-set_at}
use Rattle.std.proofs.lemmas.List.{get_or-set_other}
use Rattle.qc_dispatch.specs.Order.{Leads, gap}
use Rattle.qc_model.specs.declared.schedule.Slot.{Slot}
use Rattle.qc_model.specs.Instance.{InstanceView}
use Rattle.qc_model.specs.Nodes.{greatest}
use Rattle.qc_model.specs.Rules.{start_of}
use Rattle.qc_model.proofs.Extremes.{le_greatest}
use Rattle.qc_odds.specs.Course.{AreStarts, IsLastEnd, MayStartBy, end_in}
use Rattle.qc_odds.specs.Critical.{AreMarked, is_marked, with_tick_more}
use Rattle.qc_odds.proofs.RiseLemmas.{no_later, starts_leave_room}

module _ (inst : InstanceView) (plan : List Slot) (lengths starts : List ℕ) (last : ℕ) (marked : List Bool)
    (all : length lengths ≡ length inst.tasks) (are : AreStarts inst plan lengths starts) (ends : IsLastEnd lengths starts last)
    (marks : AreMarked inst plan lengths starts last marked) (j : ℕ) (low : j < length inst.tasks) (later : List ℕ) (after : ℕ)
    (those : AreStarts inst plan (with_tick_more lengths j) later) (over : IsLastEnd (with_tick_more lengths j) later after) where
  abbrev n : ℕ
  n = length inst.tasks

  -- the lengths with the tick
  more_here : slice_index (with_tick_more lengths j) j ≡ slice_index lengths j + 1
  more_here = get_or-set_at lengths j j (slice_index lengths j + 1) 0 refl (omega (arith, low, all))

  more_at : (k : ℕ) → k ≡ j → slice_index (with_tick_more lengths j) k ≡ slice_index lengths k + 1
  more_at k same = ap (slice_index (with_tick_more lengths j)) same ∙ more_here ∙ ap (λ (i : ℕ). slice_index lengths i + 1) (sym same)

  more_other : (k : ℕ) → k ≢ j → slice_index (with_tick_more lengths j) k ≡ slice_index lengths k
  more_other k differ = get_or-set_other lengths j k (slice_index lengths j + 1) 0 differ

  longer : (k : ℕ) → k < n → slice_index lengths k ≤ slice_index (with_tick_more lengths j) k
  longer k inside = elim (cases_eq k j) [
    | inl same ↦ omega (arith, more_at k same)
    | inr differ ↦ omega (arith, more_other k differ)
  ]

  rise : (k : ℕ) → k < n → slice_index starts k ≤ slice_index later k
  rise k inside = starts_leave_room inst plan lengths starts (with_tick_more lengths j) later are those longer k inside

  may_now : (k : ℕ) → k < n → MayStartBy inst plan (end_in lengths starts) k (slice_index starts k)
  may_now k inside = (are.each_one k inside (slice_index starts k)).0 (omega arith)

  may_later : (k : ℕ) → k < n → MayStartBy inst plan (end_in (with_tick_more lengths j) later) k (slice_index later k)
  may_later k inside = (those.each_one k inside (slice_index later k)).0 (omega arith)

  by_last : (k : ℕ) → k < n → end_in lengths starts k ≤ last
  by_last k inside = (ends.each_by last).0 (omega arith) k (omega (arith, inside, are.count))

  -- ---- a marked task that ends later makes the last end later
  top : ℕ
  top = greatest (map (start_of plan) (range_with_len 0 n)) + 1

  below_top : (k : ℕ) → k < n → start_of plan k < top
  unfolding top
  below_top k inside = omega (arith, le_greatest (start_of plan) k 0 n (omega arith) (omega arith))

  reaches : (fuel k : ℕ) → top ≤ fuel + start_of plan k → k < n → is_marked marked k ≡ true
      → end_in lengths starts k + 1 ≤ end_in (with_tick_more lengths j) later k → last < after
  reaches zero k far inside is late = absurd (omega (arith, below_top k inside, far))
  reaches (suc fuel) k far inside is late = elim ((marks.each_one k inside).0 is) [
    | inl ends_last ↦ omega (arith, (over.each_by after).0 (omega arith) k (omega (arith, inside, those.count)), ends_last, late)
    | inr held ↦
        let next = held.0 in
        let holds = held.1 in
        let pushed = (may_later next holds.leads.led).clear k holds.leads in
        reaches fuel next (omega (arith, far, holds.leads.sooner)) holds.leads.led holds.is
        (omega (arith, pushed, late, holds.tight, longer next holds.leads.led))
  ]

  marked_later : is_marked marked j ≡ true → last < after
  marked_later is = reaches top j (omega arith) low is (omega (arith, rise j low, more_here))

  -- ---- tasks behind it that aren't marked may start a tick later, and no others
  raised : ℕ → Bool
  raised k = nat_lt (start_of plan j) (start_of plan k) && not (is_marked marked k)

  begin : ℕ → ℕ
  begin k = slice_index starts k + cond (raised k) 1 0

  begin_raised : (k : ℕ) → raised k ≡ true → begin k ≡ slice_index starts k + 1
  unfolding begin
  begin_raised k is = ap (λ (b : Bool). slice_index starts k + cond b 1 0) is

  begin_stays : (k : ℕ) → raised k ≡ false → begin k ≡ slice_index starts k + 0
  unfolding begin
  begin_stays k is = ap (λ (b : Bool). slice_index starts k + cond b 1 0) is

  begin_from : (k : ℕ) → slice_index starts k ≤ begin k
  begin_from k = elim (cases_Bool (raised k)) [ inl is ↦ omega (arith, begin_raised k is) | inr is ↦ omega (arith, begin_stays k is) ]

  raised_from : (k : ℕ) → start_of plan j < start_of plan k → is_marked marked k ≡ false → raised k ≡ true
  unfolding raised
  raised_from k behind un = and_from (nat_lt (start_of plan j) (start_of plan k)) (not (is_marked marked k)) (lt-ltb _ _ behind) (not_from_false _ un)

  raised_parts : (k : ℕ) → raised k ≡ true → (start_of plan j < start_of plan k) × (is_marked marked k ≡ false)
  unfolding raised
  raised_parts k is =
      let parts = and_parts (nat_lt (start_of plan j) (start_of plan k)) (not (is_marked marked k)) is in
      (ltb-true _ _ parts.0, not-true _ parts.1)

  module _ (un : is_marked marked j ≡ false) where
    -- a task that isn't marked leaves a marked one a tick of room
    pushed : (i k : ℕ) → Leads inst plan i k → is_marked marked i ≡ false → start_of plan j ≤ start_of plan i → end_in lengths starts i + gap inst plan i k + 1 ≤ begin k
    pushed i k leads un_i behind = elim (cases_Bool (is_marked marked k)) [
      | inl yes' ↦ elim (cases_eq (end_in lengths starts i + gap inst plan i k) (slice_index starts k)) [
        | inl tight ↦ absurd (false≢true (sym un_i ∙ (marks.each_one i leads.leader).1 (inr (k, record { leads = leads; tight = tight; is = yes' }))))
        | inr apart ↦ omega (arith, (may_now k leads.led).clear i leads, apart, begin_from k)
      ]
      | inr no' ↦ omega (arith, (may_now k leads.led).clear i leads, begin_raised k (raised_from k (omega (arith, behind, leads.sooner)) no'))
    ]

    clear : (i k : ℕ) → Leads inst plan i k → begin i + slice_index (with_tick_more lengths j) i + gap inst plan i k ≤ begin k
    clear i k leads = elim (cases_Bool (raised i)) [
      | inl is ↦
          let parts = raised_parts i is in
          let differ : i ≢ j = λ same. let e = ap (start_of plan) same in omega (arith, e, parts.0) in
          omega (arith, begin_raised i is, more_other i differ, pushed i k leads parts.1 (omega (arith, parts.0)))
      | inr is ↦ elim (cases_eq i j) [
        | inl same ↦
            let e = ap (start_of plan) same in
            omega (arith, begin_stays i is, more_at i same, pushed i k leads (ap (is_marked marked) same ∙ un) (omega (arith, e)))
        | inr differ ↦ omega (arith, begin_stays i is, more_other i differ, (may_now k leads.led).clear i leads, begin_from k)
      ]
    ]

    by_begin : (k : ℕ) → k < n → slice_index later k ≤ begin k
    by_begin k inside =
        no_later inst plan (with_tick_more lengths j) later those begin (λ i. slice_index (with_tick_more lengths j) i)
        (record { longer = λ i in_i. omega arith; room = λ i in_i. record { free = omega (arith, (may_now i in_i).free, begin_from i); clear = λ h leads. clear h i leads } }) k inside

    not_last : (k : ℕ) → k < n → is_marked marked k ≡ false → end_in lengths starts k + 1 ≤ last
    not_last k inside un_k = elim (cases_eq (end_in lengths starts k) last) [
      | inl same ↦ absurd (false≢true (sym un_k ∙ (marks.each_one k inside).1 (inl same)))
      | inr differ ↦ omega (arith, by_last k inside, differ)
    ]

    each_by_last : (k : ℕ) → k < n → end_in (with_tick_more lengths j) later k ≤ last
    each_by_last k inside = elim (cases_Bool (raised k)) [
      | inl is ↦
          let parts = raised_parts k is in
          let differ : k ≢ j = λ same. let e = ap (start_of plan) same in omega (arith, e, parts.0) in
          omega (arith, by_begin k inside, begin_raised k is, more_other k differ, not_last k inside parts.1)
      | inr is ↦ elim (cases_eq k j) [
        | inl same ↦ omega (arith, by_begin k inside, begin_stays k is, more_at k same, not_last k inside (ap (is_marked marked) same ∙ un))
        | inr differ ↦ omega (arith, by_begin k inside, begin_stays k is, more_other k differ, by_last k inside)
      ]
    ]

    unmarked_same : after ≤ last
    unmarked_same = (over.each_by last).1 (λ k inside. each_by_last k (omega (arith, inside, those.count)))

  pub marked_is_critical : IsTrue (is_marked marked j) ↔ (last < after)
  marked_is_critical = (
    marked_later,
    λ later'. elim (cases_Bool (is_marked marked j)) [
      | inl yes' ↦ yes'
      | inr no' ↦ absurd (omega (arith, unmarked_same no', later'))
    ],
  )
