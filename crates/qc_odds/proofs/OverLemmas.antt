-- By how much a run ends later where one task takes longer.
use Rattle.std.proofs.Common.{◌≡◌, ◌≢◌, ℕ, zero, suc, ◌+◌, ◌-◌, ◌<◌, ◌≤◌, min, ◌⊎◌, inl, inr, Bool, true, false, cond, nat_lt, List, length, slice_index, refl, sym, ap, subst, ◌∙◌, arith}
use Rattle.std.proofs.lemmas.Bool.{cases_Bool, cases_eq, cases_lt, false≢true, lt-ltb, ltb-true}
use Rattle.std.proofs.lemmas.Grind.{get_or-set_at}
use Rattle.std.proofs.lemmas.List.{get_or-set_other}
use Rattle.qc_dispatch.specs.Order.{Leads, gap}
use Rattle.qc_model.specs.declared.schedule.Slot.{Slot}
use Rattle.qc_model.specs.Instance.{InstanceView, ticks_of}
use Rattle.qc_model.specs.Rules.{start_of}
use Rattle.qc_odds.specs.Course.{AreStarts, IsLastEnd, MayStartBy, end_in}
use Rattle.qc_odds.specs.Critical.{AreMarked, is_marked, with_tick_more}
use Rattle.qc_odds.specs.Runs.{over, without_over}
use Rattle.qc_odds.proofs.RiseLemmas.{no_later}

-- lengths that are the same but for one task
module _ (inst : InstanceView) (plan : List Slot) (short long starts later : List ℕ) (first last : ℕ)
    (are : AreStarts inst plan short starts) (ends : IsLastEnd short starts first)
    (those : AreStarts inst plan long later) (over_at : IsLastEnd long later last)
    (j more : ℕ) (same : (k : ℕ) → k ≢ j → slice_index long k ≡ slice_index short k)
    (here : slice_index long j ≤ slice_index short j + more) where
  abbrev n : ℕ
  n = length inst.tasks

  may_short : (k : ℕ) → k < n → MayStartBy inst plan (end_in short starts) k (slice_index starts k)
  may_short k inside = (are.each_one k inside (slice_index starts k)).0 (omega arith)

  may_long : (k : ℕ) → k < n → MayStartBy inst plan (end_in long later) k (slice_index later k)
  may_long k inside = (those.each_one k inside (slice_index later k)).0 (omega arith)

  by_first : (k : ℕ) → k < n → end_in short starts k ≤ first
  by_first k inside = (ends.each_by first).0 (omega arith) k (omega (arith, inside, are.count))

  by_last : (k : ℕ) → k < n → end_in long later k ≤ last
  by_last k inside = (over_at.each_by last).0 (omega arith) k (omega (arith, inside, those.count))

  -- ---- no run ends later by more than the task takes longer

  behind : ℕ → Bool
  behind k = nat_lt (start_of plan j) (start_of plan k)

  begin : ℕ → ℕ
  begin k = slice_index starts k + cond (behind k) more 0

  begin_behind : (k : ℕ) → start_of plan j < start_of plan k → begin k ≡ slice_index starts k + more
  unfolding begin behind
  begin_behind k later' = ap (λ (b : Bool). slice_index starts k + cond b more 0) (lt-ltb (start_of plan j) (start_of plan k) later')

  begin_ahead : (k : ℕ) → start_of plan k ≤ start_of plan j → begin k ≡ slice_index starts k + 0
  unfolding begin behind
  begin_ahead k ahead = ap (λ (b : Bool). slice_index starts k + cond b more 0) (lt-leb-not k ahead)
    where
      lt-leb-not : (i : ℕ) → start_of plan i ≤ start_of plan j → nat_lt (start_of plan j) (start_of plan i) ≡ false
      lt-leb-not i le = elim (cases_Bool (nat_lt (start_of plan j) (start_of plan i))) [
        | inl yes' ↦ absurd (let lt = ltb-true (start_of plan j) (start_of plan i) yes' in omega (arith, lt, le))
        | inr no' ↦ no'
      ]

  begin_from : (k : ℕ) → slice_index starts k ≤ begin k
  begin_from k = elim (cases_lt (start_of plan j) (start_of plan k)) [
    | inl later' ↦ omega (arith, begin_behind k later')
    | inr ahead ↦ omega (arith, begin_ahead k ahead)
  ]

  begin_most : (k : ℕ) → begin k ≤ slice_index starts k + more
  begin_most k = elim (cases_lt (start_of plan j) (start_of plan k)) [
    | inl later' ↦ omega (arith, begin_behind k later')
    | inr ahead ↦ omega (arith, begin_ahead k ahead)
  ]

  room : (i k : ℕ) → Leads inst plan i k → begin i + slice_index long i + gap inst plan i k ≤ begin k
  room i k leads = elim (cases_eq i j) [
    | inl is ↦
        let start = ap (start_of plan) is in
        let length_i : slice_index long i ≤ slice_index short i + more = subst (λ (h : ℕ). slice_index long h ≤ slice_index short h + more) (sym is) here in
        omega (arith, begin_ahead i (omega (arith, start)), begin_behind k (omega (arith, start, leads.sooner)), length_i, (may_short k leads.led).clear i leads)
    | inr other ↦ elim (cases_lt (start_of plan j) (start_of plan i)) [
      | inl later' ↦
          omega (arith, begin_behind i later', begin_behind k (omega (arith, later', leads.sooner)), same i other, (may_short k leads.led).clear i leads)
      | inr ahead ↦ omega (arith, begin_ahead i ahead, begin_from k, same i other, (may_short k leads.led).clear i leads)
    ]
  ]

  by_begin : (k : ℕ) → k < n → slice_index later k ≤ begin k
  by_begin k inside =
      no_later inst plan long later those begin (λ i. slice_index long i)
      (record { longer = λ i in_i. omega arith; room = λ i in_i. record { free = omega (arith, (may_short i in_i).free, begin_from i); clear = λ h leads. room h i leads } }) k inside

  ended : (k : ℕ) → k < n → end_in long later k ≤ first + more
  ended k inside = elim (cases_eq k j) [
    | inl is ↦
        let length_k : slice_index long k ≤ slice_index short k + more = subst (λ (h : ℕ). slice_index long h ≤ slice_index short h + more) (sym is) here in
        omega (arith, by_begin k inside, begin_ahead k (let e = ap (start_of plan) is in omega (arith, e)), length_k, by_first k inside)
    | inr other ↦ omega (arith, by_begin k inside, begin_most k, same k other, by_first k inside)
  ]

  pub no_later_than_so_much : last ≤ first + more
  no_later_than_so_much = (over_at.each_by (first + more)).1 (λ k inside. ended k (omega (arith, inside, those.count)))

  -- ---- where the task isn't marked, the run ends no sooner without what it takes longer

  module _ (marked : List Bool) (marks : AreMarked inst plan long later last marked) (un : is_marked marked j ≡ false) where
    not_j : (k : ℕ) → is_marked marked k ≡ true → k ≢ j
    not_j k is e = false≢true (sym un ∙ ap (is_marked marked) (sym e) ∙ is)

    -- a marked task starts no sooner
    held : (fuel k : ℕ) → start_of plan k < fuel → k < n → is_marked marked k ≡ true → slice_index later k ≤ slice_index starts k
    held zero k few inside is = absurd (omega arith)
    held (suc fuel) k few inside is = elim (cases_lt (slice_index starts k) (slice_index later k)) [
      | inr fine ↦ fine
      | inl sooner ↦
          let may : MayStartBy inst plan (end_in long later) k (slice_index later k - 1) = record {
            free = omega (arith, (may_short k inside).free, sooner);
            clear = λ i leads. elim (cases_eq (end_in long later i + gap inst plan i k) (slice_index later k)) [
              | inl tight ↦
                  let is_i : is_marked marked i ≡ true = (marks.each_one i leads.leader).1 (inr (k, record { leads = leads; tight = tight; is = is })) in
                  absurd (omega (arith, held fuel i (omega (arith, few, leads.sooner)) leads.leader is_i, same i (not_j i is_i), (may_short k inside).clear i leads, tight, sooner))
              | inr apart ↦ omega (arith, (may_long k inside).clear i leads, apart)
            ];
          } in
          absurd (omega (arith, (those.each_one k inside (slice_index later k - 1)).1 may, sooner))
    ]

    pub no_later_without : last ≤ first
    no_later_without = elim (cases_lt first last) [
      | inr fine ↦ fine
      | inl later' ↦
          let before : last ≤ last - 1 = (over_at.each_by (last - 1)).1 (λ k low. by k (omega (arith, low, those.count)) later') in
          absurd (omega (arith, before, later'))
    ]
      where
        by : (k : ℕ) → k < n → first < last → end_in long later k ≤ last - 1
        by k inside later'' = elim (cases_eq (end_in long later k) last) [
          | inl is_last ↦
              let is : is_marked marked k ≡ true = (marks.each_one k inside).1 (inl is_last) in
              absurd (omega (arith, held (start_of plan k + 1) k (omega arith) inside is, same k (not_j k is), by_first k inside, is_last, later''))
          | inr other ↦ omega (arith, by_last k inside, other)
        ]

-- a tick more of one task ends the run at most a tick later
pub tick_later : (inst : InstanceView) (plan : List Slot) (lengths starts : List ℕ) (last : ℕ) → length lengths ≡ length inst.tasks
    → AreStarts inst plan lengths starts → IsLastEnd lengths starts last → (j : ℕ) → j < length inst.tasks → (later : List ℕ) (after : ℕ)
    → AreStarts inst plan (with_tick_more lengths j) later → IsLastEnd (with_tick_more lengths j) later after → after ≤ last + 1
tick_later inst plan lengths starts last all are ends j low later after those over_at =
    no_later_than_so_much inst plan lengths (with_tick_more lengths j) starts later last after are ends those over_at j 1
    (λ k other. get_or-set_other lengths j k (slice_index lengths j + 1) 0 other)
    (let e : slice_index (with_tick_more lengths j) j ≡ slice_index lengths j + 1 = get_or-set_at lengths j j (slice_index lengths j + 1) 0 refl (omega (arith, low, all)) in omega (arith, e))

-- where a task never takes longer than planned, a run ends sooner by no more than it is over
pub over_sooner : (inst : InstanceView) (plan : List Slot) (lengths starts : List ℕ) (last : ℕ) (marked : List Bool)
    → length lengths ≡ length inst.tasks → AreStarts inst plan lengths starts → IsLastEnd lengths starts last
    → AreMarked inst plan lengths starts last marked → (j : ℕ) → j < length inst.tasks → (sooner : List ℕ) (first : ℕ)
    → AreStarts inst plan (without_over inst lengths j) sooner → IsLastEnd (without_over inst lengths j) sooner first
    → last ≤ first + over inst lengths marked j
over_sooner inst plan lengths starts last marked all are ends marks j low sooner first those over_at = by (cases_Bool (is_marked marked j))
  where
    same : (k : ℕ) → k ≢ j → slice_index lengths k ≡ slice_index (without_over inst lengths j) k
    same k other = sym (get_or-set_other lengths j k (min (slice_index lengths j) (ticks_of inst j)) 0 other)

    here : slice_index (without_over inst lengths j) j ≡ min (slice_index lengths j) (ticks_of inst j)
    here = get_or-set_at lengths j j (min (slice_index lengths j) (ticks_of inst j)) 0 refl (omega (arith, low, all))

    by : (is_marked marked j ≡ true) ⊎ (is_marked marked j ≡ false) → last ≤ first + over inst lengths marked j
    by (inl is) =
        let d : over inst lengths marked j ≡ slice_index lengths j - ticks_of inst j = ap (λ (b : Bool). cond b (slice_index lengths j - ticks_of inst j) 0) is in
        let most = no_later_than_so_much inst plan (without_over inst lengths j) lengths sooner starts first last those over_at are ends j
        (slice_index lengths j - ticks_of inst j) same (omega (arith, here)) in
        omega (arith, d, most)
    by (inr un) =
        let d : over inst lengths marked j ≡ 0 = ap (λ (b : Bool). cond b (slice_index lengths j - ticks_of inst j) 0) un in
        let most = no_later_without inst plan (without_over inst lengths j) lengths sooner starts first last those over_at are ends j
        (slice_index lengths j) same (omega arith) marked marks un in
        omega (arith, d, most)
