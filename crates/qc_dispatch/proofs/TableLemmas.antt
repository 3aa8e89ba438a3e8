-- Tables that grow by one.
use Rattle.std.proofs.Common.{◌≡◌, ℕ, zero, suc, ◌+◌, ◌-◌, ◌*◌, max, ◌<◌, ◌≤◌, ◌↔◌, inl, inr, None, Bool, true, false, cond, IsTrue, List, [], ◌∷◌, ◌++◌, length, slice_index_or, slice_set, refl, ap, sym, subst, ◌∙◌, arith}
use Rattle.std.proofs.lemmas.Bool.{cases_eq}
use Rattle.std.proofs.lemmas.Grind.{get_or-set_at}
use Rattle.std.proofs.lemmas.List.{get_or-set_other, get_or_default, length-append, length-set}
use Rattle.qc_dispatch.specs.declared.waits.Wait.{Wait}
use Rattle.qc_dispatch.specs.Order.{Leads, gap}
use Rattle.qc_dispatch.specs.Marks.{AreMarks, mark}
use Rattle.qc_dispatch.specs.Waits.{IsWait, let_go, no_wait, wait_of}
use Rattle.qc_model.specs.declared.schedule.Slot.{Slot}
use Rattle.qc_model.specs.Instance.{InstanceView}

at_end : {X : Type 0} (xs : List X) (x d : X) → slice_index_or (xs ++ x ∷ []) (length xs) d ≡ x
at_end [] x d = refl
at_end (y ∷ ys) x d = at_end ys x d

ahead : {X : Type 0} (xs ys : List X) (k : ℕ) (d : X) → k < length xs → slice_index_or (xs ++ ys) k d ≡ slice_index_or xs k d
ahead [] ys k d low = absurd (omega arith)
ahead (x ∷ xs) ys zero d low = refl
ahead (x ∷ xs) ys (suc k) d low = ahead xs ys k d (omega arith)

module _ (inst : InstanceView) (plan : List Slot) where
  -- the first so many places of the table of who leads whom
  pub record MarksBelow (n : ℕ) (marks : List Bool) : Type 0 where
    pub count : length marks ≡ n
    pub says : (i j : ℕ) → i < length inst.tasks → j < length inst.tasks → 240 * i + j < n → IsTrue (mark marks i j) ↔ Leads inst plan i j

  pub marks_more : (n : ℕ) (marks : List Bool) (b : Bool) → MarksBelow n marks
      → ((i j : ℕ) → i < length inst.tasks → j < length inst.tasks → 240 * i + j ≡ n → IsTrue b ↔ Leads inst plan i j)
      → MarksBelow (n + 1) (marks ++ b ∷ [])
  marks_more n marks b are this = record {
    count = omega (arith, length-append marks (b ∷ []), are.count);
    says = λ i j first second low. elim (cases_eq (240 * i + j) n) [
      | inl e ↦
          let same : mark (marks ++ b ∷ []) i j ≡ b = ap (λ k. slice_index_or (marks ++ b ∷ []) k false) (e ∙ sym are.count) ∙ at_end marks b false in
          subst (λ (x : Bool). IsTrue x ↔ Leads inst plan i j) (sym same) (this i j first second e)
      | inr differ ↦
          let inside : 240 * i + j < n = omega (arith, differ) in
          let same : mark (marks ++ b ∷ []) i j ≡ mark marks i j = ahead marks (b ∷ []) (240 * i + j) false (omega (arith, inside, are.count)) in
          subst (λ (x : Bool). IsTrue x ↔ Leads inst plan i j) (sym same) (are.says i j first second inside)
    ];
  }

  pub marks_all : (marks : List Bool) → length inst.tasks ≤ 240 → MarksBelow (length inst.tasks * 240) marks → AreMarks inst plan marks
  marks_all marks few are = record {
    count = are.count;
    says = λ i j first second. are.says i j first second (omega (arith, first, second, few));
  }

  -- the waits of the first so many tasks
  pub record WaitsBelow (marks : List Bool) (n : ℕ) (waits : List Wait) : Type 0 where
    pub count : length waits ≡ n
    pub each : (j : ℕ) → j < n → IsWait inst plan marks (λ i. None) j (wait_of waits j)

  pub waits_more : (marks : List Bool) (n : ℕ) (waits : List Wait) (wait : Wait) → WaitsBelow marks n waits
      → IsWait inst plan marks (λ i. None) n wait → WaitsBelow marks (n + 1) (waits ++ wait ∷ [])
  waits_more marks n waits wait are this = record {
    count = omega (arith, length-append waits (wait ∷ []), are.count);
    each = λ j low. elim (cases_eq j n) [
      | inl e ↦
          let same : wait_of (waits ++ wait ∷ []) j ≡ wait = ap (λ k. slice_index_or (waits ++ wait ∷ []) k no_wait) (e ∙ sym are.count) ∙ at_end waits wait no_wait in
          subst (λ (w : Wait). IsWait inst plan marks (λ i. None) j w) (sym same) (subst (λ (k : ℕ). IsWait inst plan marks (λ i. None) k wait) (sym e) this)
      | inr differ ↦
          let inside : j < n = omega (arith, differ) in
          let same : wait_of (waits ++ wait ∷ []) j ≡ wait_of waits j = ahead waits (wait ∷ []) j no_wait (omega (arith, inside, are.count)) in
          subst (λ (w : Wait). IsWait inst plan marks (λ i. None) j w) (sym same) (are.each j inside)
    ];
  }

  -- the first so many tasks were let go
  abbrev gone : List Bool → (task moment : ℕ) → List Wait → ℕ → Wait
  gone marks task moment old j = cond (mark marks task j) (let_go inst plan task moment j (wait_of old j)) (wait_of old j)

  pub record LetGoBelow (marks : List Bool) (task moment n : ℕ) (old new : List Wait) : Type 0 where
    pub count : length new ≡ length old
    pub below : (j : ℕ) → j < n → wait_of new j ≡ gone marks task moment old j
    pub above : (j : ℕ) → n ≤ j → wait_of new j ≡ wait_of old j

  pub go_over : (marks : List Bool) (task moment n : ℕ) (old new : List Wait) → LetGoBelow marks task moment n old new
      → mark marks task n ≡ false → LetGoBelow marks task moment (n + 1) old new
  go_over marks task moment n old new are unmarked = record {
    count = are.count;
    below = λ j low. elim (cases_eq j n) [
      | inl e ↦ are.above j (omega (arith, e)) ∙ sym (ap (λ (b : Bool). cond b (let_go inst plan task moment j (wait_of old j)) (wait_of old j)) (ap (mark marks task) e ∙ unmarked))
      | inr differ ↦ are.below j (omega (arith, differ))
    ];
    above = λ j high. are.above j (omega arith);
  }

  pub go_more : (marks : List Bool) (task moment n : ℕ) (old new : List Wait) (wait : Wait) → n < length old → LetGoBelow marks task moment n old new
      → mark marks task n ≡ true → wait ≡ let_go inst plan task moment n (wait_of new n) → LetGoBelow marks task moment (n + 1) old (slice_set new n wait)
  go_more marks task moment n old new wait inside are marked is = record {
    count = length-set new n wait ∙ are.count;
    below = λ j low. elim (cases_eq j n) [
      | inl e ↦
          get_or-set_at new n j wait no_wait e (omega (arith, inside, are.count)) ∙ is ∙ ap (let_go inst plan task moment n) (are.above n (omega arith))
          ∙ sym (ap (gone marks task moment old) e ∙ ap (λ (b : Bool). cond b (let_go inst plan task moment n (wait_of old n)) (wait_of old n)) marked)
      | inr differ ↦ get_or-set_other new n j wait no_wait differ ∙ are.below j (omega (arith, differ))
    ];
    above = λ j high. get_or-set_other new n j wait no_wait (λ e. absurd (omega (arith, e))) ∙ are.above j (omega arith);
  }

  -- what a task waits for once it is let go, as it was read and put together
  pub gone_is : (task moment j : ℕ) (items : List Wait) (read : Wait) (far due : ℕ) → j < length items → read ≡ slice_index_or items j read
      → far ≡ gap inst plan task j → due ≡ max read.due (moment + far)
      → record { leaders = read.leaders - 1; due = due } ≡ let_go inst plan task moment j (wait_of items j)
  gone_is task moment j items read far due inside is gap_is due_is =
      let put : ℕ → Wait = λ d. record { leaders = read.leaders - 1; due = d } in
      ap put (due_is ∙ ap (λ (x : ℕ). max read.due (moment + x)) gap_is)
      ∙ ap (let_go inst plan task moment j) (sym (get_or_default items j no_wait read inside ∙ sym is))
