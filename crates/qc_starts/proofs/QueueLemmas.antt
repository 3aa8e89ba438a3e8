-- The list of the tasks that are still to be looked at: one more, one less, none.
use Rattle.std.proofs.Common.{◌≡◌, ◌≢◌, ℕ, ◌+◌, ◌-◌, ◌<◌, inl, inr, refl, Bool, true, false, eqb, List, [], ◌∷◌, ◌++◌, length, length-append, sym, ap, ◌∙◌, arith, get_or, slice_index_or, slice_set, swap_remove}
use Rattle.std.proofs.lemmas.Bool.{cases_Bool, cases_eq, cases_lt, eq-eqb, eqb-true, false_from_ne_true, false≢true}
use Rattle.std.proofs.lemmas.List.{get_or-set_other, get_or-set_same, get_or_default, length-take}
use Rattle.std.proofs.lemmas.List.Sums.{sum_by-swap_remove, sum_by_push}
use Rattle.std.proofs.Math.ListN.{get_or-eq_default, length-set}
use Rattle.qc_starts.specs.Queue.{AreListed, times}
use Rattle.qc_starts.specs.Spread.{is_pending, one_of}
use Rattle.qc_starts.proofs.NotingLemmas.{all_clear, marks_less, marks_more, marks_none}

itself : (t j : ℕ) → j ≡ t → one_of (eqb t j) ≡ 1
itself t j same = ap one_of (eq-eqb t j (sym same))

another : (t j : ℕ) → j ≢ t → one_of (eqb t j) ≡ 0
another t j other = ap one_of (false_from_ne_true (eqb t j) (λ e. other (sym (eqb-true t j e))))

-- none is listed where all marks are cleared
pub listed_none : (p : List Bool) → ((k : ℕ) → k < length p → slice_index_or p k true ≡ false) → AreListed p []
listed_none p clear = record {
  each = λ j. omega (arith, ap one_of (all_clear p clear j));
  count = omega (arith, marks_none p clear);
}

module _ (p : List Bool) (q : List ℕ) (is : AreListed p q) where
  -- no task is to be looked at where none is listed
  pub none_listed : q ≡ [] → (j : ℕ) → is_pending p j ≡ false
  none_listed empty j = elim (cases_Bool (is_pending p j)) [
    | inl on ↦ absurd (omega (arith, is.each j, ap (times j) empty, ap one_of on))
    | inr off ↦ off
  ]

  -- one task more
  pub listed_more : (t : ℕ) → t < length p → is_pending p t ≡ false → AreListed (slice_set p t true) (q ++ t ∷ [])
  listed_more t low free = record {
    each = λ j.
        let more = sum_by_push (λ x. one_of (eqb x j)) q t in
        elim (cases_eq j t) [
          | inl same ↦
              let now = ap (is_pending (slice_set p t true)) same ∙ get_or-set_same p t true false low in
              let before = ap (is_pending p) same ∙ free in
              omega (arith, more, is.each j, itself t j same, ap one_of now, ap one_of before)
          | inr other ↦
              let kept = get_or-set_other p t j true false other in
              omega (arith, more, is.each j, another t j other, ap one_of kept)
        ];
    count = omega (
      arith,
      length-append q (t ∷ []),
      is.count,
      marks_more p t low (get_or_default p t true false low ∙ free),
    );
  }

  module _ (k t : ℕ) (inside : k < length q) (at : t ≡ get_or q k t) where
    rest : (j : ℕ) → times j (swap_remove q k t) + one_of (eqb (get_or q k t) j) ≡ times j q
    rest j = sum_by-swap_remove (λ x. one_of (eqb x j)) q k t inside

    same_at : (j : ℕ) → one_of (eqb (get_or q k t) j) ≡ one_of (eqb t j)
    same_at j = ap (λ (x : ℕ). one_of (eqb x j)) (sym at)

    pub pending_at : is_pending p t ≡ true
    pending_at = elim (cases_Bool (is_pending p t)) [
      | inl on ↦ on
      | inr off ↦ absurd (omega (arith, rest t, same_at t, itself t t refl, is.each t, ap one_of off))
    ]

    pub low_at : t < length p
    low_at = elim (cases_lt t (length p)) [
      | inl low ↦ low
      | inr past ↦ absurd (false≢true (sym (get_or-eq_default p false past) ∙ pending_at))
    ]

    -- one task less
    pub listed_less : AreListed (slice_set p t false) (swap_remove q k t)
    listed_less = record {
      each = λ j. elim (cases_eq j t) [
        | inl same ↦
            let now = ap (is_pending (slice_set p t false)) same ∙ get_or-set_same p t false false low_at in
            let before = ap (is_pending p) same ∙ pending_at in
            omega (arith, rest j, same_at j, itself t j same, is.each j, ap one_of now, ap one_of before)
        | inr other ↦
            let kept = get_or-set_other p t j false false other in
            omega (arith, rest j, same_at j, another t j other, is.each j, ap one_of kept)
      ];
      count = omega (
        arith,
        length-take (length q - 1) (slice_set q k (slice_index_or q (length q - 1) t)),
        length-set q k (slice_index_or q (length q - 1) t),
        inside,
        is.count,
        marks_less p t low_at pending_at,
      );
    }
