-- A crane has one place at each moment at which it is known, and goes evenly between the reports around it.
use Rattle.std.proofs.Common.{◌≡◌, ℕ, zero, suc, ◌+◌, ◌-◌, ◌*◌, ◌<◌, ◌≤◌, ℤ, pos, ◌+ℤ◌, ◌-ℤ◌, ◌*ℤ◌, List, length, refl, sym, ap, ap₂, subst, ◌∙◌, inl, inr, mul-le-mul_left, arith, Any, AllPairs}
use Rattle.std.proofs.lemmas.Bool.{cases_lt, cases_order}
use Rattle.std.proofs.lemmas.Int.{ints}
use Rattle.std.proofs.lemmas.List.{get_or_default}
use Rattle.qc_model.proofs.Scaled.{scaled_sum}
use Rattle.qc_watch.specs.declared.place.Place.{Place}
use Rattle.qc_watch.specs.declared.report.Report.{Report}
use Rattle.qc_watch.specs.Moments.{IsAt, IsKnown, between, reported, at_report, no_report, on_line, report}
use Rattle.qc_watch.proofs.Even.{IsTimes, Line, along}

less : (d a b : ℕ) → d * a < d * b → a < b
less d a b h = elim (cases_lt a b) [
  | inl l ↦ l
  | inr l ↦ absurd (let g = mul-le-mul_left d l in omega arith)
]

same : (d a b : ℕ) → 1 ≤ d → d * a ≡ d * b → a ≡ b
same d a b some e = elim (cases_order a b) [
  | inl s ↦ s
  | inr o ↦ elim o [
    | inl l ↦ let next : a + 1 ≤ b = omega arith in absurd (let g = mul-le-mul_left d next in omega arith)
    | inr l ↦ let next : b + 1 ≤ a = omega arith in absurd (let g = mul-le-mul_left d next in omega arith)
  ]
]

pub at_most : (d a b : ℕ) → 1 ≤ d → d * a ≤ d * b → a ≤ b
at_most d a b some h = elim (cases_lt b a) [
  | inl l ↦ let next : b + 1 ≤ a = omega arith in absurd (let g = mul-le-mul_left d next in omega arith)
  | inr l ↦ l
]

-- a report that is there
pub some_report : (list : List Report) (P : Report → Type 0) (i : ℕ) → i < length list → P (report list i) → Any P list
some_report list P i low h = (i, report list i, low, get_or_default list i (report list i) no_report low, h)

-- the place of a report of such a list, by its number
pub record HasReport (list : List Report) (P : Report → Type 0) : Type 0 where
  pub number : ℕ
  pub range : number < length list
  pub is : P (report list number)

pub report_there : (list : List Report) (P : Report → Type 0) → Any P list → HasReport list P
report_there list P (k, r, low, e, h) = record {
  number = k;
  range = low;
  is = subst P (sym e ∙ get_or_default list k r no_report low) h;
}

same_place : (p q : Place) → p.above ≡ q.above → p.below ≡ q.below → p ≡ q
same_place p q e f = ap₂ (λ (a : ℤ) (b : ℕ). record { above = a; below = b }) e f

-- the line from one report to the next, at both of them
once : (x : ℤ) → (pos 1 *ℤ x) ≡ x
once x = omega (arith, ints)

at_start : (w a t : ℕ) (x s : ℤ) → t ≡ a → ((pos (1 * w) *ℤ x) +ℤ (s *ℤ pos (t - 1 * a))) ≡ (pos w *ℤ (pos 1 *ℤ x))
at_start w a t x s e =
    let none : t - 1 * a ≡ 0 = omega arith in
    rw (none, once x) (omega (arith, ints))

at_end : (w a t : ℕ) (x y : ℤ) → t - 1 * a ≡ w → ((pos (1 * w) *ℤ x) +ℤ ((y -ℤ x) *ℤ pos (t - 1 * a))) ≡ (pos w *ℤ (pos 1 *ℤ y))
at_end w a t x y e =
    let parts = scaled_sum w y x (y -ℤ x) (omega (arith, ints)) in
    rw (e, once y) (omega (arith, ints, parts))

module _ (list : List Report) (rising : AllPairs (λ (earlier later : Report). earlier.at < later.at) list) where
  abbrev at : ℕ → ℕ
  at i = (report list i).at

  pub later : (i j : ℕ) → i < j → j < length list → at i < at j
  later i j h k = rising i j no_report h k

  pub not_earlier : (i j : ℕ) → i ≤ j → j < length list → at i ≤ at j
  not_earlier i j h k = elim (cases_order i j) [
    | inl e ↦ rw e (omega arith)
    | inr o ↦ elim o [
      | inl l ↦ omega (arith, later i j l k)
      | inr l ↦ absurd (omega arith)
    ]
  ]

  earlier : (i j : ℕ) → i < length list → at i < at j → i < j
  earlier i j k h = elim (cases_lt i j) [
    | inl l ↦ l
    | inr l ↦ absurd (omega (arith, h, not_earlier j i l k))
  ]

  same_number : (i j : ℕ) → i < length list → j < length list → at i ≡ at j → i ≡ j
  same_number i j h k e = elim (cases_order i j) [
    | inl s ↦ s
    | inr o ↦ elim o [
      | inl l ↦ absurd (omega (arith, e, later i j l k))
      | inr l ↦ absurd (omega (arith, e, later j i l h))
    ]
  ]

  -- a report isn't between two that follow one another
  none_between : (i j : ℕ) → i < length list → j + 1 < length list → at j < at i → at i < at (j + 1) → ⊥
  none_between i j h k low high =
      omega (arith, earlier j i (omega arith) low, earlier i (j + 1) h high)

  -- a crane has one place at a moment
  pub one_place : (m d : ℕ) (p q : Place) → 1 ≤ d → IsAt list m d p → IsAt list m d q → p ≡ q
  one_place m d p q some (reported i h e) (reported j k f) =
      ap (λ n. at_report (report list n) d) (same_number i j h k (same d (at i) (at j) some (sym e ∙ f)))
  one_place m d p q some (reported i h e) (between j k low high) =
      absurd (none_between i j h k (less d (at j) (at i) (omega (arith, e, low))) (less d (at i) (at (j + 1)) (omega (arith, e, high))))
  one_place m d p q some (between i h low high) (reported j k e) =
      absurd (none_between j i k h (less d (at i) (at j) (omega (arith, e, low))) (less d (at j) (at (i + 1)) (omega (arith, e, high))))
  one_place m d p q some (between i h low high) (between j k from to) =
      let first = earlier i (j + 1) (omega arith) (less d (at i) (at (j + 1)) (omega (arith, low, to))) in
      let second = earlier j (i + 1) (omega arith) (less d (at j) (at (i + 1)) (omega (arith, from, high))) in
      let e : i ≡ j = omega (arith, first, second) in
      ap (λ n. on_line (report list n) (report list (n + 1)) m d) e

  -- a crane that is known has a place: at the last report that isn't after the moment, or between it and the next
  walk : (left i last m d : ℕ) → i + left ≡ length list → i < length list → last < length list
      → d * at i ≤ m → m ≤ d * at last → (p : Place) × IsAt list m d p
  walk zero i last m d e low l from to = absurd (omega arith)
  walk (suc left) i last m d e low l from to = elim (cases_lt (d * at i) m) [
    | inr here ↦ (at_report (report list i) d, reported i low (omega arith))
    | inl more ↦ elim (cases_lt (i + 1) (length list)) [
      | inr end ↦ absurd (let g = mul-le-mul_left d (not_earlier last i (omega arith) low) in omega (arith, g, more, to))
      | inl next ↦ elim (cases_lt m (d * at (i + 1))) [
        | inl here ↦ (on_line (report list i) (report list (i + 1)) m d, between i next more here)
        | inr past ↦ walk left (i + 1) last m d (omega (arith, e)) next l past to
      ]
    ]
  ]

  pub place_there : (m d : ℕ) → IsKnown list m d → (p : Place) × IsAt list m d p
  place_there m d known =
      let first = report_there list (λ r. d * r.at ≤ m) known.0 in
      let last = report_there list (λ r. m ≤ d * r.at) known.1 in
      walk (length list - first.number) first.number last.number m d (omega (arith, first.range)) first.range last.range first.is last.is

  -- ---- the way around a moment

  -- between two reports, or at one, a crane goes evenly: where it is at each tick there is where that has it
  pub record IsWay (m d : ℕ) (p : Place) : Type 0 where
    pub line : Line
    pub from : ℕ
    pub till : ℕ
    pub is : p ≡ along line m d
    pub begun : d * from ≤ m
    pub ended : m ≤ d * till
    pub starts : line.start ≤ from
    pub from_is : Any (λ r. r.at ≡ from) list
    pub till_is : Any (λ r. r.at ≡ till) list
    pub known : (t : ℕ) → from ≤ t → t ≤ till → IsKnown list t 1
    pub there : (t : ℕ) (q : Place) → from ≤ t → t ≤ till → IsAt list t 1 q → IsTimes q (along line t 1)

  abbrev rest : ℕ → Line
  rest i = record { start = at i; width = 1; place = (report list i).place; slope = pos 0 }

  abbrev leg : ℕ → Line
  leg i = record {
    start = at i;
    width = at (i + 1) - at i;
    place = (report list i).place;
    slope = (report list (i + 1)).place -ℤ (report list i).place;
  }

  -- at a report
  way_at : (i m d : ℕ) → i < length list → m ≡ d * at i → IsWay m d (at_report (report list i) d)
  way_at i m d h e = record {
    line = rest i;
    from = at i;
    till = at i;
    is = same_place (at_report (report list i) d) (along (rest i) m d) (omega (arith, ints)) refl;
    begun = omega (arith, e);
    ended = omega (arith, e);
    starts = omega arith;
    from_is = some_report list (λ r. r.at ≡ at i) i h refl;
    till_is = some_report list (λ r. r.at ≡ at i) i h refl;
    known = λ t low high. (some_report list (λ r. 1 * r.at ≤ t) i h (omega arith), some_report list (λ r. t ≤ 1 * r.at) i h (omega arith));
    there = λ t q low high stands.
        let one = one_place t 1 q (at_report (report list i) 1) (omega arith) stands (reported i h (omega arith)) in
        subst (λ (p : Place). IsTimes p (along (rest i) t 1)) (sym one) (record {
          times = 1;
          above = omega (arith, ints);
          below = refl;
        });
  }

  -- between two reports
  way_between : (i m d : ℕ) → i + 1 < length list → d * at i < m → m < d * at (i + 1)
      → IsWay m d (on_line (report list i) (report list (i + 1)) m d)
  way_between i m d h low high = record {
    line = leg i;
    from = at i;
    till = at (i + 1);
    is = refl;
    begun = omega (arith, low);
    ended = omega (arith, high);
    starts = omega arith;
    from_is = some_report list (λ r. r.at ≡ at i) i (omega arith) refl;
    till_is = some_report list (λ r. r.at ≡ at (i + 1)) (i + 1) h refl;
    known = λ t from till. (some_report list (λ r. 1 * r.at ≤ t) i (omega arith) (omega arith), some_report list (λ r. t ≤ 1 * r.at) (i + 1) h (omega arith));
    there = λ t q from till stands. elim (cases_order (at i) t) [
      | inl e ↦
          let one = one_place t 1 q (at_report (report list i) 1) (omega arith) stands (reported i (omega arith) (omega arith)) in
          subst (λ (p : Place). IsTimes p (along (leg i) t 1)) (sym one) (record {
            times = (leg i).width;
            above = at_start (leg i).width (at i) t (leg i).place (leg i).slope (sym e);
            below = omega arith;
          })
      | inr o ↦ elim o [
        | inr before ↦ absurd (omega arith)
        | inl after ↦ elim (cases_lt t (at (i + 1))) [
          | inl before ↦
              let one = one_place t 1 q (on_line (report list i) (report list (i + 1)) t 1) (omega arith) stands (between i h (omega arith) (omega arith)) in
              subst (λ (p : Place). IsTimes p (along (leg i) t 1)) (sym one) (record {
                times = 1;
                above = omega (arith, ints);
                below = omega arith;
              })
          | inr end ↦
              let one = one_place t 1 q (at_report (report list (i + 1)) 1) (omega arith) stands (reported (i + 1) h (omega arith)) in
              subst (λ (p : Place). IsTimes p (along (leg i) t 1)) (sym one) (record {
                times = (leg i).width;
                above = at_end (leg i).width (at i) t (leg i).place (report list (i + 1)).place (omega arith);
                below = omega arith;
              })
        ]
      ]
    ];
  }

  pub way_of : (m d : ℕ) (p : Place) → IsAt list m d p → IsWay m d p
  way_of m d p (reported i h e) = way_at i m d h e
  way_of m d p (between i h low high) = way_between i m d h low high
