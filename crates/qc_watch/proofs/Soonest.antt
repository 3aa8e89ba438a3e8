-- The first time at which any crane has a report that isn't passed.
use Rattle.std.proofs.Common.{◌≡◌, ℕ, ◌+◌, ◌<◌, ◌≤◌, min, List, [], length, Option, None, Some, sym, subst, ◌∙◌, inl, inr, get_or, arith, Any, MatchOption}
use Rattle.std.specs.Option.{option_map_or}
use Rattle.std.proofs.lemmas.Bool.{cases_lt}
use Rattle.std.proofs.lemmas.List.{get_or_default}
use Rattle.qc_watch.specs.declared.report.Report.{Report}
use Rattle.qc_watch.specs.Breach.{IsReportTime}
use Rattle.qc_watch.specs.Cursors.{AreCut, IsNextTime, IsOver}
use Rattle.qc_watch.specs.Moments.{no_report, report}
use Rattle.qc_watch.specs.Reports.{AreOfOne, AreReports, reports_of}
use Rattle.qc_watch.proofs.AtTick.{cut_at}
use Rattle.qc_watch.proofs.Safety.{time_of}
use Rattle.qc_watch.proofs.Standing.{not_earlier, report_there, some_report}

-- a report of a crane that has this time
pub record HasTime (lists : List (List Report)) (t : ℕ) : Type 0 where
  pub crane : ℕ
  pub range : crane < length lists
  pub number : ℕ
  pub inside : number < length (reports_of lists crane)
  pub is : (report (reports_of lists crane) number).at ≡ t

pub time_there : (lists : List (List Report)) (t : ℕ) → IsReportTime lists t → HasTime lists t
time_there lists t (k, list, low, e, h) =
    let same : reports_of lists k ≡ list = sym (get_or_default lists k list [] low) ∙ e in
    let here = report_there (reports_of lists k) (λ r. r.at ≡ t) (subst (λ (rs : List Report). Any (λ r. r.at ≡ t) rs) (sym same) h) in
    record { crane = k; range = low; number = here.number; inside = here.range; is = here.is }

pub one_list : (lists : List (List Report)) → AreReports lists → (k : ℕ) → k < length lists → AreOfOne (reports_of lists k)
one_list lists reports k low = reports.each k [] low

module _ (lists : List (List Report)) (next : List ℕ) where
  -- the next report of a crane
  abbrev next_at : ℕ → ℕ
  next_at k = (report (reports_of lists k) (get_or next k 0)).at

  abbrev HasNext : ℕ → Type 0
  HasNext k = get_or next k 0 < length (reports_of lists k)

  -- the first of the next reports of the cranes so far
  pub record IsFirstNext (cranes at : ℕ) : Type 0 where
    pub crane : ℕ
    pub range : crane < cranes
    pub has : HasNext crane
    pub is : at ≡ next_at crane
    pub first : (k : ℕ) → k < cranes → HasNext k → at ≤ next_at k

  abbrev pub IsSoonest : ℕ → Option ℕ → Type 0
  IsSoonest cranes None = (k : ℕ) → k < cranes → length (reports_of lists k) ≤ get_or next k 0
  IsSoonest cranes (Some at) = IsFirstNext cranes at

  pub soonest_same : (cranes : ℕ) (o : Option ℕ) → IsSoonest cranes o → length (reports_of lists cranes) ≤ get_or next cranes 0
      → IsSoonest (cranes + 1) o
  soonest_same cranes None is none = λ k low. elim (cases_lt k cranes) [
    | inl l ↦ is k l
    | inr l ↦ let e : cranes ≡ k = omega arith in subst (λ n. length (reports_of lists n) ≤ get_or next n 0) e none
  ]
  soonest_same cranes (Some at) is none = record {
    crane = is.crane;
    range = omega (arith, is.range);
    has = is.has;
    is = is.is;
    first = λ k low has. elim (cases_lt k cranes) [
      | inl l ↦ is.first k l has
      | inr l ↦ let e : cranes ≡ k = omega arith in absurd (let past = subst (λ n. length (reports_of lists n) ≤ get_or next n 0) e none in omega (arith, past, has))
    ];
  }

  pub soonest_more : (cranes at : ℕ) (o : Option ℕ) → IsSoonest cranes o → HasNext cranes
      → at ≡ option_map_or (λ other. min other (next_at cranes)) o (next_at cranes) → IsSoonest (cranes + 1) (Some at)
  soonest_more cranes at None is has e = record {
    crane = cranes;
    range = omega arith;
    has = has;
    is = e;
    first = λ k low there. elim (cases_lt k cranes) [
      | inl l ↦ absurd (omega (arith, is k l, there))
      | inr l ↦ let f : k ≡ cranes = omega arith in rw f (omega (arith, e))
    ];
  }
  soonest_more cranes at (Some one) is has e = elim (cases_lt one (next_at cranes)) [
    | inl l ↦ record {
      crane = is.crane;
      range = omega (arith, is.range);
      has = is.has;
      is = omega (arith, e, l, is.is);
      first = λ k low there. elim (cases_lt k cranes) [
        | inl m ↦ omega (arith, is.first k m there, e, l)
        | inr m ↦ let f : k ≡ cranes = omega arith in rw f (omega (arith, e, l))
      ];
    }
    | inr l ↦ record {
      crane = cranes;
      range = omega arith;
      has = has;
      is = omega (arith, e, l);
      first = λ k low there. elim (cases_lt k cranes) [
        | inl m ↦ omega (arith, is.first k m there, e, l)
        | inr m ↦ let f : k ≡ cranes = omega arith in rw f (omega (arith, e, l))
      ];
    }
  ]

  -- of all cranes
  module _ (reports : AreReports lists) (tick : ℕ) (cut : AreCut lists next tick) where
    all_passed : IsSoonest (length lists) None → IsOver lists tick
    all_passed none t time =
        let h = time_there lists t time in
        let past = none h.crane h.range in
        omega (arith, (cut h.crane h.range).passed h.number (omega (arith, h.inside)), h.is)

    next_time : (at : ℕ) → IsFirstNext (length lists) at → IsNextTime lists tick at
    next_time at is = record {
      is = time_of lists is.crane at is.range (some_report (reports_of lists is.crane) (λ r. r.at ≡ at) (get_or next is.crane 0) is.has (sym is.is));
      later = omega (arith, (cut is.crane is.range).left (get_or next is.crane 0) (omega arith) is.has, is.is);
      digits = omega (arith, ((one_list lists reports is.crane is.range).range (get_or next is.crane 0) no_report is.has).at, is.is);
      first = λ t time late.
          let h = time_there lists t time in
          elim (cases_lt h.number (get_or next h.crane 0)) [
            | inl l ↦ absurd (omega (arith, (cut h.crane h.range).passed h.number l, h.is, late))
            | inr l ↦ omega (arith, is.first h.crane h.range (omega (arith, h.inside)), not_earlier (reports_of lists h.crane) (one_list lists reports h.crane h.range).rising (get_or next h.crane 0) h.number l h.inside, h.is)
          ];
    }

    pub soonest_time : (o : Option ℕ) → IsSoonest (length lists) o → MatchOption o (IsOver lists tick) (IsNextTime lists tick)
    soonest_time None is = all_passed is
    soonest_time (Some at) is = next_time at is

    pub soonest_cut : (o : Option ℕ) → IsSoonest (length lists) o → MatchOption o (IsOver lists tick) (AreCut lists next)
    soonest_cut None is = all_passed is
    soonest_cut (Some at) is = λ k low.
        cut_at (reports_of lists k) (one_list lists reports k low) (get_or next k 0) tick (cut k low) at
        (next_time at is).later (λ has. is.first k low has)
