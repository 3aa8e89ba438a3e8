-- Where a crane stands at a tick, by how many of its reports are before it.
use Rattle.std.proofs.Common.{◌≡◌, ◌≢◌, ℕ, ◌+◌, ◌-◌, ◌*◌, ◌<◌, ◌≤◌, List, length, sym, subst, arith}
use Rattle.qc_watch.specs.declared.report.Report.{Report}
use Rattle.qc_watch.specs.Cursors.{IsCut}
use Rattle.qc_watch.specs.Moments.{IsAt, IsKnown, at_report, between, on_line, report, reported}
use Rattle.qc_watch.specs.Reports.{AreOfOne}
use Rattle.qc_watch.proofs.Standing.{not_earlier, report_there}

module _ (list : List Report) (one : AreOfOne list) (next tick : ℕ) (cut : IsCut list next tick) where
  -- behind the last report
  pub none_after : next ≡ length list → ¬ IsKnown list tick 1
  none_after e known =
      let last = report_there list (λ r. tick ≤ 1 * r.at) known.1 in
      omega (arith, last.is, cut.passed last.number (omega (arith, last.range)))

  -- ahead of the first
  pub none_before : next ≡ 0 → 0 < length list → (report list next).at ≢ tick → ¬ IsKnown list tick 1
  none_before e some other known =
      let first = report_there list (λ r. 1 * r.at ≤ tick) known.0 in
      let late = cut.left next (omega arith) (omega arith) in
      let after = not_earlier list one.rising next first.number (omega arith) first.range in
      other (omega (arith, late, after, first.is))

  pub at_next : next < length list → (report list next).at ≡ tick → IsAt list tick 1 (at_report (report list next) 1)
  at_next low e = reported next low (omega (arith, e))

  pub before_next : next < length list → next ≢ 0 → (report list next).at ≢ tick
      → IsAt list tick 1 (on_line (report list (next - 1)) (report list next) tick 1)
  before_next low some other =
      let e : (next - 1) + 1 ≡ next = omega arith in
      let early = cut.passed (next - 1) (omega arith) in
      let late = cut.left next (omega arith) low in
      subst (λ n. IsAt list tick 1 (on_line (report list (next - 1)) (report list n) tick 1)) e
      (between (next - 1) (omega arith) (omega (arith, early))
      (subst (λ n. tick < 1 * (report list n).at) (sym e) (omega (arith, late, other))))

  -- and the times of the two reports around it
  pub is_behind : next ≢ 0 → (report list (next - 1)).at < tick
  is_behind some = cut.passed (next - 1) (omega arith)

  pub is_ahead : next < length list → (report list next).at ≢ tick → tick < (report list next).at
  is_ahead low other = let late = cut.left next (omega arith) low in omega (arith, late, other)

  -- the reports before a later tick up to which there is none
  pub cut_at : (at : ℕ) → tick ≤ at → (next < length list → at ≤ (report list next).at) → IsCut list next at
  cut_at at later first = record {
    inside = cut.inside;
    passed = λ i before. omega (arith, cut.passed i before);
    left = λ i high inside. omega (arith, first (omega arith), not_earlier list one.rising next i high inside);
  }
