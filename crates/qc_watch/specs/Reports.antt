-- public: the reports of cranes, and what they keep.
use Rattle.std.specs.Prelude.{ℕ, ◌<◌, ◌≤◌, pos, negsuc, ◌≤ℤ◌, List, [], length, slice_index_or, sum_by, All, AllPairs}
use Rattle.qc_model.specs.Numbers.{most_cranes}
use Rattle.qc_watch.specs.declared.report.Report.{Report}
use Rattle.qc_watch.specs.Numbers.{most_lines, past_times}

-- the reports of one crane; none past the last crane
abbrev pub reports_of : List (List Report) → ℕ → List Report
reports_of lists crane = slice_index_or lists crane []

-- a report of six digits and twelve
pub record IsInRange (report : Report) : Type 0 where
  pub at : report.at < past_times
  pub place : (negsuc 999998 ≤ℤ report.place) × (report.place ≤ℤ pos 999999)

-- reports of one crane: their times rise
pub record AreOfOne (list : List Report) : Type 0 where
  pub rising : AllPairs (λ earlier later. earlier.at < later.at) list
  pub range : All IsInRange list

-- how many reports there are of all cranes together
abbrev pub count_of : List (List Report) → ℕ
count_of lists = sum_by length lists

-- what reports keep: a list for each of at most eight cranes
pub record AreReports (lists : List (List Report)) : Type 0 where
  pub cranes : length lists ≤ most_cranes
  pub count : count_of lists ≤ most_lines
  pub each : All AreOfOne lists
