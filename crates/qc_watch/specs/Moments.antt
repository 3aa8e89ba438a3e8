-- public: where a crane stands at each moment, by its reports.
--
-- The moment of m parts of a tick that is divided into d parts is m / d. A place there is told times d, as the
-- fraction `above / below`, since a crane that goes evenly from one report to the next stands anywhere between.
use Rattle.std.specs.Prelude.{◌≡◌, ℕ, ◌+◌, ◌-◌, ◌*◌, ◌<◌, ◌≤◌, pos, ◌+ℤ◌, ◌-ℤ◌, ◌*ℤ◌, List, length, slice_index_or, Any}
use Rattle.qc_watch.specs.declared.place.Place.{Place}
use Rattle.qc_watch.specs.declared.report.Report.{Report}

-- what stands for a report past the end of its list
abbrev pub no_report : Report
no_report = record { at = 0; place = pos 0 }

abbrev pub report : List Report → ℕ → Report
report list i = slice_index_or list i no_report

-- a crane is known at a moment where it has a report at or before it and one at or after it
abbrev pub IsKnown : List Report → ℕ → ℕ → Type 0
IsKnown list m d = Any (λ r. d * r.at ≤ m) list × Any (λ r. m ≤ d * r.at) list

-- the place of a report
abbrev pub at_report : Report → ℕ → Place
at_report r d = record { above = pos d *ℤ r.place; below = 1 }

-- the place on the straight line from one report to a later one
abbrev pub on_line : Report → Report → ℕ → ℕ → Place
on_line r s m d = record {
  above = (pos (d * (s.at - r.at)) *ℤ r.place) +ℤ ((s.place -ℤ r.place) *ℤ pos (m - d * r.at));
  below = s.at - r.at;
}

-- the place of a crane with these reports at a moment: at one of them, or between two that follow one another
pub data IsAt (list : List Report) (m d : ℕ) : Place → Type 0 where
  reported : (i : ℕ) → i < length list → m ≡ d * (report list i).at → IsAt list m d (at_report (report list i) d)
  between : (i : ℕ) → i + 1 < length list
      → d * (report list i).at < m → m < d * (report list (i + 1)).at
      → IsAt list m d (on_line (report list i) (report list (i + 1)) m d)
