-- inner: the first crane that isn't fit.
use Rattle.std.specs.Prelude.{◌≡◌, ℕ, ◌+◌, ◌<◌, ◌≤◌, ◌⊎◌, ℤ, Option, None, Some}
use Rattle.qc_model.specs.Numbers.{most_ready}
use Rattle.qc_rest.specs.declared.rest.RestError.{RestError}
use Rattle.qc_rest.specs.declared.rest.RestError.TheVariants as error
use Rattle.qc_rest.specs.Fit.{IsBerth, IsFit}
use Rattle.qc_rest.specs.Places.{Outlook}
use Rattle.qc_rest.specs.Whole.{IsUnfit}

-- what is wrong with crane k at this place
abbrev pub IsUnfitAt : (now until : ℕ) → ℤ → ℕ → Option RestError → Type 0
IsUnfitAt now until place k None = (until ≤ now + most_ready) × IsBerth place
IsUnfitAt now until place k (Some why) =
    ((why ≡ error.Ready k) × ¬ (until ≤ now + most_ready))
    ⊎ ((why ≡ error.Bay k) × ((until ≤ now + most_ready) × ¬ IsBerth place))

-- the first n cranes are fit, or the lowest that isn't has this
abbrev pub AreUnfit : Outlook → (ℕ → ℤ) → ℕ → Option RestError → Type 0
AreUnfit o places n None = (k : ℕ) → k < n → IsFit o places k
AreUnfit o places n (Some why) = IsUnfit o places why
