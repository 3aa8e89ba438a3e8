-- public: ready times and start bays that may be written.
use Rattle.std.specs.Prelude.{ℕ, ◌+◌, ◌≤◌, ℤ, pos, negsuc}
use Rattle.qc_model.specs.Instance.{IsFrom}
use Rattle.qc_model.specs.Numbers.{most_ready}
use Rattle.qc_rest.specs.Places.{Outlook}
use Rattle.qc_rest.specs.Stands.{stand_of}

-- a start bay that may be written where places are given in decimetres; where they aren't, it is never out of these
abbrev pub IsBerth : ℤ → Type 0
IsBerth x = IsFrom (negsuc 9999) (pos 16000) x

-- crane k need not wait longer than a crane may
abbrev pub IsReadySoon : Outlook → ℕ → Type 0
IsReadySoon o k = (stand_of o.stands k).until ≤ o.course.clock + most_ready

-- it has a ready time and a start bay that may be written
pub record IsFit (o : Outlook) (places : ℕ → ℤ) (k : ℕ) : Type 0 where
  pub ready : IsReadySoon o k
  pub berth : IsBerth (places k)
