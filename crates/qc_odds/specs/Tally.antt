-- public: what the ends of many runs say.
use Rattle.std.specs.Prelude.{ℕ, ◌-◌, ◌*◌, ◌/◌, ◌<◌, ◌≤◌, List, count_by, length, nat_le, slice_index}
use Rattle.std.specs.Int.{div_ceil}

-- how many of these ends come by a tick
abbrev pub ends_by : List ℕ → ℕ → ℕ
ends_by ends tick = count_by (λ end. nat_le end tick) ends

-- the first tick by which so many of these ends have come
pub record IsDoneBy (ends : List ℕ) (count tick : ℕ) : Type 0 where
  pub enough : count ≤ ends_by ends tick
  pub first : (sooner : ℕ) → sooner < tick → ends_by ends sooner < count

-- so many runs of all are this chance, in thousandths, rounded down
abbrev pub chance : (count runs : ℕ) → ℕ
chance count runs = 1000 * count / runs

-- so many runs of all are a share in hundredths, rounded up
abbrev pub share : (percent runs : ℕ) → ℕ
share percent runs = div_ceil (percent * runs) 100

-- of sorted ends the one at which so many hundredths of all have come, their number rounded up
abbrev pub done_at : List ℕ → (percent : ℕ) → ℕ
done_at ends percent = slice_index ends (share percent (length ends) - 1)

-- the ends of the runs that are over, and for how many there is room
pub record TallyView : Type 0 where
  pub ends : List ℕ
  pub room : ℕ
