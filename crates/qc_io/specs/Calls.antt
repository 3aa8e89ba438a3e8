-- public: what contracts see of the calls on a store in memory.
use Rattle.std.specs.Prelude.{ℕ, List, Contains}
use Rattle.qc_io.specs.Outside.{next_count}

-- how many calls were made, and the numbers of those that are set to fail, from 1
pub record Counted : Type 0 where
  pub count : ℕ
  pub failing : List ℕ

-- one more call was made
abbrev pub counted : Counted → Counted
counted calls = record calls { count = next_count calls.count }

-- the next call is set to fail
abbrev pub NextFails : Counted → Type 0
NextFails calls = Contains calls.failing (next_count calls.count)
