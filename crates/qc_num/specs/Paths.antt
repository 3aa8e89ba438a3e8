-- public: paths, lists of tasks.
use Rattle.std.specs.Prelude.{ℕ, ◌≤◌}
use Rattle.smallvec.specs.SmallVec.{SmallVec}

-- so many tasks fit without growth, in all
abbrev pub HasRoom : ℕ → SmallVec ℕ → Type 0
HasRoom tasks path = tasks ≤ path.capacity
