-- public: how late starts are at the latest.
use Rattle.std.specs.Prelude.{ℕ, ◌+◌, ◌*◌, ◌≤◌, List, slice_index}
use Rattle.qc_model.specs.Numbers.{most_distance, most_ready, most_tasks}
use Rattle.qc_odds.specs.Lengths.{most_length}

-- no start is later than this
abbrev pub AreEarly : List ℕ → ℕ → Type 0
AreEarly starts moment = (j : ℕ) → slice_index starts j ≤ moment

-- by when so many tasks have started: the cranes are there, and behind each task there is the greatest gap
abbrev pub moment_by : ℕ → ℕ
moment_by tasks = most_ready + most_distance + tasks * (most_length + most_distance)

abbrev pub most_moment : ℕ
most_moment = moment_by most_tasks

-- no start is later than all tasks can be, one after the other
pub record AreSoon (starts : List ℕ) : Type 0 where
  pub each_one : AreEarly starts most_moment

-- no task ends later than this
abbrev pub most_end : ℕ
most_end = most_moment + most_length

-- no crane waits longer at its tasks in a run
abbrev pub most_held : ℕ
most_held = most_tasks * most_moment
