-- inner: the task that ends last, and the way to it.
use Rattle.std.specs.Prelude.{◌≡◌, ℕ, ◌+◌, ◌<◌, ◌≤◌, List, length, take, Option, None, Some}
use Rattle.qc_model.specs.Instance.{InstanceView, ticks_of}
use Rattle.qc_starts.specs.declared.latest.Last.{Last}
use Rattle.qc_starts.specs.Values.{raiser_at, start_at}
use Rattle.qc_starts.specs.Ways.{Why}

-- the starts that are kept, in the order of the tasks
abbrev pub starts_in : InstanceView → List ℕ → List ℕ
starts_in inst cells = take (length inst.tasks) cells

-- the tasks, with their starts and reasons
abbrev pub why_in : ℕ → List ℕ → Why
why_in count cells = record { count = count; start = start_at cells; of = raiser_at count cells }

-- when a task ends by its start
abbrev pub end_in : InstanceView → List ℕ → ℕ → ℕ
end_in inst cells j = start_at cells j + ticks_of inst j

-- of the first tasks none ends later than this one
abbrev pub IsLatest : InstanceView → List ℕ → ℕ → Option ℕ → Type 0
IsLatest inst cells count None = count ≡ 0
IsLatest inst cells count (Some j) =
    (j < count) × ((k : ℕ) → k < count → end_in inst cells k ≤ end_in inst cells j)

-- when that task ends, and 0 where there is none
abbrev pub end_by : InstanceView → List ℕ → Option ℕ → ℕ
end_by inst cells None = 0
end_by inst cells (Some j) = end_in inst cells j

-- of the first tasks one that ends last, and when
pub record IsLast (inst : InstanceView) (cells : List ℕ) (count : ℕ) (last : Last) : Type 0 where
  pub latest : IsLatest inst cells count last.task
  pub end : last.end ≡ end_by inst cells last.task
