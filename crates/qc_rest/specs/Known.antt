-- inner: what is known of a log that was followed, and the latest task of a crane so far.
use Rattle.std.specs.Prelude.{◌≡◌, ℕ, ◌<◌, ◌≤◌, List, length, Option, None, Some, slice_index_or}
use Rattle.qc_dispatch.specs.declared.follow.Followed.{Followed}
use Rattle.qc_dispatch.specs.declared.follow.Remaining.{Remaining}
use Rattle.qc_dispatch.specs.Course.{Course, past_moments}
use Rattle.qc_dispatch.specs.Following.{journal_of, most_passed}
use Rattle.qc_dispatch.specs.Journal.{Journal}
use Rattle.qc_dispatch.specs.Promises.{Keeps}
use Rattle.qc_model.specs.Instance.{Valid}
use Rattle.qc_model.specs.Numbers.{most_tasks}
use Rattle.qc_model.specs.Rules.{Feasible, crane_of}
use Rattle.qc_rest.specs.Progress.{HasBegun}

-- no number of ticks that was told is long
abbrev pub AreShort : List (Option Remaining) → Type 0
AreShort told = (i : ℕ) (r : Remaining) → slice_index_or told i None ≡ Some r → r.ticks ≤ most_passed

-- a log was followed
pub record IsKnown (j : Journal) : Type 0 where
  pub valid : Valid j.course.inst
  pub feasible : Feasible j.course.inst j.course.plan
  pub keeps : Keeps j.course
  pub early : j.course.clock < past_moments
  pub room : length j.remaining ≡ most_tasks
  pub short : AreShort j.remaining

abbrev pub AreKnown : Followed → Type 0
AreKnown f = IsKnown (journal_of f)

-- crane k has begun task i
pub record IsMine (c : Course) (k i : ℕ) : Type 0 where
  pub begun : HasBegun c i
  pub by : crane_of c.plan i ≡ k

-- of the first n tasks crane k did this one last, or has begun none
pub record IsLatestOf (c : Course) (over : ℕ → ℕ) (k n i : ℕ) : Type 0 where
  pub inside : i < n
  pub mine : IsMine c k i
  pub latest : (j : ℕ) → j < n → IsMine c k j → over j ≤ over i

abbrev pub IsLatest : Course → (ℕ → ℕ) → (k n : ℕ) → Option ℕ → Type 0
IsLatest c over k n None = (j : ℕ) → j < n → ¬ IsMine c k j
IsLatest c over k n (Some i) = IsLatestOf c over k n i
