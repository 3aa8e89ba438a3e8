-- inner: starts and what raised them, as cells hold them: the start of each task, and behind these for each task the
-- one that raised it.
use Rattle.std.specs.Prelude.{◌≡◌, ℕ, ◌+◌, ◌-◌, ◌*◌, ◌^◌, ◌<◌, ◌≤◌, ◌==◌, if◌then◌else◌, List, length, Option, None, Some, slice_index, slice_set}
use Rattle.qc_model.specs.declared.decision.Decision.{Decision}
use Rattle.qc_model.specs.Instance.{InstanceView}
use Rattle.qc_model.specs.Nodes.{Meets, forced, head}

abbrev pub start_at : List ℕ → ℕ → ℕ
start_at cells j = slice_index cells j

-- 0 stands for none, and i + 1 for task i
abbrev pub code_of : Option ℕ → ℕ
code_of None = 0
code_of (Some i) = i + 1

abbrev pub raiser_of : ℕ → Option ℕ
raiser_of code = if code == 0 then None else Some (code - 1)

-- the task that raised task j of so many
abbrev pub raiser_at : ℕ → List ℕ → ℕ → Option ℕ
raiser_at count cells j = raiser_of (slice_index cells (count + j))

-- the cells with a start and its reason written
abbrev pub raised : ℕ → List ℕ → ℕ → ℕ → Option ℕ → List ℕ
raised count cells j start why = slice_set (slice_set cells j start) (count + j) (code_of why)

-- why a task starts when it does: by its head, or by the task that raised it, which may have been raised since
abbrev pub IsReason : InstanceView → List Decision → List ℕ → ℕ → Option ℕ → Type 0
IsReason inst ds cells j None = start_at cells j ≤ head inst ds j
IsReason inst ds cells j (Some i) =
    (i < length inst.tasks) × (len : ℕ) × (forced inst ds i j ≡ Some len) × (start_at cells j ≤ start_at cells i + len)

-- the starts are at most those of all starts that meet the node
abbrev pub AreAtMost : InstanceView → List Decision → List ℕ → Type 0
AreAtMost inst ds cells =
    (others : List ℕ) → Meets inst ds others → (j : ℕ) → j < length inst.tasks
    → start_at cells j ≤ slice_index others j

-- the cells hold the least starts of the node, each with its reason
pub record AreRest (inst : InstanceView) (ds : List Decision) (cells : List ℕ) : Type 0 where
  pub count : length cells ≡ 2 * length inst.tasks
  pub heads : (j : ℕ) → j < length inst.tasks → head inst ds j ≤ start_at cells j
  pub steps :
      (i j len : ℕ) → i < length inst.tasks → j < length inst.tasks → forced inst ds i j ≡ Some len
      → start_at cells i + len ≤ start_at cells j
  pub reasons : (j : ℕ) → j < length inst.tasks → IsReason inst ds cells j (raiser_at (length inst.tasks) cells j)
  pub least : AreAtMost inst ds cells
  pub low : (j : ℕ) → j < length inst.tasks → head inst ds j ≤ 2 ^ 31
