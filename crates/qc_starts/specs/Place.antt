-- inner: starts before any decision, placed one after another.
use Rattle.std.specs.Prelude.{◌≡◌, ℕ, ◌+◌, ◌*◌, ◌^◌, ◌<◌, ◌≤◌, ◌⊎◌, Bool, true, false, List, length, Option, None, Some, slice_index}
use Rattle.qc_arena.specs.declared.edge.Edge.{Edge}
use Rattle.qc_model.specs.Nodes.{Meets, forced, head}
use Rattle.qc_starts.specs.NodeArcs.{NodeArcs}
use Rattle.qc_starts.specs.Noting.{marks}
use Rattle.qc_starts.specs.Spread.{IsIn, is_pending}
use Rattle.qc_starts.specs.Values.{IsReason, raiser_at, start_at}

-- whether all arcs into a task come from tasks that are placed
abbrev pub IsReady : NodeArcs → List Bool → ℕ → Bool → Type 0
IsReady net pending j true =
    (arc : Edge) → IsIn net.arcs arc → arc.to ≡ j → is_pending pending arc.from ≡ false
IsReady net pending j false =
    (arc : Edge) × IsIn net.arcs arc × (arc.to ≡ j) × (is_pending pending arc.from ≡ true)

-- of the first tasks one that is ready to be placed, if there is any
abbrev pub IsReadyPick : NodeArcs → List Bool → ℕ → Option ℕ → Type 0
IsReadyPick net pending count None =
    (j : ℕ) → j < count → is_pending pending j ≡ true → IsReady net pending j false
IsReadyPick net pending count (Some j) =
    (j < length net.inst.tasks) × (is_pending pending j ≡ true) × IsReady net pending j true

-- the start of a placed task
pub record IsPlace (net : NodeArcs) (cells : List ℕ) (pending : List Bool) (j : ℕ) : Type 0 where
  pub above : head net.inst net.decisions j ≤ start_at cells j
  pub low : head net.inst net.decisions j ≤ 2 ^ 31
  pub reason : IsReason net.inst net.decisions cells j (raiser_at (length net.inst.tasks) cells j)
  pub least : (others : List ℕ) → Meets net.inst net.decisions others → start_at cells j ≤ slice_index others j
  pub steps :
      (i len : ℕ) → i < length net.inst.tasks → forced net.inst net.decisions i j ≡ Some len
      → (is_pending pending i ≡ false) × (start_at cells i + len ≤ start_at cells j)
  pub bound : start_at cells j + 2 ^ 31 * marks pending ≤ 2 ^ 31 * (length net.inst.tasks + 1)

-- the tasks that aren't pending are placed
pub record ArePlaced (net : NodeArcs) (cells : List ℕ) (pending : List Bool) : Type 0 where
  pub count : length cells ≡ 2 * length net.inst.tasks
  pub size : length pending ≡ length net.inst.tasks
  pub each : (j : ℕ) → j < length net.inst.tasks → is_pending pending j ≡ false → IsPlace net cells pending j

-- why a task may start at this tick
abbrev pub IsReasonBy : NodeArcs → List ℕ → ℕ → ℕ → Option ℕ → Type 0
IsReasonBy net cells j s None = s ≤ head net.inst net.decisions j
IsReasonBy net cells j s (Some i) =
    (i < length net.inst.tasks) × (len : ℕ) × (forced net.inst net.decisions i j ≡ Some len)
    × (s ≤ start_at cells i + len)

-- the start of a task by its head and by the arcs into it that were looked at
pub record IsSoonest (net : NodeArcs) (cells : List ℕ) (j s : ℕ) (why : Option ℕ) (rest : List Edge) : Type 0 where
  pub above : head net.inst net.decisions j ≤ s
  pub low : head net.inst net.decisions j ≤ 2 ^ 31
  pub reason : IsReasonBy net cells j s why
  pub least :
      (others : List ℕ) → Meets net.inst net.decisions others
      → ((arc : Edge) → IsIn net.arcs arc → arc.to ≡ j → start_at cells arc.from ≤ slice_index others arc.from)
      → s ≤ slice_index others j
  pub met : (arc : Edge) → IsIn net.arcs arc → arc.to ≡ j → (start_at cells arc.from + arc.len ≤ s) ⊎ IsIn rest arc
  pub inside : (arc : Edge) → IsIn rest arc → IsIn net.arcs arc × (arc.to ≡ j)
  pub bound :
      (limit : ℕ) → ((arc : Edge) → IsIn net.arcs arc → arc.to ≡ j → start_at cells arc.from ≤ limit)
      → s ≤ limit + 2 ^ 31
