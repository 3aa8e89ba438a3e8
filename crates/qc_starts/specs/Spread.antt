-- inner: starts while they are raised behind a task, the root, that starts later than before or has new steps behind it.
use Rattle.std.specs.Prelude.{◌≡◌, ◌≢◌, ℕ, ◌+◌, ◌-◌, ◌*◌, ◌^◌, ◌<◌, ◌≤◌, ◌⊎◌, Bool, true, false, cond, nat_lt, ◌==◌, List, [], ◌∷◌, filter, length, Some, slice_index_or, sum_by}
use Rattle.std.specs.List.{range_with_len}
use Rattle.qc_arena.specs.declared.edge.Edge.{Edge}
use Rattle.qc_model.specs.declared.limits.TheConstants.{MOST_START}
use Rattle.qc_model.specs.Nodes.{head}
use Rattle.qc_starts.specs.declared.step.Step.{Step}
use Rattle.qc_starts.specs.declared.step.Step.TheVariants.{Raised, Cycle}
use Rattle.qc_starts.specs.NodeArcs.{NodeArcs}
use Rattle.qc_starts.specs.Values.{AreAtMost, AreRest, IsReason, raiser_at, start_at}

-- the arc is one of these
abbrev pub IsIn : List Edge → Edge → Type 0
IsIn [] arc = ⊥
IsIn (x ∷ xs) arc = (x ≡ arc) ⊎ IsIn xs arc

-- the second task of the arc starts late enough
abbrev pub IsMet : List ℕ → Edge → Type 0
IsMet cells arc = start_at cells arc.from + arc.len ≤ start_at cells arc.to

-- the arc asks for a later start
abbrev pub is_late : List ℕ → Edge → Bool
is_late cells arc = nat_lt (start_at cells arc.to) (start_at cells arc.from + arc.len)

-- the root, or a task that starts later than it did
abbrev pub IsLifted : ℕ → List ℕ → List ℕ → ℕ → Type 0
IsLifted root olds cells j = (j ≡ root) ⊎ (start_at olds j < start_at cells j)

-- the task was raised by the root or by a task that starts later than it did
pub record IsRaisedBy (net : NodeArcs) (root : ℕ) (olds cells : List ℕ) (j : ℕ) : Type 0 where
  pub by : ℕ
  pub is : raiser_at (length net.inst.tasks) cells j ≡ Some by
  pub task : by < length net.inst.tasks
  pub lifted : IsLifted root olds cells by

-- starts have reasons and are at most those of all starts that meet the node; those that rose, but for the root's,
-- rose by the root
pub record IsRaising (net : NodeArcs) (root : ℕ) (olds cells : List ℕ) : Type 0 where
  pub count : length cells ≡ 2 * length net.inst.tasks
  pub inside : root < length net.inst.tasks
  pub heads : (j : ℕ) → j < length net.inst.tasks → j ≢ root → head net.inst net.decisions j ≤ start_at cells j
  pub low : (j : ℕ) → j < length net.inst.tasks → j ≢ root → head net.inst net.decisions j ≤ 2 ^ 31
  pub reasons :
      (j : ℕ) → j < length net.inst.tasks
      → IsReason net.inst net.decisions cells j (raiser_at (length net.inst.tasks) cells j)
  pub least : AreAtMost net.inst net.decisions cells
  pub rise : (j : ℕ) → j < length net.inst.tasks → start_at olds j ≤ start_at cells j
  pub lifted :
      (j : ℕ) → j < length net.inst.tasks → j ≢ root → start_at olds j < start_at cells j
      → IsRaisedBy net root olds cells j
  pub soon : (j : ℕ) → j < length net.inst.tasks → start_at olds j ≤ MOST_START
  pub bound :
      (j : ℕ) → j < length net.inst.tasks → j ≢ root
      → start_at cells j ≤ start_at olds j + (start_at cells root + 2 ^ 31)
  pub settled :
      (arc : Edge) → IsIn net.arcs arc → arc.from ≢ root → arc.to ≢ root
      → start_at olds arc.from + arc.len ≤ start_at olds arc.to

-- only the root was raised so far
pub record IsRooting (net : NodeArcs) (root : ℕ) (olds cells : List ℕ) : Type 0 where
  pub raising : IsRaising net root olds cells
  pub still : (j : ℕ) → j < length net.inst.tasks → j ≢ root → start_at cells j ≡ start_at olds j
  pub top : start_at cells root ≤ 2 ^ 41

-- whether a task is still to be looked at
abbrev pub is_pending : List Bool → ℕ → Bool
is_pending pending j = slice_index_or pending j false

-- the arcs are met, but for those from tasks that are still to be looked at and those to come from this one
pub record IsSpreading
    (net : NodeArcs) (root : ℕ) (olds cells : List ℕ) (pending : List Bool) (rest : List Edge) : Type 0 where
  pub raising : IsRaising net root olds cells
  pub above : head net.inst net.decisions root ≤ start_at cells root
  pub low : head net.inst net.decisions root ≤ 2 ^ 31
  pub top : start_at cells root ≤ 2 ^ 41
  pub size : length pending ≡ length net.inst.tasks
  pub pended : (j : ℕ) → is_pending pending j ≡ true → IsLifted root olds cells j
  pub met :
      (arc : Edge) → IsIn net.arcs arc → is_pending pending arc.from ≡ false
      → IsMet cells arc ⊎ IsIn rest arc

-- a raise came back to the root
pub record IsBackAtRoot (net : NodeArcs) (root : ℕ) (olds cells : List ℕ) : Type 0 where
  pub raising : IsRaising net root olds cells
  pub back : IsRaisedBy net root olds cells root

abbrev pub one_of : Bool → ℕ
one_of b = cond b 1 0

-- how far a task can still be raised, and whether it is still to be looked at
abbrev pub left_of : ℕ → List ℕ → List ℕ → List Bool → ℕ → ℕ
left_of root olds cells pending j =
    2 * (start_at olds j + (start_at cells root + 2 ^ 31) - start_at cells j) + one_of (is_pending pending j)

abbrev pub left : ℕ → ℕ → List ℕ → List ℕ → List Bool → ℕ
left count root olds cells pending = sum_by (left_of root olds cells pending) (range_with_len 0 count)

-- of the arcs those from a task, and those into a task
abbrev pub from_task : ℕ → List Edge → List Edge
from_task task arcs = filter (λ arc. arc.from == task) arcs

abbrev pub into_task : ℕ → List Edge → List Edge
into_task task arcs = filter (λ arc. arc.to == task) arcs

-- whether a raise came back to the root, or all arcs from the task are met and less is left to be done
abbrev pub IsLooked : NodeArcs → ℕ → List ℕ → List ℕ → List Bool → ℕ → Bool → Type 0
IsLooked net root olds cells pending before true = IsBackAtRoot net root olds cells
IsLooked net root olds cells pending before false =
    IsSpreading net root olds cells pending []
    × (left (length net.inst.tasks) root olds cells pending ≤ before)

-- what raising came to
abbrev pub IsSettledTo : NodeArcs → ℕ → List ℕ → List ℕ → Step → Type 0
IsSettledTo net root olds cells Raised = AreRest net.inst net.decisions cells
IsSettledTo net root olds cells Cycle = IsBackAtRoot net root olds cells

-- the root alone is still to be looked at
pub record IsOnly (pending : List Bool) (count root : ℕ) : Type 0 where
  pub size : length pending ≡ count
  pub first : is_pending pending root ≡ true
  pub others : (j : ℕ) → j ≢ root → is_pending pending j ≡ false
