-- public: the arcs of a node, newest first: which there are, and how many.
use Rattle.std.specs.Prelude.{◌≡◌, ℕ, ◌+◌, ◌-◌, ◌*◌, ◌<◌, ◌≤◌, ◌^◌, Bool, ◌&&◌, ◌||◌, ◌==◌, if◌then◌else◌, List, [], ◌∷◌, ◌++◌, count_by, length, Option, None, Some}
use Rattle.std.specs.List.{AllByRecursion}
use Rattle.qc_arena.specs.Arcs.{Arcs}
use Rattle.qc_arena.specs.declared.edge.Edge.{Edge}
use Rattle.qc_dist.specs.Added.{excess}
use Rattle.qc_model.specs.declared.decision.Decision.{Decision}
use Rattle.qc_model.specs.declared.limits.TheConstants.{MOST_TASKS}
use Rattle.qc_model.specs.Instance.{InstanceView}
use Rattle.qc_model.specs.Nodes.{assigned, crane_ticks, forced, is_sooner, sooner_ticks}

-- the arc leads from i to j
abbrev pub leads : ℕ → ℕ → Edge → Bool
leads i j arc = (arc.from == i) && (arc.to == j)

-- the arc leads from one of the two tasks to the other
abbrev pub joins : ℕ → ℕ → Edge → Bool
joins i j arc = leads i j arc || leads j i arc

-- the length of the newest arc from i to j; none where there is none
abbrev pub newest_length : ℕ → ℕ → List Edge → Option ℕ
newest_length i j [] = None
newest_length i j (arc ∷ older) = if leads i j arc then Some arc.len else newest_length i j older

-- the arc is between tasks of the instance, and asks for no more than is forced
pub record IsArc (inst : InstanceView) (ds : List Decision) (arc : Edge) : Type 0 where
  pub from : arc.from < length inst.tasks
  pub to : arc.to < length inst.tasks
  pub some : 1 ≤ arc.len
  pub ticks : ℕ
  pub is : forced inst ds arc.from arc.to ≡ Some ticks
  pub within : arc.len ≤ ticks

-- no arc is longer than cranes and tasks allow
abbrev pub AreLow : List Edge → Type 0
AreLow arcs = AllByRecursion (λ arc. arc.len ≤ 2 ^ 31) arcs

-- how many arcs may join two tasks: one for their order, and one that their cranes add
abbrev pub most_arcs : Option ℕ → Option ℕ → ℕ
most_arcs (Some v) (Some w) = 2
most_arcs _ _ = 1

-- the arcs are those of the node
pub record AreArcs (inst : InstanceView) (ds : List Decision) (arcs : List Edge) : Type 0 where
  pub newest :
      (i j : ℕ) → i < length inst.tasks → j < length inst.tasks → newest_length i j arcs ≡ forced inst ds i j
  pub each : AllByRecursion (IsArc inst ds) arcs
  pub few : (i j : ℕ) → count_by (joins i j) arcs ≤ most_arcs (assigned ds i) (assigned ds j)

abbrev pub arc_between : ℕ → ℕ → ℕ → Edge
arc_between i j len = record { from = i; to = j; len = len }

-- the arcs with one more for what is added from i to j, or from j to i
abbrev pub with_added : ℕ → ℕ → Option ℕ → Option ℕ → List Edge → List Edge
with_added i j (Some len) _ arcs = arc_between i j len ∷ arcs
with_added i j None (Some len) arcs = arc_between j i len ∷ arcs
with_added i j None None arcs = arcs

-- what the cranes of two tasks add to what is forced from one to the other
abbrev pub added : InstanceView → List Decision → ℕ → ℕ → Option ℕ
added inst ds i j =
    excess (sooner_ticks inst ds i j) (crane_ticks inst (is_sooner inst ds i j) i j (assigned ds i) (assigned ds j))

-- arcs with others on top
abbrev pub IsOver : List Edge → List Edge → Type 0
IsOver older arcs = (newer : List Edge) × (arcs ≡ newer ++ older)

-- what holds once the pairs up to this one have been looked at
pub record AreOpening (inst : InstanceView) (arcs : List Edge) (pairs : ℕ) : Type 0 where
  pub each : AllByRecursion (IsArc inst []) arcs
  pub few : (i j : ℕ) → count_by (joins i j) arcs ≤ 1
  pub newest : (i j : ℕ) → i < length inst.tasks → j < length inst.tasks → MOST_TASKS * i + j < pairs
      → newest_length i j arcs ≡ forced inst [] i j
  pub still : (i j : ℕ) → pairs ≤ MOST_TASKS * i + j → newest_length i j arcs ≡ None

-- the arena is for the tasks of the instance, and has room for two arcs for each pair of them
pub record IsRoomy (inst : InstanceView) (arena : Arcs) : Type 0 where
  pub nodes : arena.nodes ≡ length inst.tasks
  pub cap : arena.cap ≡ length inst.tasks * (length inst.tasks - 1)
