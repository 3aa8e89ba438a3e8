-- public: leaves of a bound tree: what shows an end that none beats of the schedules that agree with a node: of the upward
-- ones where cranes go one way, and of all that are feasible where they go as they like.
use Rattle.std.specs.Prelude.{ℕ, ◌+◌, Bool, false, not, ◌&&◌, nat_lt, nat_le, if◌then◌else◌, List, [], ◌∷◌, ◌++◌, map, length, Option, None, Some, is_some, option_map, option_and_then}
use Rattle.std.specs.List.{list_all}
use Rattle.qc_model.specs.Numbers.{most_tasks}
use Rattle.qc_num.specs.declared.bound.Bound.{Bound}
use Rattle.qc_num.specs.declared.bound.Bound.TheVariants.{Least, Never}
use Rattle.qc_model.specs.declared.decision.Decision.{Decision}
use Rattle.qc_model.specs.declared.decision.Decision.TheVariants.{Assign, Order}
use Rattle.qc_model.specs.Assignments.{cranes_of}
use Rattle.qc_model.specs.Closed.{is_closed}
use Rattle.qc_model.specs.Instance.{InstanceView, ticks_of}
use Rattle.qc_model.specs.Early.{early}
use Rattle.qc_model.specs.Nodes.{forced, head, least, reaches}
use Rattle.qc_model.specs.Packs.{pack}

-- how a branch of a bound tree ends; tasks are numbered from 0
pub data Leaf : Type 0 where
  -- tasks, each forced after the one before it
  chain : (tasks : List ℕ) → Leaf
  -- tasks, each forced after the one before it, and the first after the last
  ring : (tasks : List ℕ) → Leaf
  -- the newest decision is out of reach
  reach : Leaf
  -- the work doesn't fit before this end
  work : (end : ℕ) → Leaf
  -- tasks of which no two can run together
  packed : (tasks : List ℕ) → Leaf

-- the ticks from the start of a task to the end of the last of a chain behind it; none where a step isn't forced
abbrev pub chain_ticks : InstanceView → List Decision → ℕ → List ℕ → Option ℕ
chain_ticks inst ds i [] = Some (ticks_of inst i)
chain_ticks inst ds i (j ∷ js) =
    option_and_then (λ step. option_map (λ rest. step + rest) (chain_ticks inst ds j js)) (forced inst ds i j)

-- the end that a chain shows
abbrev pub chain_end : InstanceView → List Decision → List ℕ → Option ℕ
chain_end inst ds [] = Some 0
chain_end inst ds (j ∷ js) = option_map (λ ticks. head inst ds j + ticks) (chain_ticks inst ds j js)

-- each step along the tasks is forced, and so is the one from the last to the first
abbrev pub is_ring : InstanceView → List Decision → List ℕ → Bool
is_ring inst ds [] = false
is_ring inst ds (j ∷ js) = is_some (chain_ticks inst ds j (js ++ j ∷ []))

-- a list of at most 240 tasks of the instance
abbrev pub are_tasks : InstanceView → List ℕ → Bool
are_tasks inst tasks = nat_le (length tasks) most_tasks && list_all (λ j. nat_lt j (length inst.tasks)) tasks

-- the end that packed tasks show: they begin when the first of them can
abbrev pub packed_end : InstanceView → List Decision → List ℕ → Option ℕ
packed_end inst ds tasks =
    option_and_then (λ begins.
    option_map (λ ticks. least (map begins tasks) + ticks) (pack inst (cranes_of inst ds) tasks)) (early inst ds)

-- the work of a node doesn't fit before an end: the assignment is closed at it
abbrev pub work_over : InstanceView → List Decision → ℕ → Bool
work_over inst ds end = is_closed inst inst.turn (cranes_of inst ds) end

-- the newest decision puts a task on a crane that doesn't reach it
abbrev pub is_out_of_reach : InstanceView → List Decision → Bool
is_out_of_reach inst [] = false
is_out_of_reach inst (Assign j k ∷ ds) = not (reaches inst j k)
is_out_of_reach inst (Order i j ∷ ds) = false

-- what a leaf shows at a node: none where it doesn't hold there
abbrev pub leaf_value : InstanceView → List Decision → Leaf → Option Bound
leaf_value inst ds (chain tasks) = if are_tasks inst tasks then option_map Least (chain_end inst ds tasks) else None
leaf_value inst ds (ring tasks) =
    if are_tasks inst tasks && nat_le 2 (length tasks) && is_ring inst ds tasks then Some Never else None
leaf_value inst ds reach = if is_out_of_reach inst ds then Some Never else None
leaf_value inst ds (work end) = if nat_le 1 end && work_over inst ds end then Some (Least end) else None
leaf_value inst ds (packed tasks) = option_map Least (packed_end inst ds tasks)
