-- public: from when tasks can start at a node.
use Rattle.std.specs.Prelude.{ℕ, zero, suc, ◌+◌, max, Bool, ◌&&◌, ◌==◌, if◌then◌else◌, List, map, length, slice_index, Option, None, Some, option_map}
use Rattle.std.specs.List.{list_all}
use Rattle.std.specs.Option.{option_map_or}
use Rattle.qc_model.specs.declared.decision.Decision.{Decision}
use Rattle.qc_model.specs.declared.turn.Turn.{Turn}
use Rattle.qc_model.specs.declared.turn.Turn.TheVariants.{OneWay, Free}
use Rattle.qc_model.specs.Instance.{InstanceView}
use Rattle.qc_model.specs.Nodes.{forced, greatest, head, is_in_reach}
use Rattle.qc_model.specs.Work.{task_numbers}

-- when task i, with these starts, lets task j start; 0 where it forces nothing
abbrev pub let_by : InstanceView → List Decision → List ℕ → ℕ → ℕ → ℕ
let_by inst ds starts j i = option_map_or (λ ticks. slice_index starts i + ticks) (forced inst ds i j) 0

-- the start of task j, put off until all others let it start
abbrev pub put_off : InstanceView → List Decision → List ℕ → ℕ → ℕ
put_off inst ds starts j = max (slice_index starts j) (greatest (map (let_by inst ds starts j) (task_numbers inst)))

-- the heads, put off so often
abbrev pub starts_after : InstanceView → List Decision → ℕ → List ℕ
starts_after inst ds zero = map (head inst ds) (task_numbers inst)
starts_after inst ds (suc n) = map (put_off inst ds (starts_after inst ds n)) (task_numbers inst)

-- none of the starts is put off any more
abbrev pub are_met : InstanceView → List Decision → List ℕ → Bool
are_met inst ds starts = list_all (λ j. put_off inst ds starts j == slice_index starts j) (task_numbers inst)

-- the least starts of a node: the heads, put off as often as there are tasks, for no chain is longer; none where they
-- would be put off still, so that no starts meet the node, or where a decision is out of reach
abbrev pub least_starts : InstanceView → List Decision → Option (List ℕ)
least_starts inst ds =
    let starts = starts_after inst ds (length inst.tasks) in
    if is_in_reach inst ds && are_met inst ds starts then Some starts else None

-- from when packed tasks can start, each by itself: where cranes go one way its head, for that is cheap to tell, and
-- where they go as they like its least start
abbrev pub early_by : Turn → InstanceView → List Decision → Option (ℕ → ℕ)
early_by OneWay inst ds = Some (head inst ds)
early_by Free inst ds = option_map (λ starts j. slice_index starts j) (least_starts inst ds)

abbrev pub early : InstanceView → List Decision → Option (ℕ → ℕ)
early inst ds = early_by inst.turn inst ds
