-- public: what of a crane's time is spent where neighbours bar its way: while the crane next to it works so near that it
-- can be at none of the bays of a stretch where it has work, it waits.
use Rattle.std.specs.Prelude.{ℕ, ◌+◌, ◌*◌, min, ℤ, pos, ◌+ℤ◌, Bool, true, false, ◌&&◌, ◌||◌, ◌==◌, int_le, int_lt, if◌then◌else◌, List, [], ◌∷◌, map, filter, Option, is_some}
use Rattle.std.specs.List.{flat_map, list_all}
use Rattle.std.specs.Option.{option_map_or}
use Rattle.qc_model.specs.Assignments.{crane_in}
use Rattle.qc_model.specs.Bays.{bays_up}
use Rattle.qc_model.specs.Frames.{frame, frame_of, own}
use Rattle.qc_model.specs.Instance.{InstanceView, bay_of}
use Rattle.qc_model.specs.Nodes.{free, greatest, least}
use Rattle.qc_model.specs.Work.{highest, lowest, task_numbers, ticks_over}
use Rattle.qc_model.specs.declared.frame.Frame.{Frame}
use Rattle.qc_model.specs.declared.turn.Turn.{Turn}

-- task j lies from bay low to bay high
abbrev pub lies : InstanceView → ℤ → ℤ → ℕ → Bool
lies inst low high j = int_le low (bay_of inst j) && int_le (bay_of inst j) high

-- while crane v works at bay x, crane w can be at none of the bays from low to high: v is the next crane above, and x
-- lies less than the gap above low; or v is the next crane below, and x lies less than the gap below high
abbrev pub is_barred : InstanceView → ℕ → ℤ → ℤ → ℕ → ℤ → Bool
is_barred inst w low high v x =
    (v == w + 1) && int_lt x (low +ℤ pos inst.gap) || (v + 1 == w) && int_lt high (x +ℤ pos inst.gap)

-- the tasks that, with the cranes they have, bar crane w so
abbrev pub barring : InstanceView → List (Option ℕ) → ℕ → ℤ → ℤ → List ℕ
barring inst cranes w low high =
    filter (λ j. option_map_or (λ v. is_barred inst w low high v (bay_of inst j)) (crane_in cranes j) false)
    (task_numbers inst)

-- when task j can start at the least, with the crane that it has; 0 where it has none
abbrev pub soonest : InstanceView → List (Option ℕ) → ℕ → ℕ
soonest inst cranes j = option_map_or (free inst j) (crane_in cranes j) 0

-- no earlier than this are these tasks of crane w, and those that bar it from them, all done: they run one after the
-- other, and the first is one of its own or one of the others; 0 where either list is empty
abbrev pub both_done : InstanceView → Turn → List (Option ℕ) → ℕ → List ℕ → List ℕ → ℕ
both_done inst turn cranes w (i ∷ is) (j ∷ js) =
    ticks_over inst (j ∷ js)
    + min (frame_of inst turn w (i ∷ is)).gone
    (least (map (soonest inst cranes) (j ∷ js)) + ticks_over inst (i ∷ is)
    + inst.travel * bays_up (lowest inst i is) (highest inst i is))
both_done inst turn cranes w is js = 0

-- the same of its own tasks from bay low to bay high; 0 where a task without a crane lies elsewhere, since crane w may
-- have to go there
abbrev pub done_in : InstanceView → Turn → List (Option ℕ) → ℕ → ℤ → ℤ → ℕ
done_in inst turn cranes w low high =
    if list_all (λ j. is_some (crane_in cranes j) || lies inst low high j) (task_numbers inst)
    then both_done inst turn cranes w (filter (lies inst low high) (own inst cranes w)) (barring inst cranes w low high)
    else 0

-- the tasks of crane w, and those that no crane has
abbrev pub own_or_left : InstanceView → List (Option ℕ) → ℕ → List ℕ
own_or_left inst cranes w =
    filter (λ j. option_map_or (λ k. k == w) (crane_in cranes j) true) (task_numbers inst)

-- the same for each stretch that begins at the lowest bay of these tasks or ends at the highest, its other end being the
-- bay of a task
abbrev pub all_done : InstanceView → Turn → List (Option ℕ) → ℕ → List ℕ → List ℕ
all_done inst turn cranes w [] = []
all_done inst turn cranes w (i ∷ is) =
    flat_map
    (λ j. done_in inst turn cranes w (lowest inst i is) (bay_of inst j)
    ∷ done_in inst turn cranes w (bay_of inst j) (highest inst i is) ∷ [])
    (filter (lies inst (lowest inst i is) (highest inst i is)) (task_numbers inst))

-- what crane w spends at the least: on its own tasks, or on them and those that bar its way from some stretch
abbrev pub barred_frame : InstanceView → Turn → List (Option ℕ) → ℕ → Frame
barred_frame inst turn cranes w = record (frame inst turn cranes w) {
  gone = greatest ((frame inst turn cranes w).gone ∷ all_done inst turn cranes w (own_or_left inst cranes w));
}
