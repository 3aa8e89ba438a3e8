-- public: the Gantt text of a schedule: which task each crane has, along a line of 60 characters.
use Rattle.std.specs.Prelude.{ℕ, ◌+◌, ◌-◌, ◌*◌, ◌/◌, Bool, ◌&&◌, ◌==◌, nat_le, nat_lt, List, ◌++◌, codes, decimal, find, length, map, take}
use Rattle.std.specs.List.{flat_map, range_with_len, zip}
use Rattle.std.specs.Option.{option_map_or}
use Rattle.qc_model.specs.declared.task.Task.{Task}
use Rattle.qc_model.specs.declared.task.Phase.{Phase}
use Rattle.qc_model.specs.declared.task.Phase.TheVariants.{DeckOut, HoldOut, HoldIn, DeckIn}
use Rattle.qc_model.specs.declared.schedule.Slot.{Slot}
use Rattle.qc_model.specs.Instance.{InstanceView, crane}
use Rattle.qc_model.specs.Rules.{ends}

-- the letter of a phase
abbrev pub letter : Phase → ℕ
letter DeckOut = 68
letter HoldOut = 100
letter HoldIn = 108
letter DeckIn = 76

-- the crane is at this task at the tick
abbrev pub is_at : (k at : ℕ) → Task → Slot → Bool
is_at k at t s = (s.crane == k) && nat_le s.start at && nat_lt at (s.start + t.ticks)

-- the letter of the task that the crane has at the tick, the lowest where it has more, and a dot where it has none
abbrev pub mark : InstanceView → List Slot → (k at : ℕ) → ℕ
mark inst sched k at =
    option_map_or (λ line. letter line.0.phase) (find (λ line. is_at k at line.0 line.1) (zip inst.tasks sched)) 46

-- a crane's name, filled with spaces to 12 places
abbrev pub in_places : List ℕ → List ℕ
in_places name = name ++ take (12 - length name) (codes "            ")

-- the line of a crane: its name in 12 places, and what it does at each of 60 ticks, evenly from 0 on
abbrev pub gantt_line : InstanceView → List Slot → ℕ → List ℕ
gantt_line inst sched k =
    in_places (crane inst k).name ++ codes "|"
    ++ map (λ c. mark inst sched k (c * ends inst sched / 60)) (range_with_len 0 60) ++ codes "|\n"

abbrev pub gantt_title : ℕ → List ℕ
gantt_title end = codes "gantt " ++ decimal end ++ codes "\n"

-- the line of the end, and one for each crane
abbrev pub gantt_text : InstanceView → List Slot → List ℕ
gantt_text inst sched =
    gantt_title (ends inst sched) ++ flat_map (gantt_line inst sched) (range_with_len 0 (length inst.cranes))
