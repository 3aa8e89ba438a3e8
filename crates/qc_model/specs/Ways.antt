-- public: the ways of cranes: at a hatch a crane comes to its own tasks and makes way for those of others, in the order of
-- their phases.
use Rattle.std.specs.Prelude.{ℕ, ◌+◌, ◌*◌, max, min, ℤ, ◌==◌, ◌||◌, nat_lt, if◌then◌else◌, List, [], ◌∷◌, map, filter, Option, None, Some}
use Rattle.std.specs.Int.{int_max, int_min}
use Rattle.std.specs.List.{range_with_len}
use Rattle.qc_model.specs.Assignments.{crane_in}
use Rattle.qc_model.specs.Barred.{barred_frame}
use Rattle.qc_model.specs.Bays.{at_least_zero, bays_between, bays_up}
use Rattle.qc_model.specs.Frames.{frame, own, turn_bays}
use Rattle.qc_model.specs.Instance.{InstanceView, bay_of, crane}
use Rattle.qc_model.specs.Motion.{bay_ahead, bay_behind}
use Rattle.qc_model.specs.Work.{highest, lowest, task_numbers, ticks_over}
use Rattle.qc_model.specs.declared.frame.Frame.{Frame}
use Rattle.qc_model.specs.declared.way.Trip.{Trip}
use Rattle.qc_model.specs.declared.way.Way.{Way}
use Rattle.qc_model.specs.declared.turn.Turn.{Turn}

-- a crane stands at its berth
abbrev pub trip_from : ℤ → Trip
trip_from x = record { at = x; bays = 0; low = x; high = x }

-- it goes on to bay x
abbrev pub trip_to : ℤ → Trip → Trip
trip_to x t = record {
  at = x;
  bays = t.bays + bays_between t.at x;
  low = int_min t.low x;
  high = int_max t.high x;
}

-- the place nearest to x at which crane w may stand while crane v works at bay y
abbrev pub stand : InstanceView → ℕ → ℕ → ℤ → ℤ → ℤ
stand inst w v y x =
    if v == w
    then y
    else (if nat_lt v w then int_max x (bay_ahead inst v y w) else int_min x (bay_behind inst v y w))

-- crane w goes there if need be
abbrev pub trip_for : InstanceView → ℕ → ℤ → Option ℕ → Trip → Trip
trip_for inst w y None t = t
trip_for inst w y (Some v) t = trip_to (stand inst w v y t.at) t

-- so for each of these tasks that has a crane, one after the other
abbrev pub trip_along : InstanceView → List (Option ℕ) → ℕ → Trip → List ℕ → Trip
trip_along inst cranes w t [] = t
trip_along inst cranes w t (j ∷ js) =
    trip_along inst cranes w (trip_for inst w (bay_of inst j) (crane_in cranes j) t) js

-- the tasks at bay x, in the order of their phases
abbrev pub tasks_at : InstanceView → ℕ → List ℕ
tasks_at inst x = filter (λ j. at_least_zero (bay_of inst j) == x) (task_numbers inst)

-- what a crane goes at the least with such a trip, and to bays low and high beyond it: to each there and back, or to one
-- of them at last
abbrev pub way_with : Trip → ℤ → ℤ → Way
way_with t low high = record {
  bays = t.bays
      + min (2 * bays_up t.high high + 2 * bays_up low t.low)
      (min (bays_up t.at high + 2 * bays_up low t.low) (2 * bays_up t.high high + bays_up low t.at));
  low = low;
  high = high;
}

-- by the trip for the tasks at bay x, and to all its own tasks
abbrev pub way_at : InstanceView → Turn → List (Option ℕ) → ℕ → ℕ → Way
way_at inst turn cranes w x =
    let t = trip_along inst cranes w (trip_from (crane inst w).bay) (tasks_at inst x) in
    way_with t (int_min t.low (frame inst turn cranes w).low) (int_max t.high (frame inst turn cranes w).high)

-- the bays that it goes to come to these tasks alone
abbrev pub own_bays : InstanceView → Turn → ℕ → List ℕ → ℕ
own_bays inst turn w [] = 0
own_bays inst turn w (j ∷ js) = turn_bays turn (crane inst w).bay (lowest inst j js) (highest inst j js)

-- the way to its own tasks alone
abbrev pub own_way : InstanceView → Turn → List (Option ℕ) → ℕ → Way
own_way inst turn cranes w = record {
  bays = own_bays inst turn w (own inst cranes w);
  low = (frame inst turn cranes w).low;
  high = (frame inst turn cranes w).high;
}

-- the longest of these ways; of ways as long as each other the first
abbrev pub longest : Way → List Way → Way
longest way [] = way
longest way (other ∷ others) =
    if nat_lt way.bays other.bays then longest other others else longest way others

-- that of crane w, to its own tasks alone or by the tasks at some bay
abbrev pub longest_way : InstanceView → Turn → List (Option ℕ) → ℕ → Way
longest_way inst turn cranes w =
    longest (own_way inst turn cranes w) (map (way_at inst turn cranes w) (range_with_len 1 inst.bays))

-- what crane w spends on its own tasks with such a way, or where neighbours bar it
abbrev pub frame_along : InstanceView → Turn → List (Option ℕ) → ℕ → Way → Frame
frame_along inst turn cranes w way = record {
  works = (frame inst turn cranes w).works || nat_lt (own_way inst turn cranes w).bays way.bays;
  gone = max (barred_frame inst turn cranes w).gone
      ((crane inst w).ready + ticks_over inst (own inst cranes w) + inst.travel * way.bays);
  low = way.low;
  high = way.high;
}

-- with the longest
abbrev pub way_frame : InstanceView → Turn → List (Option ℕ) → ℕ → Frame
way_frame inst turn cranes w = frame_along inst turn cranes w (longest_way inst turn cranes w)
