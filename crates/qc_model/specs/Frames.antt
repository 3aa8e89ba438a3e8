-- public: frames: what of each crane's time is spent on the tasks that it has, whatever else comes.
use Rattle.std.specs.Prelude.{ℕ, ◌+◌, ◌*◌, min, ℤ, true, false, ◌==◌, List, [], ◌∷◌, filter, Option}
use Rattle.std.specs.Int.{int_max, int_min}
use Rattle.std.specs.Option.{option_map_or}
use Rattle.qc_model.specs.Bays.{bays_between, bays_up}
use Rattle.qc_model.specs.Instance.{InstanceView, crane}
use Rattle.qc_model.specs.Work.{highest, lowest, task_numbers, ticks_over}
use Rattle.qc_model.specs.declared.frame.Frame.{Frame}
use Rattle.qc_model.specs.declared.schedule.Slot.{Slot}
use Rattle.qc_model.specs.OneWay.{GoesUp}
use Rattle.qc_model.specs.Rules.{Feasible}
use Rattle.qc_model.specs.declared.turn.Turn.{Turn}
use Rattle.qc_model.specs.declared.turn.Turn.TheVariants.{OneWay, Free}
use Rattle.qc_model.specs.Assignments.{crane_in}

-- the schedules of cranes with this turn: those that go up, or all that are feasible
abbrev pub GoesBy : Turn → InstanceView → List Slot → Type 0
GoesBy OneWay inst sched = GoesUp inst sched
GoesBy Free inst sched = Feasible inst sched

-- the tasks that crane w has
abbrev pub own : InstanceView → List (Option ℕ) → ℕ → List ℕ
own inst cranes w = filter (λ j. option_map_or (λ k. k == w) (crane_in cranes j) false) (task_numbers inst)

-- how many bays a crane at bay b goes at the least to come to bays low and high: to low and from there up, or first to
-- whichever is nearer
abbrev pub turn_bays : Turn → ℤ → ℤ → ℤ → ℕ
turn_bays OneWay b low high = bays_between b low + bays_up low high
turn_bays Free b low high = bays_up low high + min (bays_between b low) (bays_between b high)

-- how far up it comes at no further cost; where it goes one way its berth doesn't count, since it is above its tasks
-- only before the first of them
abbrev pub turn_high : Turn → ℤ → ℤ → ℤ
turn_high OneWay b high = high
turn_high Free b high = int_max high b

-- what crane w spends on these tasks: its wait, the tasks, and the way to all of them
abbrev pub frame_of : InstanceView → Turn → ℕ → List ℕ → Frame
frame_of inst turn w [] = record {
  works = false;
  gone = (crane inst w).ready;
  low = (crane inst w).bay;
  high = (crane inst w).bay;
}
frame_of inst turn w (j ∷ js) = record {
  works = true;
  gone = (crane inst w).ready + ticks_over inst (j ∷ js)
      + inst.travel * turn_bays turn (crane inst w).bay (lowest inst j js) (highest inst j js);
  low = int_min (lowest inst j js) (crane inst w).bay;
  high = turn_high turn (crane inst w).bay (highest inst j js);
}

-- what each crane spends on the tasks that it has
abbrev pub frame : InstanceView → Turn → List (Option ℕ) → ℕ → Frame
frame inst turn cranes w = frame_of inst turn w (own inst cranes w)
