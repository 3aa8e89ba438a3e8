-- inner: what each crane has spent, as code sums it up.
use Rattle.std.specs.Prelude.{ℕ, ◌+◌, ◌*◌, ◌≤◌, true, false, List, [], ◌∷◌, Option, None, Some}
use Rattle.std.specs.Int.{int_max, int_min}
use Rattle.qc_close.specs.Model.{Frame, Task, Turn, MOST_WORK, turn_bays, turn_high, InstanceView, IsOnRail, crane, highest, lowest, ticks_over}
use Rattle.qc_close.specs.declared.frames.Own.{Own}

-- these tasks, summed up
abbrev pub own_of : InstanceView → List ℕ → Option Own
own_of inst [] = None
own_of inst (j ∷ js) =
    Some (record { ticks = ticks_over inst (j ∷ js); low = lowest inst j js; high = highest inst j js })

-- with one task more
abbrev pub with_task : Option Own → Task → Own
with_task None t = record { ticks = t.ticks; low = t.bay; high = t.bay }
with_task (Some o) t = record {
  ticks = t.ticks + o.ticks;
  low = int_min t.bay o.low;
  high = int_max t.bay o.high;
}

-- what crane w spends on them
abbrev pub frame_by : InstanceView → Turn → ℕ → Option Own → Frame
frame_by inst turn w None = record {
  works = false;
  gone = (crane inst w).ready;
  low = (crane inst w).bay;
  high = (crane inst w).bay;
}
frame_by inst turn w (Some o) = record {
  works = true;
  gone = (crane inst w).ready + o.ticks + inst.travel * turn_bays turn (crane inst w).bay o.low o.high;
  low = int_min o.low (crane inst w).bay;
  high = turn_high turn (crane inst w).bay o.high;
}

-- so many tasks have no more ticks than this, and lie on the rail
pub record IsSmall (n : ℕ) (o : Own) : Type 0 where
  pub ticks : o.ticks ≤ n * MOST_WORK
  pub low : IsOnRail o.low
  pub high : IsOnRail o.high

-- the bays that crane w goes to them alone
abbrev pub bays_by : InstanceView → Turn → ℕ → Option Own → ℕ
bays_by inst turn w None = 0
bays_by inst turn w (Some o) = turn_bays turn (crane inst w).bay o.low o.high

-- their ticks
abbrev pub ticks_by : Option Own → ℕ
ticks_by None = 0
ticks_by (Some o) = o.ticks

-- what crane w spends on them with a way of so many bays
abbrev pub spent_with : InstanceView → ℕ → Option Own → ℕ → ℕ
spent_with inst w o bays = (crane inst w).ready + ticks_by o + inst.travel * bays
