-- public: the ticks that rules ask for, of an instance alone: what a schedule keeps, and what holds of a
-- schedule that is still open, cite the same numbers.
use Rattle.std.specs.Prelude.{ℕ, ◌+◌, ◌-◌, ◌*◌, ℤ, pos, ◌+ℤ◌, nat_lt, if◌then◌else◌}
use Rattle.qc_model.specs.Bays.{bays_up, bays_between}
use Rattle.qc_model.specs.Instance.{InstanceView, bay_of, ticks_of, crane}

-- the travel from one bay to another
abbrev pub travel_between : InstanceView → ℤ → ℤ → ℕ
travel_between inst x y = inst.travel * bays_between x y

-- when crane k can first be at bay x: it is ready, and comes from its start bay
abbrev pub arrival : InstanceView → ℕ → ℤ → ℕ
arrival inst k x = (crane inst k).ready + travel_between inst (crane inst k).bay x

-- the ticks by which crane v at bay x and crane w at bay y must keep clear of each other in time: the
-- way that one must make to give way to the other (after Bierwirth and Meisel 2009, in a form of our own)
abbrev pub distance : InstanceView → ℕ → ℤ → ℕ → ℤ → ℕ
distance inst v x w y = inst.travel * (
    if nat_lt v w
    then bays_up y (x +ℤ pos (inst.gap * (w - v)))
    else (if nat_lt w v then bays_up x (y +ℤ pos (inst.gap * (v - w))) else 0))

-- the distance of crane v at its start bay from crane w at bay x
abbrev pub berth_distance : InstanceView → ℕ → ℕ → ℤ → ℕ
berth_distance inst v w x = distance inst v (crane inst v).bay w x

-- when bay x is clear of the berth of crane v for crane w: v is ready, and gives way
abbrev pub berth_clear : InstanceView → ℕ → ℕ → ℤ → ℕ
berth_clear inst v w x = (crane inst v).ready + berth_distance inst v w x

-- the distance of task i on crane v and task j on crane w
abbrev pub task_distance : InstanceView → ℕ → ℕ → ℕ → ℕ → ℕ
task_distance inst i v j w = distance inst v (bay_of inst i) w (bay_of inst j)

-- the ticks from the start of task i to that of task j, where a crane does i and then goes up to j
abbrev pub climb : InstanceView → ℕ → ℕ → ℕ
climb inst i j = ticks_of inst i + inst.travel * bays_up (bay_of inst i) (bay_of inst j)

-- the ticks from the start of task i on crane v to that of task j on crane w, where w gives way to v
abbrev pub lead : InstanceView → ℕ → ℕ → ℕ → ℕ → ℕ
lead inst i v j w = ticks_of inst i + task_distance inst i v j w
