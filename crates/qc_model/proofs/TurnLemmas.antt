-- Which way cranes may go is no part of the rules: the same instance with the other turn is valid where it was, and has
-- the same schedules.
use Rattle.std.proofs.Common.{◌≡◌, ◌⊎◌, inl, inr, List}
use Rattle.std.proofs.Math.Logic.{∥∥₁_map}
use Rattle.qc_model.specs.declared.schedule.Slot.{Slot}
use Rattle.qc_model.specs.declared.turn.Turn.{Turn}
use Rattle.qc_model.specs.declared.turn.Turn.TheVariants.{OneWay, Free}
use Rattle.qc_model.specs.Frames.{GoesBy}
use Rattle.qc_model.specs.Instance.{InstanceView, HasBayLimits, HasPlaceLimits, Valid, with_turn}
use Rattle.qc_model.specs.OneWay.{GoesUp}
use Rattle.qc_model.specs.Rules.{Feasible}

pub two_turns : OneWay ≡ Free → ⊥
two_turns e = cc

limits_turn : (inst : InstanceView) (turn : Turn) → HasBayLimits inst ⊎ HasPlaceLimits inst
    → HasBayLimits (with_turn inst turn) ⊎ HasPlaceLimits (with_turn inst turn)
limits_turn inst turn (inl l) = inl (record { bays = l.bays; travel = l.travel; gap = l.gap; berths = l.berths })
limits_turn inst turn (inr l) = inr (record { bays = l.bays; travel = l.travel; gap = l.gap; berths = l.berths })

pub valid_turn : (inst : InstanceView) (turn : Turn) → Valid inst → Valid (with_turn inst turn)
valid_turn inst turn v = record {
  limits = ∥∥₁_map v.limits (limits_turn inst turn);
  tasks = record {
    count = v.tasks.count;
    bays = v.tasks.bays;
    ticks = v.tasks.ticks;
    work = v.tasks.work;
    releases = v.tasks.releases;
    sorted = v.tasks.sorted;
    hatches = v.tasks.hatches;
  };
  cranes = record {
    count = v.cranes.count;
    ready = v.cranes.ready;
    reach = v.cranes.reach;
    names = v.cranes.names;
    order = v.cranes.order;
  };
  before = record {
    phases = v.before.phases;
    range = v.before.range;
    sorted = v.before.sorted;
    no_ring = v.before.no_ring;
  };
  apart = record { count = v.apart.count; range = v.apart.range; sorted = v.apart.sorted };
}

pub feasible_turn : (inst : InstanceView) (turn : Turn) (sched : List Slot) → Feasible inst sched
    → Feasible (with_turn inst turn) sched
feasible_turn inst turn sched f = record {
  all_tasks = f.all_tasks;
  crane_range = f.crane_range;
  reach = f.reach;
  ready = f.ready;
  travel = f.travel;
  before = f.before;
  apart = f.apart;
  margin = f.margin;
  berth = f.berth;
}

pub goes_up_turn : (inst : InstanceView) (turn : Turn) (sched : List Slot) → GoesUp inst sched
    → GoesUp (with_turn inst turn) sched
goes_up_turn inst turn sched g = record {
  feasible = feasible_turn inst turn sched g.feasible;
  upward = record { one_crane = g.upward.one_crane; two_cranes = g.upward.two_cranes };
}

-- what goes up goes by either turn
pub goes_by : (turn : Turn) (inst : InstanceView) (sched : List Slot) → GoesUp inst sched → GoesBy turn inst sched
goes_by OneWay inst sched g = g
goes_by Free inst sched g = g.feasible

-- and what goes by either is feasible
pub by_feasible : (turn : Turn) (inst : InstanceView) (sched : List Slot) → GoesBy turn inst sched → Feasible inst sched
by_feasible OneWay inst sched g = g.feasible
by_feasible Free inst sched g = g
