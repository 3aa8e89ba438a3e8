-- public: the names of the model that bounds, searches and trees speak of, passed on from one place. It declares nothing.
pub use Rattle.qc_model.specs.Assignments.{AreInRange, Follows, crane_in, cranes_by, cranes_for, cranes_of, no_cranes, place}
pub use Rattle.qc_model.specs.Barred.{all_done, barred_frame, barring, both_done, done_in, is_barred, lies, own_or_left, soonest}
pub use Rattle.qc_model.specs.Bays.{at_least_zero, bays_between, bays_up}
pub use Rattle.qc_model.specs.Closed.{IsClosedBound, Try, along, are_multiples, bays_to, fewest, first, grain, has_room, is_closed, is_served, is_short, is_short_along, is_short_before, last_before, left_at, left_bays, leg, legs, lists_to, load, most, numbers, room, suffices, try_of, try_with, work_at}
pub use Rattle.qc_model.specs.Closing.{IsClosable, IsWorkBound, IsWorkLate, complete, ends_late, no_starts, out_of_reach, work_late}
pub use Rattle.qc_model.specs.Early.{are_met, early, early_by, least_starts, let_by, put_off, starts_after}
pub use Rattle.qc_model.specs.Frames.{GoesBy, frame, frame_of, own, turn_bays, turn_high}
pub use Rattle.qc_model.specs.Instance.{InstanceView, IsApart, IsFrom, IsOnRail, Valid, bay_of, crane, is_apart, no_crane, no_task, pair_of, release_of, task, ticks_of}
pub use Rattle.qc_model.specs.Judge.{Goes, IsDirection, IsJudgeable}
pub use Rattle.qc_model.specs.Leaves.{Leaf, are_tasks, chain, chain_end, chain_ticks, is_out_of_reach, is_ring, leaf_value, packed, packed_end, reach, ring, work, work_over}
pub use Rattle.qc_model.specs.Motion.{bay_ahead, bay_behind, scaled}
pub use Rattle.qc_model.specs.Nodes.{Agrees, AreLeast, Clash, Conflicts, Fits, HasStarts, IsComplete, IsInReach, IsNodeEnd, IsSettled, Meets, assigned, berth_wait, crane_ticks, forced, free, greatest, head, head_by, is_before, is_in_reach, is_ordered, is_settled, is_sooner, least, order_pairs, order_pairs_by, pair_ticks, reaches, schedule_with, separation, slot_with, sooner_ticks}
pub use Rattle.qc_model.specs.Numbers.{most_branchings, most_cranes, most_distance, most_ready, most_start, most_tasks, most_work}
pub use Rattle.qc_model.specs.OneWay.{GoesOneWay, GoesUp, IsAllowed, IsAllowedBy, flipped, mirror, mirror_schedule, mirror_slot, mirror_task}
pub use Rattle.qc_model.specs.Packs.{IsPackBound, all_clash, all_differ, clash, is_doable, is_packed, may_lie, pack, places, span, stretches}
pub use Rattle.qc_model.specs.Rules.{Feasible, IsClear, crane_of, end_of, ends, last_end, no_slot, slot_distance, start_of, starts}
pub use Rattle.qc_model.specs.Seen.{seen, seen_number, seen_schedule}
pub use Rattle.qc_model.specs.Tasks.{phase_rank, task_rank}
pub use Rattle.qc_model.specs.Ticks.{arrival, berth_clear, berth_distance, climb, distance, lead, task_distance, travel_between}
pub use Rattle.qc_model.specs.Ways.{frame_along, longest, longest_way, own_bays, own_way, stand, tasks_at, trip_along, trip_for, trip_from, trip_to, way_at, way_frame, way_with}
pub use Rattle.qc_model.specs.Work.{crane_numbers, highest, lowest, task_numbers, ticks_over}
pub use Rattle.qc_model.specs.declared.crane.Crane.{Crane}
pub use Rattle.qc_model.specs.declared.decision.Decision.{Decision}
pub use Rattle.qc_model.specs.declared.decision.Decision.TheVariants.{Assign, Order}
pub use Rattle.qc_model.specs.declared.direction.Direction.{Direction}
pub use Rattle.qc_model.specs.declared.direction.Direction.TheVariants.{Down, Up}
pub use Rattle.qc_model.specs.declared.frame.Frame.{Frame}
pub use Rattle.qc_model.specs.declared.limits.TheConstants.{MOST_BAYS, MOST_DISTANCE, MOST_GAP_BY_PLACES, MOST_READY, MOST_START, MOST_TASKS, MOST_TRAVEL, MOST_WORK}
pub use Rattle.qc_model.specs.declared.pair.Pair.{Pair}
pub use Rattle.qc_model.specs.declared.schedule.Slot.{Slot}
pub use Rattle.qc_model.specs.declared.task.Phase.{Phase}
pub use Rattle.qc_model.specs.declared.task.Phase.TheVariants.{DeckIn, DeckOut, HoldIn, HoldOut}
pub use Rattle.qc_model.specs.declared.task.Task.{Task}
pub use Rattle.qc_model.specs.declared.turn.Turn.{Turn}
pub use Rattle.qc_model.specs.declared.turn.Turn.TheVariants.{Free, OneWay}
pub use Rattle.qc_model.specs.declared.way.Trip.{Trip}
pub use Rattle.qc_model.specs.declared.way.Way.{Way}
