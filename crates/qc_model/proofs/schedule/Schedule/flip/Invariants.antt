use Rattle.std.proofs.Common.{◌≡◌, ℕ, ◌<◌, ◌≤◌, get_or, length, map, take}
use Rattle.qc_model.specs.OneWay.{flipped}
use Rattle.qc_model.specs.Rules.{no_slot}
use Rattle.qc_model.proofs.schedule.Schedule.flip.Given as goal

-- the first slots are those of the other end, and the rest as they were
abbrev pub invariant-loop-task : goal.invariant-loop-task
invariant-loop-task l = record {
  count : length l.self-inside.slots.items ≡ length l.fn.self;
  front : take l.task l.self-inside.slots.items ≡ map (flipped l.cranes) (take l.task l.fn.self);
  rest : (k : ℕ) → l.task ≤ k → k < length l.fn.self → get_or l.self-inside.slots.items k no_slot ≡ get_or l.fn.self k no_slot;
}
