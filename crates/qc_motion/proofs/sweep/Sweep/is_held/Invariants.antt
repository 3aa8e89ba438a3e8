use Rattle.std.proofs.Common.{◌≡◌, ℕ, ◌<◌}
use Rattle.qc_motion.specs.Sweep.{HoldsAt, floor_place}
use Rattle.qc_motion.proofs.sweep.Sweep.is_held.Given as goal

abbrev pub invariant-loop-task : goal.invariant-loop-task
invariant-loop-task l = ((i : ℕ) → i < l.task → ¬ HoldsAt l.self l.at l.place i) ×
    (¬ (floor_place l.self ≡ l.place))
