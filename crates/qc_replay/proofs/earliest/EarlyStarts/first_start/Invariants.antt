use Rattle.std.proofs.Common.{◌≡◌, ℕ, ◌<◌, ◌≤◌, List, IfSome, map, take}
use Rattle.qc_close.specs.Model.{AreLeast, most_start}
use Rattle.qc_replay.specs.Earliest.{start_in}
use Rattle.qc_replay.proofs.EarlyFacts.{HasLeast}
use Rattle.qc_model.proofs.Extremes.{least_option}
use Rattle.qc_replay.proofs.earliest.EarlyStarts.first_start.Given as goal

abbrev pub invariant-loop-task : goal.invariant-loop-task
invariant-loop-task l = record {
  so_far : (starts : List ℕ) → AreLeast l.self.starts.inst l.self.starts.decisions starts
      → l.least ≡ least_option (map (start_in starts) (take l.task-index l.tasks));
  known : 0 < l.task-index → HasLeast l.self.starts.inst l.self.starts.decisions;
  bound : IfSome l.least (λ tick. tick ≤ most_start);
}
