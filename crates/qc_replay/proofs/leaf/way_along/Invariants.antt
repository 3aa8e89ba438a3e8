use Rattle.std.proofs.Common.{◌≡◌, ◌+◌, ◌*◌, ◌<◌, ◌≤◌, ◌++◌, ℕ, List, drop, length, option_map}
use Rattle.qc_close.specs.Model.{most_distance, most_work, chain_ticks}
use Rattle.qc_replay.specs.Walk.{from_file}
use Rattle.qc_replay.proofs.leaf.way_along.Given as goal

abbrev pub invariant-loop-number : goal.invariant-loop-number
invariant-loop-number l = record {
  range : l.last < length l.node.inst.tasks;
  bound : l.ticks ≤ (most_work + most_distance) * l.number-index;
  way : (behind : List ℕ) → chain_ticks l.node.inst l.node.decisions l.first (from_file l.numbers ++ behind)
      ≡ option_map (λ rest. l.ticks + rest)
      (chain_ticks l.node.inst l.node.decisions l.last (from_file (drop l.number-index l.numbers) ++ behind));
}
