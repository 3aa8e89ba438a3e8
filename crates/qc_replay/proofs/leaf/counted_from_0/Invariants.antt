use Rattle.std.proofs.Common.{◌≡◌, length, take}
use Rattle.qc_replay.specs.Walk.{from_file}
use Rattle.qc_replay.proofs.leaf.counted_from_0.Given as goal

abbrev pub invariant-loop-index : goal.invariant-loop-index
invariant-loop-index l = record {
  count : length l.tasks ≡ 240;
  so_far : take l.index l.tasks ≡ from_file (take l.index l.numbers);
}
