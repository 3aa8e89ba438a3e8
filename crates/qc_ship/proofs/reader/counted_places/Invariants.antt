use Rattle.std.proofs.Common.{◌≡◌, ◌+◌, map}
use Rattle.std.specs.List.{range_with_len}
use Rattle.qc_ship.proofs.reader.counted_places.Given as goal

abbrev pub invariant-loop-before : goal.invariant-loop-before
invariant-loop-before l = l.places.items ≡ map (λ k. k + 1) (range_with_len 0 l.before)
