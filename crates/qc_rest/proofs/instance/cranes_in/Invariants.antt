use Rattle.std.proofs.Common.{◌≡◌, map}
use Rattle.std.specs.List.{range_with_len}
use Rattle.qc_rest.specs.Limits.{place_at}
use Rattle.qc_rest.specs.RestOf.{crane_in}
use Rattle.qc_rest.proofs.instance.cranes_in.Given as goal

abbrev pub invariant-loop-k : goal.invariant-loop-k
invariant-loop-k l = l.cranes.items ≡ map (crane_in l.journal.dispatch l.stands (place_at l.places)) (range_with_len 0 l.k)
