use Rattle.std.proofs.Common.{◌≡◌, map}
use Rattle.std.specs.List.{range_with_len}
use Rattle.qc_watch.specs.Log.{told_of}
use Rattle.qc_watch.proofs.reader.Log.lists.Given as goal

-- the lists of the cranes so far
abbrev pub invariant-loop-crane : goal.invariant-loop-crane
invariant-loop-crane l = map (λ list. list.items) l.lists.items ≡ map (told_of l.self) (range_with_len 0 l.crane)
