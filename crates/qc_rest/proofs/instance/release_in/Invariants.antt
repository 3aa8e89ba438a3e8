use Rattle.std.proofs.Common.{◌≡◌, map}
use Rattle.std.specs.List.{range_with_len}
use Rattle.qc_dispatch.specs.Following.{journal_of}
use Rattle.qc_model.specs.Nodes.{greatest}
use Rattle.qc_rest.specs.Remaining.{over_at}
use Rattle.qc_rest.specs.RestOf.{held_by}
use Rattle.qc_rest.proofs.instance.release_in.Given as goal

abbrev pub invariant-loop-i : goal.invariant-loop-i
invariant-loop-i l = l.held ≡ greatest (map (held_by l.journal.dispatch (over_at (journal_of l.journal)) l.j) (range_with_len 0 l.i))
