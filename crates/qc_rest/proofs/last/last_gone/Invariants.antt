use Rattle.std.proofs.Common.{slice_index}
use Rattle.qc_rest.specs.Lasting.{IsLastFor}
use Rattle.qc_rest.proofs.last.last_gone.Given as goal

abbrev pub invariant-loop-j : goal.invariant-loop-j
invariant-loop-j l = IsLastFor l.work (slice_index l.goes) l.j l.last
