use Rattle.std.proofs.Common.{length}
use Rattle.qc_lines.specs.Lines.{lines_of}
use Rattle.qc_dispatch.specs.Following.{journal_of}
use Rattle.qc_dispatch.proofs.LogLemmas.{AreOnWay}
use Rattle.qc_dispatch.proofs.follow.Followed.take_all.Given as goal

abbrev pub invariant-loop-rest : goal.invariant-loop-rest
invariant-loop-rest l = AreOnWay (journal_of l.initial.self) (lines_of l.text) (journal_of l.self) l.before (lines_of l.rest)

abbrev pub decreases-loop-rest : goal.decreases-loop-rest
decreases-loop-rest l = length l.rest
