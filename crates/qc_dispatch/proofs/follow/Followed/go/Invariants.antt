use Rattle.qc_dispatch.specs.Course.{left}
use Rattle.qc_dispatch.specs.Following.{journal_of}
use Rattle.qc_dispatch.proofs.LogLemmas.{IsOnWay}
use Rattle.qc_dispatch.proofs.follow.Followed.go.Given as goal

abbrev pub invariant-loop-grant : goal.invariant-loop-grant
invariant-loop-grant l = IsOnWay (journal_of l.initial.self) l.to (journal_of l.self)

abbrev pub decreases-loop-grant : goal.decreases-loop-grant
decreases-loop-grant l = left l.self.dispatch
