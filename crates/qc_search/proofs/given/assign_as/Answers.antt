use Rattle.qc_search.proofs.OrderLemmas.{has_starts_of, reached_of}
use Rattle.qc_search.proofs.given.assign_as.Goals as goal

pub go-requires-clause-starts : goal.go-requires-clause-starts
go-requires-clause-starts c =
    has_starts_of c.args.starts.now.inst c.args.starts.now.decisions c.args.sched.now c.requires.goes c.requires.agrees

pub go-requires-clause-reached : goal.go-requires-clause-reached
go-requires-clause-reached c =
    rw c.slots.ensures (reached_of c.args.starts.now.inst c.args.sched.now c.args.task c.requires.goes c.requires.task)
