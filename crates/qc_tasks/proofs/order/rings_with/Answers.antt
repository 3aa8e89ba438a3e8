use Rattle.qc_tasks.proofs.OrderLemmas.{below_most}
use Rattle.qc_tasks.proofs.TaskFacts.{few_tasks, share_no_move, share_no_name}
use Rattle.qc_tasks.proofs.order.rings_with.Goals as goal

pub before_of-requires-clause-count : goal.before_of-requires-clause-count
before_of-requires-clause-count c = rw c.requires.tasks (few_tasks c.args.ship.now c.ordered.ensures.ship c.args.rows.now)

pub before_of-requires-clause-tasks : goal.before_of-requires-clause-tasks
before_of-requires-clause-tasks c = rw c.requires.tasks (share_no_move c.args.ship.now c.ordered.ensures.ship c.args.rows.now)

pub before_of-requires-clause-names : goal.before_of-requires-clause-names
before_of-requires-clause-names c = rw c.requires.tasks (share_no_name c.args.ship.now c.ordered.ensures.ship c.args.rows.now)

pub has_ring-requires-clause-pairs : goal.has_ring-requires-clause-pairs
has_ring-requires-clause-pairs c =
    let pairs = rw (c.ordered.ensures.ordered, c.requires.tasks) at c.in_ok-before.ensures in
    rw (c.as_slice.ensures.value, pairs) (below_most c.args.ship.now c.args.rows.now c.ordered.ensures.ship c.args.entries.now)

pub has_ring-requires-clause-count : goal.has_ring-requires-clause-count
has_ring-requires-clause-count c = rw c.requires.tasks (few_tasks c.args.ship.now c.ordered.ensures.ship c.args.rows.now)
