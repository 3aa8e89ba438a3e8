use Rattle.std.proofs.Common.{arith}
use Rattle.qc_starts.proofs.KeptLemmas.{backed_kept, endless_kept, ring_kept, root_kept}
use Rattle.qc_starts.proofs.starts.Starts.cycle.Goals as goal

pub ring_behind-requires-clause-backed : goal.ring_behind-requires-clause-backed
ring_behind-requires-clause-backed c = backed_kept c.self.inside _ c.self.invariant c.self.view_is c.task_count.result c.task_count.ensures.count

pub ring_behind-requires-clause-task : goal.ring_behind-requires-clause-task
ring_behind-requires-clause-task c =
    omega (arith, root_kept c.self.inside _ c.self.invariant c.self.view_is c.requires.stuck, c.task_count.ensures.count)

pub ring_behind-requires-clause-endless : goal.ring_behind-requires-clause-endless
ring_behind-requires-clause-endless c =
    endless_kept c.self.inside _ c.self.invariant c.self.view_is c.requires.stuck c.task_count.result c.task_count.ensures.count

pub returns-clause-ring : goal.returns-clause-ring
returns-clause-ring c =
    (ring_kept c.self.inside _ c.self.invariant c.self.view_is c.task_count.result c.task_count.ensures.count c.ring_behind.new.path.items
    c.ring_behind.ensures.ring).0

pub returns-clause-count : goal.returns-clause-count
returns-clause-count c =
    (ring_kept c.self.inside _ c.self.invariant c.self.view_is c.task_count.result c.task_count.ensures.count c.ring_behind.new.path.items
    c.ring_behind.ensures.ring).1
