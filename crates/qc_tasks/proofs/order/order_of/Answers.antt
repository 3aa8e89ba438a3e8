use Rattle.std.proofs.Common.{◌≡◌, ◌∙◌, List, length, false, sym, subst}
use Rattle.qc_model.specs.declared.pair.Pair.{Pair}
use Rattle.qc_model.specs.Instance.{IsPath}
use Rattle.qc_tasks.specs.InstanceOf.{before_of, tasks_of}
use Rattle.qc_tasks.specs.Rings.{has_ring}
use Rattle.qc_tasks.proofs.OrderLemmas.{below_most, low_first, none_due}
use Rattle.qc_tasks.proofs.RingLemmas.{no_path}
use Rattle.qc_tasks.proofs.TaskFacts.{few_tasks, share_no_move, share_no_name}
use Rattle.qc_tasks.proofs.order.order_of.Goals as goal

pub before_of-requires-clause-count : goal.before_of-requires-clause-count
before_of-requires-clause-count c = rw c.requires.tasks (few_tasks c.args.ship.now c.ordered.ensures.ship c.args.rows.now)

pub before_of-requires-clause-tasks : goal.before_of-requires-clause-tasks
before_of-requires-clause-tasks c = rw c.requires.tasks (share_no_move c.args.ship.now c.ordered.ensures.ship c.args.rows.now)

pub before_of-requires-clause-names : goal.before_of-requires-clause-names
before_of-requires-clause-names c = rw c.requires.tasks (share_no_name c.args.ship.now c.ordered.ensures.ship c.args.rows.now)

pub has_ring-requires-clause-pairs : goal.has_ring-requires-clause-pairs
has_ring-requires-clause-pairs c =
    let pairs = rw (c.ordered.ensures.ordered, c.before-2.ensures.before, c.requires.tasks) at c.in_ok-before.ensures in
    rw (c.as_slice.ensures.value, pairs) (below_most c.args.ship.now c.args.rows.now c.ordered.ensures.ship c.args.ship.now.before)

pub has_ring-requires-clause-count : goal.has_ring-requires-clause-count
has_ring-requires-clause-count c = rw c.requires.tasks (few_tasks c.args.ship.now c.ordered.ensures.ship c.args.rows.now)

pub returns-then-not-has_ring-clause-order : goal.returns-then-not-has_ring-clause-order
returns-then-not-has_ring-clause-order c =
    let ship = c.args.ship.now in
    let rows = c.args.rows.now in
    let is : c.in_ok-before.before.items ≡ before_of ship.ordered ship.before rows (tasks_of ship rows) =
    rw (c.ordered.ensures.ordered, c.before-2.ensures.before, c.requires.tasks) at c.in_ok-before.ensures in
    let tested = rw (c.as_slice.ensures.value, is, c.requires.tasks) at c.has_ring.ensures in
    let none : has_ring (length (tasks_of ship rows)) (before_of ship.ordered ship.before rows (tasks_of ship rows)) ≡ false = sym tested ∙ c.if-not-has_ring.true in
    record {
      is = is;
      due = none_due ship rows none;
      ringless = λ i via path. no_path (length (tasks_of ship rows)) (before_of ship.ordered ship.before rows (tasks_of ship rows)) (low_first ship rows ship.before) none i via
          (subst (λ (ps : List Pair). IsPath ps i via i) is path);
    }
