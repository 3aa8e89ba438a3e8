use Rattle.std.proofs.Common.{◌≡◌, ℕ, Bool, List, [], None, Option, false, refl, subst, sym, arith, slice_set}
use Rattle.std.proofs.Math.ListN.{length-set}
use Rattle.qc_starts.specs.Queue.{AreListed, IsTaken}
use Rattle.qc_starts.proofs.QueueLemmas.{listed_less, low_at, none_listed, pending_at}
use Rattle.qc_starts.proofs.spread.Spread.take_earliest.Goals as goal

none_taken : (p : List Bool) (q : List ℕ) (result : Option ℕ) → AreListed p q → q ≡ [] → result ≡ None → IsTaken p p result
none_taken p q result is empty none = subst (IsTaken p p) (sym none) (refl, none_listed p q is empty)

pub returns-in_err-next-clause-taken : goal.returns-in_err-next-clause-taken
returns-in_err-next-clause-taken c =
    none_taken c.args.self.now.pending.items c.args.self.now.queue.items _ c.requires.listed c.in_err-next.ensures c.from_residual.ensures

pub index_mut-requires : goal.index_mut-requires
index_mut-requires c =
    let low = low_at c.args.self.now.pending.items c.args.self.now.queue.items c.requires.listed _
    c.swap_remove-task.result c.in_ok-next.ensures c.swap_remove-task.ensures.value in
    omega (arith, low)

pub returns-clause-queued : goal.returns-clause-queued
returns-clause-queued c =
    let p = c.args.self.now.pending.items in
    let t = c.swap_remove-task.result in
    record {
      listed = subst (AreListed (slice_set p t false)) (sym c.swap_remove-task.ensures.items)
          (listed_less p c.args.self.now.queue.items c.requires.listed _ t c.in_ok-next.ensures
          c.swap_remove-task.ensures.value);
      room = omega (arith, c.requires.room, length-set p t false, c.swap_remove-task.ensures.capacity);
    }

pub returns-clause-taken : goal.returns-clause-taken
returns-clause-taken c =
    let p = c.args.self.now.pending.items in
    let q = c.args.self.now.queue.items in
    let t = c.swap_remove-task.result in (
      low_at p q c.requires.listed _ t c.in_ok-next.ensures c.swap_remove-task.ensures.value,
      pending_at p q c.requires.listed _ t c.in_ok-next.ensures c.swap_remove-task.ensures.value,
      refl,
    )
