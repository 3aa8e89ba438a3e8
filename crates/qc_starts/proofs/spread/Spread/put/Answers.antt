use Rattle.std.proofs.Common.{true, false, ap, sym, subst, ◌∙◌, arith, slice_set}
use Rattle.std.proofs.lemmas.List.{get_or_default, set-get_or}
use Rattle.std.proofs.Math.ListN.{length-set}
use Rattle.qc_starts.specs.Queue.{AreListed}
use Rattle.qc_starts.proofs.NotingLemmas.{marks_below}
use Rattle.qc_starts.proofs.QueueLemmas.{listed_more}
use Rattle.qc_starts.proofs.spread.Spread.put.Goals as goal

pub push_reserved-requires : goal.push_reserved-requires
push_reserved-requires c =
    let p = c.args.self.now.pending.items in
    let free = get_or_default p c.args.task true c.index.result.now c.requires.task ∙ sym c.index.ensures ∙ c.if-index.false in
    let is = c.requires.queued in
    omega (arith, is.listed.count, is.room, marks_below p c.args.task c.requires.task free)

pub returns-then-index-clause-pending : goal.returns-then-index-clause-pending
returns-then-index-clause-pending c =
    let p = c.args.self.now.pending.items in
    let on = get_or_default p c.args.task false c.index.result.now c.requires.task ∙ sym c.index.ensures ∙ c.if-index.true in
    sym (sym (ap (slice_set p c.args.task) on) ∙ set-get_or p c.args.task false)

pub returns-clause-queued : goal.returns-clause-queued
returns-clause-queued c =
    let p = c.args.self.now.pending.items in
    let free = get_or_default p c.args.task false c.index.result.now c.requires.task ∙ sym c.index.ensures ∙ c.if-index.false in
    let is = c.requires.queued in
    record {
      listed = subst (AreListed (slice_set p c.args.task true)) (sym c.push_reserved.ensures.items)
          (listed_more p c.args.self.now.queue.items is.listed c.args.task c.requires.task free);
      room = omega (arith, is.room, length-set p c.args.task true, c.push_reserved.ensures.capacity);
    }
