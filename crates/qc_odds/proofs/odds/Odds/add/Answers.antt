use Rattle.std.proofs.Common.{length, arith}
use Rattle.qc_odds.proofs.AddLemmas.{adds_run}
use Rattle.qc_odds.proofs.odds.Odds.add.Goals as goal

pub add_cranes-requires-clause-small : goal.add_cranes-requires-clause-small
add_cranes-requires-clause-small c =
    (length c.args.self.now.tally.ends, (omega (arith, c.requires.room.ends, c.requires.room.few), rw c.as_mut_slice.ensures.value c.requires.room.small_cranes))

pub add_tasks-requires-clause-small : goal.add_tasks-requires-clause-small
add_tasks-requires-clause-small c =
    (length c.args.self.now.tally.ends, (omega (arith, c.requires.room.ends, c.requires.room.few), rw c.as_mut_slice-2.ensures.value c.requires.room.small_tasks))

pub returns : goal.returns
returns c =
    adds_run c.args.course.now.inst c.args.course.now.plan c.args.lengths.now c.args.course.now.starts c.args.last c.args.marked.now c.args.self.now
    c.add.new.self c.as_mut_slice.result.now c.add_cranes.new.sums c.as_mut_slice-2.result.now c.add_tasks.new.sums c.as_mut_slice.ensures.value
    c.as_mut_slice-2.ensures.value c.add_cranes.auto.sums c.add_tasks.auto.sums c.add.ensures.ends c.add.ensures.room c.add_cranes.ensures.each
    (rw c.instance.ensures at c.add_tasks.ensures.each) c.add_cranes.ensures.small c.add_tasks.ensures.small
