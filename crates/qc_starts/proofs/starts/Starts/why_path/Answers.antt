use Rattle.qc_starts.proofs.KeptLemmas.{backed_kept, no_why_kept, rises_kept, soon_kept, why_kept}
use Rattle.qc_starts.proofs.starts.Starts.why_path.Goals as goal

pub latest-requires-clause-soon : goal.latest-requires-clause-soon
latest-requires-clause-soon c = soon_kept c.self.inside _ c.self.invariant c.self.view_is c.requires.starts

pub chain_to-requires-clause-backed : goal.chain_to-requires-clause-backed
chain_to-requires-clause-backed c = backed_kept c.self.inside _ c.self.invariant c.self.view_is c.task_count.result c.task_count.ensures.count

pub chain_to-requires-clause-rising : goal.chain_to-requires-clause-rising
chain_to-requires-clause-rising c = rises_kept c.self.inside _ c.self.invariant c.self.view_is c.requires.starts c.task_count.result c.task_count.ensures.count

pub returns-in-None-clause-why : goal.returns-in-None-clause-why
returns-in-None-clause-why c =
    no_why_kept c.self.inside _ c.self.invariant c.self.view_is c.requires.starts c.latest.result.task c.in-None.is c.latest.ensures.latest
    c.clear.new.self.items c.clear.ensures.items

pub returns-in-Some-clause-why : goal.returns-in-Some-clause-why
returns-in-Some-clause-why c =
    (why_kept c.self.inside _ c.self.invariant c.self.view_is c.requires.starts c.latest.result.task c.in-Some.last c.in-Some.is
    c.latest.ensures.latest c.task_count.result c.task_count.ensures.count c.chain_to.new.path.items c.chain_to.ensures.chain).0

pub returns-in-Some-clause-count : goal.returns-in-Some-clause-count
returns-in-Some-clause-count c =
    (why_kept c.self.inside _ c.self.invariant c.self.view_is c.requires.starts c.latest.result.task c.in-Some.last c.in-Some.is
    c.latest.ensures.latest c.task_count.result c.task_count.ensures.count c.chain_to.new.path.items c.chain_to.ensures.chain).1
