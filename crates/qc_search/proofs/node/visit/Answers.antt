use Rattle.std.proofs.Common.{arith, subst, sym}
use Rattle.std.proofs.lemmas.Bool.{false≢true}
use Rattle.qc_close.specs.Model.{IsClosable}
use Rattle.qc_search.proofs.DescentLemmas.{has_starts, not_stuck}
use Rattle.qc_search.proofs.LeafSteps.{visits_from}
use Rattle.qc_search.proofs.node.visit.Goals as goal

pub returns-in-Some : goal.returns-in-Some
returns-in-Some g c =
    visits_from c.args.starts.now c.args.way c.args.progress.now c.put_closed.new.progress c.close.new.path
    c.put_closed.result (λ room. omega (arith, room, c.close.ensures.room)) c.put_closed.ensures

pub put_branching-requires-clause-starts : goal.put_branching-requires-clause-starts
put_branching-requires-clause-starts g c =
    let inst = c.args.starts.now.inst in
    let ds = c.args.starts.now.decisions in
    has_starts inst ds c.stuck-stuck.result c.stuck-stuck.ensures.none
    (not_stuck inst ds c.cutoff-cutoff.result c.stuck-stuck.result c.stuck-stuck.ensures.none
    (λ closable. false≢true (c.in_default.ensures.closed closable)))

pub put_branching-requires-clause-open : goal.put_branching-requires-clause-open
put_branching-requires-clause-open g c = λ closable.
    let inst = c.args.starts.now.inst in
    let ds = c.args.starts.now.decisions in
    false≢true (c.in_default.ensures.closed (subst (IsClosable inst ds) (sym c.cutoff-cutoff.ensures) closable))

pub returns-then-progress : goal.returns-then-progress
returns-then-progress g c =
    visits_from c.args.starts.now c.args.way c.args.progress.now c.put_branching.new.progress c.close.new.path
    c.put_branching.result (λ room. omega (arith, room, c.close.ensures.room)) c.put_branching.ensures

pub put_spent-requires-clause-open : goal.put_spent-requires-clause-open
put_spent-requires-clause-open g c = λ closable.
    let inst = c.args.starts.now.inst in
    let ds = c.args.starts.now.decisions in
    false≢true (c.in_default.ensures.closed (subst (IsClosable inst ds) (sym c.cutoff-cutoff.ensures) closable))

pub returns : goal.returns
returns g c =
    visits_from c.args.starts.now c.args.way c.args.progress.now c.put_spent.new.progress c.spent-leaf.new.path
    c.put_spent.result (λ room. omega (arith, room, c.close.ensures.room, c.spent-leaf.ensures.room)) c.put_spent.ensures
