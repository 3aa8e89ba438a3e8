use Rattle.std.proofs.Common.{List, subst, arith, rules, Contains}
use Rattle.qc_io.proofs.WritesLemmas.{writes_cut, writes_then}
use Rattle.qc_model.specs.declared.pair.Pair.{Pair}
use Rattle.qc_model.specs.Instance.{pair_of}
use Rattle.qc_tasks.proofs.report.put_rules.Goals as goal
use Rattle.qc_model.proofs.NodeLemmas.{pair_listed}

pub put_pairs-requires-clause-tasks : goal.put_pairs-requires-clause-tasks
put_pairs-requires-clause-tasks g c = λ i j listed.
    c.before-2.ensures.valid.before.range i j (subst (λ (pairs : List Pair). Contains pairs (pair_of i j)) c.before-2.ensures.before listed)

pub put_pairs-requires-2-clause-tasks : goal.put_pairs-requires-2-clause-tasks
put_pairs-requires-2-clause-tasks g c = λ i j listed.
    let there = subst (λ (pairs : List Pair). Contains pairs (pair_of i j)) c.apart.ensures.apart listed in
    let range = c.apart.ensures.valid.apart.range i j (pair_listed i j _ there) in
    (omega (arith, range.0, range.1), range.1)

pub returns-in_err-put_pairs : goal.returns-in_err-put_pairs
returns-in_err-put_pairs g c =
    writes_cut (g.K.Sink.view c.args.sink.now) (g.K.Sink.view c.put_pairs.new.sink) _ _ _ c.from_residual.result (search rules)
    (rw c.before-2.ensures.before at c.in_err-put_pairs.ensures)

pub returns-in_err-put_pairs-2 : goal.returns-in_err-put_pairs-2
returns-in_err-put_pairs-2 g c =
    writes_then (g.K.Sink.view c.args.sink.now) (g.K.Sink.view c.put_pairs.new.sink) (g.K.Sink.view c.put_pairs-2.new.sink) _ _ c.from_residual-in_err-put_pairs-2.result
    (rw c.before-2.ensures.before at c.in_ok-put_pairs.ensures)
    (writes_cut (g.K.Sink.view c.put_pairs.new.sink) (g.K.Sink.view c.put_pairs-2.new.sink) _ _ _ c.from_residual-in_err-put_pairs-2.result (search rules)
    (rw c.apart.ensures.apart at c.in_err-put_pairs-2.ensures))

pub returns : goal.returns
returns g c =
    writes_then (g.K.Sink.view c.args.sink.now) (g.K.Sink.view c.put_pairs.new.sink) (g.K.Sink.view c.put_last.new.sink) _ _ c.put_last.result
    (rw c.before-2.ensures.before at c.in_ok-put_pairs.ensures)
    (writes_then (g.K.Sink.view c.put_pairs.new.sink) (g.K.Sink.view c.put_pairs-2.new.sink) (g.K.Sink.view c.put_last.new.sink) _ _ c.put_last.result
    (rw c.apart.ensures.apart at c.in_ok-put_pairs-2.ensures) c.put_last.ensures)
