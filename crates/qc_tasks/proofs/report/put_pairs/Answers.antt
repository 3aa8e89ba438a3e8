use Rattle.std.proofs.Common.{◌<◌, ◌∙◌, length, get_or, arith, rules}
use Rattle.std.proofs.lemmas.List.Elements.{Contains-get_or}
use Rattle.qc_io.proofs.WritesLemmas.{items_cut, items_more}
use Rattle.qc_model.specs.Instance.{pair_of}
use Rattle.qc_tasks.specs.TasksText.{pair_line}
use Rattle.qc_tasks.proofs.report.put_pairs.Goals as goal

pub pair_line-requires-clause-first : goal.pair_line-requires-clause-first
pair_line-requires-clause-first g c =
    let lt : c.loop-pair.pair-index < length c.args.pairs.now = omega arith in
    let pair = get_or c.args.pairs.now c.loop-pair.pair-index (pair_of 0 0) in
    (c.requires.tasks pair.first pair.second (Contains-get_or c.args.pairs.now c.loop-pair.pair-index (pair_of 0 0) lt)).0

pub pair_line-requires-clause-second : goal.pair_line-requires-clause-second
pair_line-requires-clause-second g c =
    let lt : c.loop-pair.pair-index < length c.args.pairs.now = omega arith in
    let pair = get_or c.args.pairs.now c.loop-pair.pair-index (pair_of 0 0) in
    (c.requires.tasks pair.first pair.second (Contains-get_or c.args.pairs.now c.loop-pair.pair-index (pair_of 0 0) lt)).1

pub returns-in_err-put_all : goal.returns-in_err-put_all
returns-in_err-put_all g c =
    items_cut (pair_line c.args.inst.now c.args.title.now) c.args.pairs.now c.loop-pair.pair-index (pair_of 0 0) (g.K.Sink.view c.args.sink.now) (g.K.Sink.view c.loop-pair.sink) (g.K.Sink.view c.put_all.new.sink) _
    _ c.from_residual.result (search rules) (omega arith) (c.as_bytes.ensures.bytes ∙ c.pair_line.ensures) c.loop-pair.invariant c.in_err-put_all.ensures.writes

pub loop-pair-preserved : goal.loop-pair-preserved
loop-pair-preserved g c =
    items_more (pair_line c.args.inst.now c.args.title.now) c.args.pairs.now c.loop-pair.pair-index (pair_of 0 0) (g.K.Sink.view c.args.sink.now) (g.K.Sink.view c.loop-pair.sink) (g.K.Sink.view c.put_all.new.sink) _
    (omega arith) (c.as_bytes.ensures.bytes ∙ c.pair_line.ensures) c.loop-pair.invariant c.in_ok-put_all.ensures.writes
