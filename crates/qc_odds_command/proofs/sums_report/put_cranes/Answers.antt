use Rattle.std.proofs.Common.{◌≡◌, ℕ, List, length, get_or, Ok, ap, sym, subst, ◌∙◌, ◌<◌, arith}
use Rattle.std.proofs.lemmas.List.{take_all}
use Rattle.std.proofs.lemmas.List.FromFn.{get_or-range_with_len, length-range_with_len}
use Rattle.std.specs.List.{flat_map, range_with_len}
use Rattle.qc_io.specs.Writes.{Writes}
use Rattle.qc_io.proofs.WritesLemmas.{items_cut, items_more}
use Rattle.qc_odds_command.specs.Texts.{crane_line}
use Rattle.qc_odds_command.proofs.sums_report.put_cranes.Goals as goal

pub loop-crane-preserved : goal.loop-crane-preserved
loop-crane-preserved g c =
    let n = length c.args.inst.now.cranes in
    let k = c.loop-crane.crane in
    let line = crane_line c.args.inst.now (length c.args.odds.now.tally.ends) c.args.odds.now.cranes.items in
    let low : k < n = omega (arith, c.loop-crane-test.true, c.crane_count-crane-end.ensures.count) in
    let at : get_or (range_with_len 0 n) k 0 ≡ k = omega (arith, get_or-range_with_len 0 n k 0 low) in
    items_more line (range_with_len 0 n) k 0
    (g.K.Sink.view c.args.sink.now) (g.K.Sink.view c.loop-crane.sink) (g.K.Sink.view c.put_all.new.sink) c.as_bytes.result.now
    (omega (arith, low, length-range_with_len 0 n))
    (c.as_bytes.ensures.bytes ∙ c.crane_line.ensures ∙ ap line (sym at))
    c.loop-crane.invariant c.in_ok-put_all.ensures.writes

pub returns-in_err-put_all : goal.returns-in_err-put_all
returns-in_err-put_all g c =
    let n = length c.args.inst.now.cranes in
    let k = c.loop-crane.crane in
    let line = crane_line c.args.inst.now (length c.args.odds.now.tally.ends) c.args.odds.now.cranes.items in
    let low : k < n = omega (arith, c.loop-crane-test.true, c.crane_count-crane-end.ensures.count) in
    let at : get_or (range_with_len 0 n) k 0 ≡ k = omega (arith, get_or-range_with_len 0 n k 0 low) in
    items_cut line (range_with_len 0 n) k 0
    (g.K.Sink.view c.args.sink.now) (g.K.Sink.view c.loop-crane.sink) (g.K.Sink.view c.put_all.new.sink) c.as_bytes.result.now _ c.from_residual.result c.from_residual.ensures.0
    (omega (arith, low, length-range_with_len 0 n))
    (c.as_bytes.ensures.bytes ∙ c.crane_line.ensures ∙ ap line (sym at))
    c.loop-crane.invariant c.in_err-put_all.ensures.writes

pub returns : goal.returns
returns g c =
    let n = length c.args.inst.now.cranes in
    subst (λ (ks : List ℕ). Writes (g.K.Sink.view c.args.sink.now) (g.K.Sink.view c.loop-crane.sink)
    (flat_map (crane_line c.args.inst.now (length c.args.odds.now.tally.ends) c.args.odds.now.cranes.items) ks) (Ok tt))
    (take_all c.loop-crane.crane (range_with_len 0 n)
    (omega (arith, c.loop-crane-test.false, c.crane_count-crane-end.ensures.count, length-range_with_len 0 n)))
    c.loop-crane.invariant
