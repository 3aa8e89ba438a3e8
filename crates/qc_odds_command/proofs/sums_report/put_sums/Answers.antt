use Rattle.qc_io.proofs.WritesLemmas.{writes_then}
use Rattle.qc_odds_command.proofs.sums_report.put_sums.Goals as goal

pub returns : goal.returns
returns g c =
    writes_then (g.K.Sink.view c.args.sink.now) (g.K.Sink.view c.put_cranes.new.sink) (g.K.Sink.view c.put_watched.new.sink) _ _ c.put_watched.result
    c.in_ok-put_cranes.ensures c.put_watched.ensures
