use Rattle.std.proofs.Common.{◌≡◌, ◌*◌, ◌-◌, ap, arith}
use Rattle.qc_watch.proofs.Computed.{line_is, start_is, sum_fits, sum_is, way_is}
use Rattle.qc_watch.proofs.place.on_line.Goals as goal

pub overflow_add-result : goal.overflow_add-result
overflow_add-result c =
    sum_fits c.bays_over-start.result c.bays_over-way.result c.bays_over-start.ensures.small c.bays_over-way.ensures.small

pub returns-clause-place : goal.returns-clause-place
returns-clause-place c =
    let r = c.args.from in
    let s = c.args.to in
    let start = start_is c.bays_over-start.result c.from.result r.place (s.at - r.at) c.bays_over-start.ensures.product c.from.ensures c.requires.first.place in
    let way = way_is c.bays_over-way.result c.from-3.result c.from-2.result r.place s.place (c.args.tick - r.at) c.bays_over-way.ensures.product c.from-3.ensures c.from-2.ensures c.requires.first.place c.requires.second.place in
    let sum = sum_is c.bays_over-start.result c.bays_over-way.result c.bays_over-start.ensures.small c.bays_over-way.ensures.small in
    let same : c.args.tick - r.at ≡ c.args.tick - 1 * r.at = omega arith in
    ap (λ z. record { above = z; below = s.at - r.at })
    (line_is c.bays_over-start.result c.bays_over-way.result _ r.place s.place (s.at - r.at) (c.args.tick - r.at) (c.args.tick - 1 * r.at) start way same sum)
