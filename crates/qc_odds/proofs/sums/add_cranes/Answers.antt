use Rattle.std.proofs.Common.{◌≡◌, ◌+◌, ◌<◌, ap, length, get_or, subst, sym, arith}
use Rattle.qc_model.specs.Instance.{InstanceView}
use Rattle.qc_odds.specs.Added.{crane_added}
use Rattle.qc_odds.specs.Small.{IsSmallCrane}
use Rattle.qc_odds.specs.Sums.{no_crane_sum}
use Rattle.qc_odds.proofs.AddLemmas.{crane_new, next_changed, set_keeps, small_crane_more}
use Rattle.qc_odds.proofs.sums.add_cranes.Goals as goal

pub loop-crane-preserved : goal.loop-crane-preserved
loop-crane-preserved c =
    let inst = c.args.course.now.inst in
    let plan = c.args.course.now.plan in
    let lengths = c.args.lengths.now in
    let starts = c.args.course.now.starts in
    let k = c.loop-crane.crane in
    let now = c.loop-crane.sums in
    let same : length c.instance.result.now.cranes ≡ length inst.cranes = ap (λ (x : InstanceView). length x.cranes) c.instance.ensures in
    let inside : k < length c.args.sums.now = omega (arith, c.loop-crane-test.true, c.crane_count-crane-end.ensures.count, same, c.requires.count) in
    record {
      changed = next_changed (crane_added inst plan lengths starts c.args.last) no_crane_sum c.args.sums.now k now c.with.result inside c.loop-crane.invariant.changed
          (crane_new inst plan lengths starts c.args.last k c.crane_end-end.result c.held-held.result (get_or now k no_crane_sum) c.with.result
          c.crane_end-end.ensures.ticks c.held-held.ensures.ticks c.with.ensures);
      small = λ runs all. set_keeps (IsSmallCrane (runs + 1)) no_crane_sum now k c.with.result (omega (arith, inside, c.loop-crane.invariant.changed.count))
          (c.loop-crane.invariant.small runs all)
          (small_crane_more runs c.crane_end-end.result c.held-held.result (get_or now k no_crane_sum) c.with.result _
          (subst (IsSmallCrane runs) (sym (c.loop-crane.invariant.changed.left k (omega arith))) (all k inside)) c.crane_end-end.ensures.bound
          c.held-held.ensures.bound c.with.ensures);
    }

pub returns-clause-small : goal.returns-clause-small
returns-clause-small c = λ runs all k low.
    let same : length c.instance.result.now.cranes ≡ length c.args.course.now.inst.cranes =
    ap (λ (x : InstanceView). length x.cranes) c.instance.ensures in
    c.loop-crane.invariant.small runs all k (omega (
      arith,
      low,
      c.loop-crane-test.false,
      c.crane_count-crane-end.ensures.count,
      same,
      c.requires.count,
      c.loop-crane.invariant.changed.count,
    ))
