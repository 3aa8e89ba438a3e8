use Rattle.std.proofs.Common.{◌∙◌, arith}
use Rattle.qc_search.proofs.OrderLemmas.{all_gone, ordered_complete, unstuck}
use Rattle.qc_search.proofs.given.tighten.Goals as goal

pub prove-unreachable-requires : goal.prove-unreachable-requires
prove-unreachable-requires c =
    let same = c.order_all.ensures.inst ∙ c.assign_all.ensures.inst in
    let agrees = rw c.assign_all.ensures.inst at c.order_all.ensures.agrees in
    unstuck c.args.starts.now.inst c.order_all.new.starts.decisions c.args.sched.now c.requires.goes agrees
    c.stuck-stuck.result (rw same at c.stuck-stuck.ensures.none) c.if-prove.true

pub returns-clause-tightened : goal.returns-clause-tightened
returns-clause-tightened c =
    let inst = c.args.starts.now.inst in
    let ds = c.order_all.new.starts.decisions in
    let same = c.order_all.ensures.inst ∙ c.assign_all.ensures.inst in
    let ordered = rw c.assign_all.ensures.inst at c.order_all.ensures in
    let stands = rw same at c.stuck-stuck.ensures in
    let end = rw same at c.ends-end.ensures.end in
    record {
      decisions = ds;
      agrees = ordered.agrees;
      fits = stands.fits;
      ordered = ordered.ordered;
      complete = ordered_complete inst ordered.valid ds c.args.sched.now ordered.assigned ordered.agrees end.starts stands.fits
          stands.in_reach ordered.ordered end.least;
      in_reach = stands.in_reach;
      begins = end.starts;
      least = end.least;
      is = (rw same at c.keep.ensures) end.starts end.least;
      ends = end.ends;
      soon = omega (arith, c.ends-end.ensures.bound);
    }

pub returns-clause-root : goal.returns-clause-root
returns-clause-root c = c.retract.ensures.decisions ∙ all_gone c.order_all.new.starts.decisions
