use Rattle.std.proofs.Common.{sym, ◌∙◌, arith}
use Rattle.qc_close.proofs.LimitLemmas.{closed_or_none, latest_by}
use Rattle.qc_close.proofs.crew.Crew.latest_closed.Goals as goal

pub open_end-high-requires : goal.open_end-high-requires
open_end-high-requires c =
    closed_or_none c.args.self.now.inst c.args.self.now.turn c.args.self.now.cranes c.bare_end-low.result
    c.instance-inst.ensures.valid c.instance-inst.ensures.range c.bare_end-low.ensures

pub returns-clause-latest : goal.returns-clause-latest
returns-clause-latest c =
    latest_by c.args.self.now.inst c.args.self.now.turn c.args.self.now.cranes c.halving.low c.halving.high
    c.instance-inst.ensures.valid c.halving.invariant.passes c.halving.invariant.fails c.halving-test.false

pub returns-clause-soon : goal.returns-clause-soon
returns-clause-soon c =
    closed_or_none c.args.self.now.inst c.args.self.now.turn c.args.self.now.cranes c.halving.low
    c.instance-inst.ensures.valid c.instance-inst.ensures.range c.halving.invariant.passes

pub halving-init : goal.halving-init
halving-init c = record {
  order = c.open_end-high.ensures.behind;
  soon = c.open_end-high.ensures.soon;
  passes = c.bare_end-low.ensures;
  fails = c.open_end-high.ensures.open;
}

pub halving-preserved-then-is_closed_at : goal.halving-preserved-then-is_closed_at
halving-preserved-then-is_closed_at c =
    let is = c.halving.invariant in
    record {
      order = omega (arith, is.order, c.halving-test.true);
      soon = is.soon;
      passes = λ _. sym c.is_closed_at.ensures.is ∙ c.if-is_closed_at.true;
      fails = is.fails;
    }

pub halving-preserved : goal.halving-preserved
halving-preserved c =
    let is = c.halving.invariant in
    record {
      order = omega (arith, c.halving-test.true);
      soon = omega (arith, is.order, is.soon);
      passes = is.passes;
      fails = sym c.is_closed_at.ensures.is ∙ c.if-is_closed_at.false;
    }
