use Rattle.std.proofs.Common.{◌+◌, ◌-◌, ◌/◌, sym, ◌∙◌, arith}
use Rattle.qc_close.proofs.ShortLemmas.{short_after}
use Rattle.qc_close.proofs.count.Count.last_short.Goals as goal

pub halving-preserved : goal.halving-preserved
halving-preserved c = record {
  order = omega (arith, c.halving.invariant.order, c.halving-test.true);
  within = omega (arith, c.halving.invariant.order, c.halving.invariant.within);
  passes = c.halving.invariant.passes;
  others = λ end after within.
      short_after c.args.self.now.travel c.args.self.now.frames.now c.args.self.now.left.now c.args.self.now.step
      (c.halving.low + (c.halving.high - c.halving.low) / 2) end c.args.self.now.some after
      (sym c.is_short.ensures ∙ c.if-is_short.false);
}

pub returns : goal.returns
returns c = record {
  within = omega (arith, c.halving.invariant.order, c.halving.invariant.within);
  passes = c.halving.invariant.passes;
  others = λ end after within.
      c.halving.invariant.others end (omega (arith, c.halving-test.false, after)) within;
}
