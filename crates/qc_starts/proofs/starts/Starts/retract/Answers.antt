use Rattle.std.proofs.Common.{◌≡◌, ℕ, ◌+◌, ◌-◌, drop, length, length-drop, suc, refl, ap, sym, ◌∙◌, arith}
use Rattle.qc_model.specs.declared.decision.Decision.{Decision}
use Rattle.qc_starts.proofs.KeptLemmas.{drop_none}
use Rattle.qc_starts.proofs.LevelLemmas.{drop_next}
use Rattle.qc_starts.proofs.starts.Starts.retract.Goals as goal

pub loop-preserved : goal.loop-preserved
loop-preserved c =
    let is = c.loop.invariant in
    let all = c.args.self.now.decisions in
    let back = c.loop.counter - c.args.mark in
    let next : suc (c.loop.counter - c.args.mark) ≡ c.loop.counter + 1 - c.args.mark = omega arith in
    let count = ap (length {A = Decision}) c.take_back.ensures.decisions ∙ length-drop 1 c.loop.self.decisions in
    record {
      inst = c.take_back.ensures.inst ∙ is.inst;
      count = omega (arith, count);
      dropped = c.take_back.ensures.decisions ∙ ap (drop 1) is.dropped ∙ drop_next back all ∙ ap (λ (k : ℕ). drop k all) next;
    }

pub loop-init : goal.loop-init
loop-init c = record {
  inst = refl;
  count = omega (arith, c.mark-end.ensures);
  dropped = sym (drop_none c.args.mark c.args.self.now.decisions);
}
