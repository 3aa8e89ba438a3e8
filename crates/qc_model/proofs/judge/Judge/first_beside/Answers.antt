use Rattle.std.proofs.Common.{sym, ◌∙◌, arith}
use Rattle.std.proofs.lemmas.Bool.{true≢false}
use Rattle.qc_model.proofs.judge.Judge.first_beside.Goals as goal

pub returns-then-not-keeps : goal.returns-then-not-keeps
returns-then-not-keeps c = record {
  judged = c.is_judged_at.ensures.0 c.if-is_judged_at.true;
  range = omega (arith, c.tasks-second-end.ensures);
  fails = λ k. true≢false (sym (c.keeps.ensures.1 k) ∙ c.if-not-keeps.true);
  first = c.loop-second.invariant;
}
