use Rattle.qc_run.proofs.RuleLemmas.{rule_broken}
use Rattle.qc_run.proofs.rules.broken_rule.Goals as goal

pub returns-else-eq-clause-broken : goal.returns-else-eq-clause-broken
returns-else-eq-clause-broken c =
    rule_broken c.args.inst.now c.args.sched.now c.in-Some.broken c.in-Some.ensures.first (λ same. let differs = rw (same) at c.if-eq.ensures in cc differs)
