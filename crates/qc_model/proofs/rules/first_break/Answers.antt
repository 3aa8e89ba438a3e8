use Rattle.std.proofs.Common.{◌≡◌, inl, inr, slice_index_or, refl, ap, subst, ◌∙◌, arith}
use Rattle.std.proofs.lemmas.Bool.{true≢false, cases_lt}
use Rattle.qc_model.specs.declared.rules.Rule.{Rule}
use Rattle.qc_model.specs.declared.rules.Rule.TheVariants.{Reach}
use Rattle.qc_model.specs.Judge.{Goes, IsFirstBreak, rule_rank, KeepsAll}
use Rattle.qc_model.specs.Judged.{Judged}
use Rattle.qc_model.specs.Seen.{seen, seen_schedule}
use Rattle.qc_model.proofs.GoesLemmas.{goes_seen, breaks_seen, break_feasible, break_range}
use Rattle.qc_model.proofs.RuleOrder.{in_order, at_rank, rank_at, rank_below}
use Rattle.qc_model.proofs.SafeLemmas.{safe_of}
use Rattle.qc_model.proofs.rules.first_break.Goals as goal

first_is : (c : goal.In-Some) → IsFirstBreak (seen c.args.inst.now c.args.way) (seen_schedule c.args.inst.now c.args.sched.now c.args.way)
    (record { rule = slice_index_or in_order c.loop-rule.rule-index Reach; first = c.in-Some.field-0.first; second = c.in-Some.field-0.second })
first_is c = subst (λ (j : Judged). IsFirstBreak j.inst j.sched (record { rule = slice_index_or in_order c.loop-rule.rule-index Reach; first = c.in-Some.field-0.first; second = c.in-Some.field-0.second }))
    c.new-judge.ensures.view
    (record {
      rules = λ rule h.
          let e = rank_at c.loop-rule.rule-index c.loop-rule-test.true in
          c.loop-rule.invariant rule (omega arith);
      fault = rw c.in-Some.is at c.first_fault.ensures;
    })

pub returns-in-Some-clause-goes : goal.returns-in-Some-clause-goes
returns-in-Some-clause-goes c =
    let a = c.args in
    (λ e. absurd (true≢false e), λ g. absurd (breaks_seen a.inst.now a.sched.now a.way _ (first_is c) g))

pub returns-in-Some-clause-first : goal.returns-in-Some-clause-first
returns-in-Some-clause-first c = first_is c

pub returns-in-Some-clause-feasible : goal.returns-in-Some-clause-feasible
returns-in-Some-clause-feasible c =
    let a = c.args in
    break_feasible a.inst.now a.sched.now a.way c.new-judge.ensures.valid c.requires _ (first_is c)

pub loop-rule-preserved : goal.loop-rule-preserved
loop-rule-preserved c = λ rule h.
    let f = rw c.in_default.is at c.first_fault.ensures in
    elim (cases_lt (rule_rank rule) c.loop-rule.rule-index) [
      | inl l ↦ c.loop-rule.invariant rule l
      | inr l ↦
          let e : c.loop-rule.rule-index ≡ rule_rank rule = omega arith in
          let p = ap (λ k. slice_index_or in_order k Reach) e ∙ at_rank rule in
          subst (λ (r : Rule). KeepsAll c.new-judge.result.inst c.new-judge.result.sched r) p f
    ]

-- where no rule is broken the schedule goes its way
goes_on : (c : goal.After-loop-rule) → Goes c.args.inst.now c.args.sched.now c.args.way
goes_on c =
    let a = c.args in
    let k = subst (λ (j : Judged). (rule : Rule) → KeepsAll j.inst j.sched rule) c.new-judge.ensures.view (λ rule. let r = rank_below rule in c.loop-rule.invariant rule (omega arith)) in
    goes_seen a.inst.now a.sched.now a.way c.new-judge.ensures.valid c.requires k

pub returns-clause-goes : goal.returns-clause-goes
returns-clause-goes c = (λ e. goes_on c, λ g. refl)

pub returns-clause-safe : goal.returns-clause-safe
returns-clause-safe c =
    safe_of c.args.inst.now c.args.sched.now c.args.way c.new-judge.ensures.valid (goes_on c)

pub returns-in-Some-clause-range : goal.returns-in-Some-clause-range
returns-in-Some-clause-range c = break_range c.args.inst.now c.args.sched.now c.args.way _ (first_is c)
