use Rattle.std.proofs.Common.{◌≡◌, ℕ, ◌+◌, ◌-◌, ◌∙◌, subst, arith}
use Rattle.qc_odds.specs.Simulated.{IsSimulated}
use Rattle.qc_odds.proofs.simulation.simulate.Goals as goal

pub loop-before-preserved : goal.loop-before-preserved
loop-before-preserved g c =
    let past = c.args.past.now in
    let inst = c.args.inst.now in
    let plan = c.args.plan.now in
    let room = c.args.runs in
    let same : c.from.result ≡ c.loop-before.before = c.from.ensures in
    let last : c.loop-before.before ≡ c.from.result + 1 - 1 = omega (arith, same) in
    let next : c.from.result + 1 ≡ c.loop-before.before + 1 = omega (arith, same) in
    let is = subst (λ (n : ℕ). IsSimulated past inst plan c.args.seed n room c.loop-before.simulation) last c.loop-before.invariant.runs_are in
    record {
      runs_are = subst (λ (n : ℕ). IsSimulated past inst plan c.args.seed n room c.run.new.self) next (c.run.ensures inst plan room is);
      view_stays = c.tell_runs.ensures ∙ c.loop-before.invariant.view_stays;
    }

pub returns-clause-odds : goal.returns-clause-odds
returns-clause-odds g c =
    let all : c.loop-before.before ≡ c.args.runs = omega (arith, c.loop-before-test.false, c.loop-before.auto.before-end) in
    let is = subst (λ (n : ℕ). IsSimulated c.args.past.now c.args.inst.now c.args.plan.now c.args.seed n c.args.runs c.loop-before.simulation) all c.loop-before.invariant.runs_are in
    (c.close.ensures c.args.past.now c.args.inst.now c.args.plan.now c.args.seed c.args.runs c.args.runs c.requires.few is).0

pub returns-clause-small : goal.returns-clause-small
returns-clause-small g c =
    let all : c.loop-before.before ≡ c.args.runs = omega (arith, c.loop-before-test.false, c.loop-before.auto.before-end) in
    let is = subst (λ (n : ℕ). IsSimulated c.args.past.now c.args.inst.now c.args.plan.now c.args.seed n c.args.runs c.loop-before.simulation) all c.loop-before.invariant.runs_are in
    (c.close.ensures c.args.past.now c.args.inst.now c.args.plan.now c.args.seed c.args.runs c.args.runs c.requires.few is).1
