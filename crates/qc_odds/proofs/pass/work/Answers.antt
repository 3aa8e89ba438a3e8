use Rattle.std.proofs.Common.{◌<◌, ◌+◌, ◌∙◌, ℕ, length, set, sym, subst, arith}
use Rattle.qc_odds.specs.Course.{IsStart, end_in}
use Rattle.qc_odds.specs.Moments.{moment_by}
use Rattle.qc_odds.specs.Order.{task_at}
use Rattle.qc_odds.proofs.OrderLemmas.{task_read}
use Rattle.qc_odds.proofs.PassLemmas.{IsPassed, all_passed, next_passed, none_passed}
use Rattle.qc_odds.proofs.pass.work.Goals as goal

pub loop-at-init : goal.loop-at-init
loop-at-init c =
    none_passed c.args.inst.now c.args.slots.now c.args.turns.now c.args.lengths.now c.clear.new.starts (c.clear.ensures.count ∙ c.requires.count) c.clear.ensures.none

pub due-start-requires-clause-task : goal.due-start-requires-clause-task
due-start-requires-clause-task c =
    let low : c.loop-at.at < length c.args.turns.now = omega (arith, c.loop-at-test.true, c.task_count-at-end.ensures.count, c.requires.turns.count) in
    subst (λ (k : ℕ). k < length c.args.inst.now.tasks) (task_read c.args.turns.now c.loop-at.at low) (c.requires.turns.inside c.loop-at.at low)

pub bounds-starts-task : goal.bounds-starts-task
bounds-starts-task c =
    let low : c.loop-at.at < length c.args.turns.now = omega (arith, c.loop-at-test.true, c.task_count-at-end.ensures.count, c.requires.turns.count) in
    let inside : task_at c.args.turns.now c.loop-at.at < length c.loop-at.starts = omega (arith, c.requires.turns.inside c.loop-at.at low, c.loop-at.invariant.count) in
    subst (λ (k : ℕ). k < length c.loop-at.starts) (task_read c.args.turns.now c.loop-at.at low) inside

pub loop-at-preserved : goal.loop-at-preserved
loop-at-preserved c =
    let inst = c.args.inst.now in
    let plan = c.args.slots.now in
    let turns = c.args.turns.now in
    let lengths = c.args.lengths.now in
    let at = c.loop-at.at in
    let starts = c.loop-at.starts in
    let start = c.due-start.result in
    let low : at < length turns = omega (arith, c.loop-at-test.true, c.task_count-at-end.ensures.count, c.requires.turns.count) in
    let is = task_read turns at low in
    let first = subst (λ (k : ℕ). IsStart inst plan (end_in lengths starts) k start) (sym is) c.due-start.ensures.start in
    let soon = c.due-start.ensures.soon (moment_by at) (omega arith) c.loop-at.invariant.early in
    subst (λ (k : ℕ). IsPassed inst plan turns lengths (at + 1) (set starts k start)) is
    (next_passed inst plan turns lengths c.requires.turns at starts start low c.loop-at.invariant first (omega (arith, soon)))

pub returns-clause-starts : goal.returns-clause-starts
returns-clause-starts c =
    all_passed c.args.inst.now c.args.slots.now c.args.turns.now c.args.lengths.now c.requires.turns c.loop-at.at c.loop-at.starts
    (omega (arith, c.loop-at-test.false, c.task_count-at-end.ensures.count, c.requires.turns.count)) c.loop-at.invariant
