use Rattle.std.proofs.Common.{◌≡◌, ◌-◌, ◌+◌, ◌<◌, ℕ, IsTrue, ◌↔◌, length, set, ap, sym, subst, ◌∙◌, arith}
use Rattle.qc_odds.specs.Critical.{Matters}
use Rattle.qc_odds.specs.Order.{task_at}
use Rattle.qc_odds.specs.Worked.{RunView}
use Rattle.qc_odds.proofs.MarkLemmas.{IsMarkedFrom, all_marked, next_marked, none_marked}
use Rattle.qc_odds.proofs.OrderLemmas.{task_read}
use Rattle.qc_odds.proofs.run.Run.mark_critical.Goals as goal

pub loop-left-init : goal.loop-left-init
loop-left-init c =
    let run = c.args.self.now in
    let all = c.task_count-left.ensures.count ∙ ap (λ (r : RunView). length r.inst.tasks) c.self.view_is in
    record {
      marked = none_marked run.inst run.plan run.lengths run.starts c.args.last c.args.turns.now c.task_count-left.result c.args.marked.now
          (omega (arith, all, c.requires.turns.count)) c.requires.count;
      within = omega (arith, all, c.requires.turns.count);
    }

pub matters-is-requires-clause-task : goal.matters-is-requires-clause-task
matters-is-requires-clause-task c =
    let p = c.loop-left.left - 1 in
    let low : p < length c.args.turns.now = omega (arith, c.loop-left-test.true, c.loop-left.invariant.within) in
    subst (λ (k : ℕ). k < length c.args.self.now.inst.tasks) (task_read c.args.turns.now p low) (c.requires.turns.inside p low)

pub bounds-marked-task : goal.bounds-marked-task
bounds-marked-task c =
    let p = c.loop-left.left - 1 in
    let low : p < length c.args.turns.now = omega (arith, c.loop-left-test.true, c.loop-left.invariant.within) in
    let inside : task_at c.args.turns.now p < length c.loop-left.marked = omega (arith, c.requires.turns.inside p low, c.loop-left.invariant.marked.count) in
    subst (λ (k : ℕ). k < length c.loop-left.marked) (task_read c.args.turns.now p low) inside

pub loop-left-preserved : goal.loop-left-preserved
loop-left-preserved c =
    let run = c.args.self.now in
    let last = c.args.last in
    let turns = c.args.turns.now in
    let marked = c.loop-left.marked in
    let left = c.loop-left.left in
    let p = c.loop-left.left - 1 in
    let v = c.matters-is.result in
    let low : p < length turns = omega (arith, c.loop-left-test.true, c.loop-left.invariant.within) in
    let next : left ≡ p + 1 = omega (arith, c.loop-left-test.true) in
    let is = task_read turns p low in
    let says = subst (λ (k : ℕ). IsTrue v ↔ Matters run.inst run.plan run.lengths run.starts last marked k) (sym is) c.matters-is.ensures in
    record {
      marked = subst (λ (k : ℕ). IsMarkedFrom run.inst run.plan run.lengths run.starts last turns p (set marked k v)) is
          (next_marked run.inst run.plan run.lengths run.starts last turns c.requires.turns p left next low marked c.loop-left.invariant.marked v says);
      within = omega (arith, low);
    }

pub returns : goal.returns
returns c =
    let run = c.args.self.now in
    all_marked run.inst run.plan run.lengths run.starts c.args.last c.args.turns.now c.loop-left.left c.loop-left.marked c.requires.turns
    (omega (arith, c.loop-left-test.false)) c.loop-left.invariant.marked
