use Rattle.std.proofs.Common.{ℕ, inl, inr, IsSome, sym, subst, ◌∙◌, arith}
use Rattle.std.proofs.lemmas.Bool.{cases_eq}
use Rattle.qc_model.specs.Nodes.{Conflicts, IsSettled}
use Rattle.qc_search.proofs.DecidedLemmas.{conflict_moves}
use Rattle.qc_search.proofs.OrderLemmas.{conflicts_ordered}
use Rattle.qc_search.proofs.given.order_all.Goals as goal

pub loop-task-preserved : goal.loop-task-preserved
loop-task-preserved c =
    let inst = c.args.starts.now.inst in
    let inv = c.loop-task.invariant in
    let old = c.loop-task.starts.decisions in
    let new = c.order_below.new.starts.decisions in
    let made = rw inv.same at c.order_below.ensures in
    record {
      same = c.order_below.ensures.inst ∙ inv.same;
      agrees = made.agrees;
      given = λ j low. subst IsSome (sym (made.cranes j)) (inv.given j low);
      settled = λ i j rising under conflict.
          let before = conflict_moves inst new old (λ t v is. sym (made.cranes t) ∙ is) i j conflict in
          elim (cases_eq j c.loop-task.task) [
            | inl same ↦
                subst (λ (n : ℕ). IsSettled inst new i n) (sym same)
                (made.settled i (omega (arith, rising, same)) (subst (λ (n : ℕ). Conflicts inst old i n) same before))
            | inr differ ↦ made.stays i j (inv.settled i j rising (omega arith) before)
          ];
    }

pub returns-clause-ordered : goal.returns-clause-ordered
returns-clause-ordered c =
    let inv = c.loop-task.invariant in
    let count = rw c.instance.ensures.same at c.task_count-task-end.ensures.count in
    conflicts_ordered c.args.starts.now.inst c.instance.ensures.valid c.loop-task.starts.decisions c.args.sched.now inv.given
    inv.agrees
    (λ i j rising low conflict. inv.settled i j rising (omega (arith, low, c.loop-task-test.false, count)) conflict)
