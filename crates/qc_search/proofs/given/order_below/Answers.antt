use Rattle.std.proofs.Common.{◌≡◌, ℕ, ◌+◌, ◌<◌, inl, inr, List, sym, subst, ◌∙◌, arith}
use Rattle.std.proofs.lemmas.Bool.{cases_eq, false≢true}
use Rattle.qc_dist.specs.Node.{Node}
use Rattle.qc_close.specs.Model.{Decision, Slot, InstanceView, Agrees, Conflicts, IsSettled, assigned}
use Rattle.qc_search.proofs.DecidedLemmas.{conflict_moves}
use Rattle.qc_search.proofs.given.order_below.Goals as goal
use Rattle.qc_search.proofs.given.order_below.Goals.{then-conflict, else-conflict}

-- the pairs of the task and the first others are settled
abbrev AreBelow : InstanceView → List Decision → List Slot → ℕ → ℕ → Node → Type 0
AreBelow inst ds sched task other node = record {
  same : node.inst ≡ inst;
  agrees : Agrees inst node.decisions sched;
  cranes : (j : ℕ) → assigned node.decisions j ≡ assigned ds j;
  settled : (i : ℕ) → i < other → Conflicts inst ds i task → IsSettled inst node.decisions i task;
  stays : (i j : ℕ) → IsSettled inst ds i j → IsSettled inst node.decisions i j;
}

pub loop-other-preserved : goal.loop-other-preserved
loop-other-preserved c =
    let inst = c.args.starts.now.inst in
    let ds = c.args.starts.now.decisions in
    let task = c.args.task in
    let other = c.loop-other.other in
    let inv = c.loop-other.invariant in
    elim c.if-conflict.branch [
      | then-conflict w ↦
          let made = rw inv.same at w.order_as.ensures in
          let es = w.order_as.new.starts.decisions in
          let is : AreBelow inst ds c.args.sched.now task (other + 1) w.order_as.new.starts = record {
            same = w.order_as.ensures.inst ∙ inv.same;
            agrees = made.agrees;
            cranes = λ j. made.cranes j ∙ inv.cranes j;
            settled = λ i under conflict. elim (cases_eq i other) [
              | inl same ↦ subst (λ (n : ℕ). IsSettled inst es n task) (sym same) made.settled
              | inr differ ↦ made.stays i task (inv.settled i (omega arith) conflict)
            ];
            stays = λ i j settled. made.stays i j (inv.stays i j settled);
          } in
          subst (AreBelow inst ds c.args.sched.now task (other + 1)) (sym w.starts-is) is
      | else-conflict w ↦
          let told = rw inv.same at c.conflict.ensures in
          let is : AreBelow inst ds c.args.sched.now task (other + 1) c.loop-other.starts = record {
            same = inv.same;
            agrees = inv.agrees;
            cranes = inv.cranes;
            settled = λ i under conflict. elim (cases_eq i other) [
              | inl same ↦
                  let there = subst (λ (n : ℕ). Conflicts inst ds n task) same conflict in
                  let here = conflict_moves inst ds c.loop-other.starts.decisions (λ t v is. inv.cranes t ∙ is) other task there in
                  absurd (false≢true (sym w.if-conflict.false ∙ told.1 here))
              | inr differ ↦ inv.settled i (omega arith) conflict
            ];
            stays = inv.stays;
          } in
          subst (AreBelow inst ds c.args.sched.now task (other + 1)) (sym w.starts-is) is
    ]

pub returns-clause-settled : goal.returns-clause-settled
returns-clause-settled c = λ i under conflict.
    c.loop-other.invariant.settled i (omega (arith, under, c.loop-other-test.false)) conflict
