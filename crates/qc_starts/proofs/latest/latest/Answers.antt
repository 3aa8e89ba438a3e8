use Rattle.std.proofs.Common.{ℕ, ◌+◌, ◌≤◌, List, Some, refl, ap, sym, subst, ◌∙◌, arith, cond, nat_lt}
use Rattle.std.proofs.lemmas.Bool.{cond_both, ltb-false, ltb-true}
use Rattle.qc_model.specs.Instance.{InstanceView}
use Rattle.qc_starts.specs.declared.latest.Last.{Last}
use Rattle.qc_starts.specs.Found.{IsLast, end_in}
use Rattle.qc_starts.proofs.LatestLemmas.{still, this_one}
use Rattle.qc_starts.proofs.latest.latest.Goals as goal

one_more : (inst : InstanceView) (cells : List ℕ) (t : ℕ) (last : Last) → IsLast inst cells t last
    → 1 ≤ end_in inst cells t
    → IsLast inst cells (t + 1)
    (cond (nat_lt last.end (end_in inst cells t)) (record { task = Some t; end = end_in inst cells t }) last)
one_more inst cells t last is some =
    cond_both (nat_lt last.end (end_in inst cells t)) _ _ (IsLast inst cells (t + 1))
    (λ later.
    let less = ltb-true last.end (end_in inst cells t) later in
    record { latest = this_one inst cells t last.task is.latest (omega (arith, is.end, less)); end = refl })
    (λ early. record {
      latest = still inst cells t last.task is.latest some
          (omega (arith, ltb-false last.end (end_in inst cells t) early, is.end));
      end = is.end;
    })

pub loop-task-preserved : goal.loop-task-preserved
loop-task-preserved c =
    let inst = c.args.network.now.inst in
    let cells = c.args.values.now.cells in
    let last = c.loop-task.last in
    let t = c.loop-task.task in
    let more = one_more inst cells t last c.loop-task.invariant (omega (arith, c.end_in.ensures.end, c.end_in.ensures.some)) in
    subst (IsLast inst cells (t + 1)) (sym (c.later-last.ensures ∙ ap (λ (e : ℕ).
    cond (nat_lt last.end e) (record { task = Some t; end = e }) last) c.end_in.ensures.end)) more
