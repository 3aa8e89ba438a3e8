use Rattle.std.proofs.Common.{◌≡◌, ◌∙◌, ◌||◌, List, IfOk, ap, subst, length}
use Rattle.qc_model.specs.declared.pair.Pair.{Pair}
use Rattle.qc_tasks.specs.InstanceOf.{is_asked, is_before, is_earlier_phase, is_put_before, task_at}
use Rattle.qc_tasks.specs.Restows.{is_in}
use Rattle.qc_tasks.proofs.Loops.{pairs_agree}
use Rattle.qc_tasks.proofs.before.before_of.Goals as goal

pub returns-in-Ok : goal.returns-in-Ok
returns-in-Ok c =
    let tasks = c.args.tasks.now in
    let asked = is_asked c.args.ordered c.args.entries.now c.args.rows.now tasks in
    let same = pairs_agree (length tasks) (is_before (is_in c.add_entries.new.pairs) tasks) (is_before asked tasks)
    (λ i j il jl. ap (λ b. is_earlier_phase (task_at tasks i) (task_at tasks j) || b)
    (c.in-Ok.ensures i j il jl ∙ ap (λ b. b || is_put_before c.args.entries.now tasks i j) (c.in_ok-asked.ensures i j il jl))) in
    subst (λ (ps : List Pair). IfOk c.pairs_before-pairs.result (λ v. v.items ≡ ps)) same c.pairs_before-pairs.ensures
