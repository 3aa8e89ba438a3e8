use Rattle.std.proofs.Common.{◌≡◌, ◌∙◌, ◌&&◌, List, refl, ap}
use Rattle.std.specs.List.{list_any}
use Rattle.std.proofs.lemmas.List.{take_all}
use Rattle.qc_stow.specs.Moves.{is_load}
use Rattle.qc_stow.specs.declared.row.Row.{Row}
use Rattle.qc_tasks.specs.InstanceOf.{brings_back, is_move_of, task_at}
use Rattle.qc_tasks.specs.Restows.{is_pair}
use Rattle.qc_tasks.proofs.Restows.{restows_turn}
use Rattle.qc_tasks.proofs.before.add_restows.Goals as goal
use Rattle.qc_tasks.proofs.before.add_restows.Goals.{in-Some+in_ok-insert, in_default}

pub loop-row-preserved : goal.loop-row-preserved
loop-row-preserved c = λ i j il jl.
    let t = task_at c.args.tasks.now i in
    let u = task_at c.args.tasks.now j in
    let row = c.row-item.result in
    let said : is_pair i j c.restow_of.result ≡ brings_back c.args.rows.now t u row =
    c.restow_of.ensures i j jl ∙ ap (λ known. is_load row.kind && known && is_move_of u row) (c.requires.numbers row.id i il) in
    elim c.match-restow_of.branch [
      | in-Some+in_ok-insert w ↦ rw w.pairs-is (restows_turn (brings_back c.args.rows.now t u) c.args.rows.now c.loop-row.row-index row _ _ _ c.loop-row-test.true c.row-item.is (c.loop-row.invariant i j il jl) said (w.in_ok-insert.ensures.updates.0 (i, j) ∙ rw w.in-Some.is refl))
      | in_default w ↦ rw w.pairs-is (restows_turn (brings_back c.args.rows.now t u) c.args.rows.now c.loop-row.row-index row _ _ _ c.loop-row-test.true c.row-item.is (c.loop-row.invariant i j il jl) said (rw w.in_default.is refl))
    ]

pub returns : goal.returns
returns c = λ i j il jl.
    c.loop-row.invariant i j il jl
    ∙ ap (λ (rows : List Row). list_any (brings_back c.args.rows.now (task_at c.args.tasks.now i) (task_at c.args.tasks.now j)) rows) (take_all c.loop-row.row-index c.args.rows.now c.loop-row-test.false)
