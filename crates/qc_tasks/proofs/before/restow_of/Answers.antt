use Rattle.std.proofs.Common.{◌∙◌, ◌&&◌, Bor, List, ℕ, sym}
use Rattle.std.specs.Str.{bytes_eq}
use Rattle.indexmap.specs.IndexMap.{get_by}
use Rattle.qc_stow.specs.Moves.{is_load}
use Rattle.qc_tasks.specs.Restows.{is_number}
use Rattle.qc_tasks.proofs.Restows.{restow_none, restow_some}
use Rattle.qc_tasks.proofs.before.restow_of.Goals as goal

pub returns-in_err-second : goal.returns-in_err-second
returns-in_err-second c = λ i j jl.
    rw c.from_residual-in_err-second.ensures
    (restow_none c.args.tasks.now c.requires c.args.row.now j jl
    (is_load c.args.row.now.kind && is_number i (get_by (λ (key : Bor (List ℕ)). bytes_eq c.args.row.now.id key.now) c.args.numbers.now)) (sym c.in_err-second.ensures))

pub returns : goal.returns
returns c = λ i j jl.
    restow_some c.args.tasks.now c.requires c.args.row.now j jl
    (get_by (λ (key : Bor (List ℕ)). bytes_eq c.args.row.now.id key.now) c.args.numbers.now) c.in_ok-first.field-0.now c.in_ok-second.second i
    (sym c.is_load.ensures ∙ c.if-not-is_load.false) (sym (rw c.as_bytes.ensures.bytes at c.in_ok-first.ensures.value)) (sym c.in_ok-second.ensures)
