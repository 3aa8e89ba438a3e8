use Rattle.std.proofs.Common.{sym}
use Rattle.qc_tasks.proofs.EntryLemmas.{both_named, no_first, no_second}
use Rattle.qc_tasks.proofs.entries.tasks_in.Goals as goal

pub returns-in_err-first : goal.returns-in_err-first
returns-in_err-first c = λ i j il jl.
    rw c.from_residual.ensures
    (no_first c.args.tasks.now c.requires c.args.entry.now i j il jl (sym c.in_err-first.ensures))

pub returns-in_err-second : goal.returns-in_err-second
returns-in_err-second c = λ i j il jl.
    rw c.from_residual-in_err-second.ensures
    (no_second c.args.tasks.now c.requires c.args.entry.now i j il jl (sym c.in_err-second.ensures))

pub returns : goal.returns
returns c = λ i j il jl.
    both_named c.args.tasks.now c.requires c.args.entry.now i j il jl c.in_ok-first.first c.in_ok-second.second (sym c.in_ok-first.ensures) (sym c.in_ok-second.ensures)
