use Rattle.std.proofs.Common.{◌∙◌, ◌||◌, List, get_or, refl, ap}
use Rattle.std.specs.List.{list_any}
use Rattle.std.proofs.lemmas.List.{get_or_default, take_all}
use Rattle.qc_model.specs.declared.task.Phase.TheVariants.{DeckOut}
use Rattle.qc_ship.specs.declared.ship.NamePair.{NamePair}
use Rattle.qc_tasks.specs.InstanceOf.{puts_before, task_at}
use Rattle.qc_tasks.specs.Restows.{is_in}
use Rattle.qc_tasks.proofs.EntryLemmas.{entries_turn}
use Rattle.qc_tasks.proofs.entries.add_entries.Goals as goal
use Rattle.qc_tasks.proofs.entries.add_entries.Goals.{in-Some+in_ok-insert, in_default}

-- what stands for an entry past the end
abbrev no_pair : NamePair
no_pair = record { first = record { hatch = 0; phase = DeckOut }; second = record { hatch = 0; phase = DeckOut } }

pub loop-entry-preserved : goal.loop-entry-preserved
loop-entry-preserved c = λ i j il jl.
    let t = task_at c.args.tasks.now i in
    let u = task_at c.args.tasks.now j in
    let entry = get_or c.args.entries.now c.loop-entry.entry-index no_pair in
    let is = get_or_default c.args.entries.now c.loop-entry.entry-index no_pair entry c.loop-entry-test.true in
    elim c.match-tasks_in.branch [
      | in-Some+in_ok-insert w ↦ rw w.pairs-is (entries_turn (puts_before t u) c.args.entries.now c.loop-entry.entry-index entry _ _ _ _ c.loop-entry-test.true is (c.loop-entry.invariant i j il jl) (c.tasks_in.ensures i j il jl) (w.in_ok-insert.ensures.updates.0 (i, j) ∙ rw w.in-Some.is refl))
      | in_default w ↦ rw w.pairs-is (entries_turn (puts_before t u) c.args.entries.now c.loop-entry.entry-index entry _ _ _ _ c.loop-entry-test.true is (c.loop-entry.invariant i j il jl) (c.tasks_in.ensures i j il jl) (rw w.in_default.is refl))
    ]

pub returns : goal.returns
returns c = λ i j il jl.
    c.loop-entry.invariant i j il jl
    ∙ ap (λ (entries : List NamePair). is_in c.args.pairs.now i j || list_any (puts_before (task_at c.args.tasks.now i) (task_at c.args.tasks.now j)) entries) (take_all c.loop-entry.entry-index c.args.entries.now c.loop-entry-test.false)
