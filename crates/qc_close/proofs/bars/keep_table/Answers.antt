use Rattle.std.proofs.Common.{◌≡◌, ◌<◌, List, ℕ, ◌+◌, ◌∙◌, ap, arith, filter, get_or, length, refl, sym, rules}
use Rattle.std.proofs.lemmas.List.{get_or_read}
use Rattle.qc_model.specs.Work.{task_numbers}
use Rattle.qc_close.specs.Bars.{bars_of, row_at}
use Rattle.qc_close.proofs.BarLemmas.{soon_of}
use Rattle.qc_close.proofs.SpotLemmas.{spot_at}
use Rattle.qc_close.proofs.TableLemmas.{table_kept}
use Rattle.qc_close.proofs.bars.keep_table.Goals as goal

pub index-requires-2 : goal.index-requires-2
index-requires-2 c =
    let s = c.requires.spots in
    let j = c.args.task in
    let read = get_or_read c.args.spots.now.of_task.items j c.index.result.now (omega (arith, c.requires.task, s.of_task.many)) c.index.ensures 0 in
    let at = spot_at c.args.inst.now c.args.spots.now.bays.items s.bays j _ c.requires.task (s.of_task.each j c.requires.task) in
    omega (arith, read, at.0, s.firsts)

pub index-requires-3 : goal.index-requires-3
index-requires-3 c =
    let s = c.requires.spots in
    let j = c.args.task in
    let read = get_or_read c.args.spots.now.of_task.items j c.index.result.now (omega (arith, c.requires.task, s.of_task.many)) c.index.ensures 0 in
    let at = spot_at c.args.inst.now c.args.spots.now.bays.items s.bays j _ c.requires.task (s.of_task.each j c.requires.task) in
    omega (arith, read, at.0, s.behinds)

pub put_bars-requires-clause-row : goal.put_bars-requires-clause-row
put_bars-requires-clause-row c = omega (arith, c.requires.crane, c.crane_count-cranes.ensures.count, c.crane_count-cranes.ensures.bound)

pub put_bars-requires-clause-spot : goal.put_bars-requires-clause-spot
put_bars-requires-clause-spot c =
    let s = c.requires.spots in
    let j = c.args.task in
    let read = get_or_read c.args.spots.now.of_task.items j c.index.result.now (omega (arith, c.requires.task, s.of_task.many)) c.index.ensures 0 in
    let at = spot_at c.args.inst.now c.args.spots.now.bays.items s.bays j _ c.requires.task (s.of_task.each j c.requires.task) in
    omega (arith, read, at.0, c.len.ensures)

pub returns : goal.returns
returns c = λ olds was changes.
    let inst = c.args.inst.now in
    let cranes = c.args.cranes.now in
    let s = c.requires.spots in
    let j = c.args.task in
    let spots = c.args.spots.now.of_task.items in
    let read = get_or_read spots j c.index.result.now (omega (arith, c.requires.task, s.of_task.many)) c.index.ensures 0 in
    let at = spot_at inst c.args.spots.now.bays.items s.bays j _ c.requires.task (s.of_task.each j c.requires.task) in
    let same = c.as_slice.ensures.value in
    table_kept inst olds cranes spots j c.args.crane changes c.args.spots.now refl c.args.table.now c.put_bars.new.table was
    (omega (arith, c.requires.crane, c.crane_count-cranes.ensures.count, c.crane_count-cranes.ensures.bound)) s.bays.along.few
    c.index.result.now c.len.result read (omega (arith, read, at.0, c.len.ensures)) (omega (arith, c.len.ensures)) c.bars_at-bars.result
    (soon_of inst cranes c.args.soonest.now c.requires.soonest)
    (c.bars_at-bars.ensures.bars
    ∙ ap (λ (xs : List ℕ). bars_of inst cranes (filter (row_at cranes xs (c.args.crane + 1) c.index.result.now) (task_numbers inst))) same)
    c.put_bars.ensures.grid c.put_bars.ensures.small c.put_bars.ensures.before c.put_bars.ensures.from

pub bars_at-bars-requires-clause-within : goal.bars_at-bars-requires-clause-within
bars_at-bars-requires-clause-within c = λ j low lies.
    let s = c.requires.spots in
    let t = c.args.spots.now in
    let of = t.of_task.items in
    let same = c.as_slice.ensures.value in
    let inside : j < length of = omega (arith, ap length same, low) in
    let at : get_or of j 0 ≡ c.index.result.now = ap (λ (xs : List ℕ). get_or xs j 0) (sym same) ∙ lies in
    let place = spot_at c.args.inst.now t.bays.items s.bays j _ (omega (arith, inside, s.of_task.many)) (s.of_task.each j (omega (arith, inside, s.of_task.many))) in
    let first = get_or_read t.first_task.items c.index.result.now c.index-2.result.now (omega (arith, at, place.0, s.firsts)) c.index-2.ensures 0 in
    let behind = get_or_read t.behind_task.items c.index.result.now c.index-3.result.now (omega (arith, at, place.0, s.behinds)) c.index-3.ensures 0 in (
      omega (arith, first, ap (λ n. get_or t.first_task.items n 0) at, s.first_task j inside),
      omega (arith, behind, ap (λ n. get_or t.behind_task.items n 0) at, s.behind_task j inside, c.min.ensures, c.task_count.ensures.count, s.of_task.many, inside),
    )

pub bars_at-bars-requires-clause-count : goal.bars_at-bars-requires-clause-count
bars_at-bars-requires-clause-count c = search rules

pub bars_at-bars-requires-clause-spots : goal.bars_at-bars-requires-clause-spots
bars_at-bars-requires-clause-spots c = search rules

pub bars_at-bars-requires-clause-soonest : goal.bars_at-bars-requires-clause-soonest
bars_at-bars-requires-clause-soonest c = search rules

pub put_bars-requires-clause-count : goal.put_bars-requires-clause-count
put_bars-requires-clause-count c = search rules

pub put_bars-requires-clause-small : goal.put_bars-requires-clause-small
put_bars-requires-clause-small c = search rules
