use Rattle.std.proofs.Common.{◌≡◌, ◌<◌, ◌∙◌, ℕ, Bool, List, Result, Ok, Err, length, map, sym, subst, All, IfOk}
use Rattle.qc_model.specs.declared.task.Task.{Task}
use Rattle.qc_stow.specs.declared.row.Row.{Row}
use Rattle.qc_sheet.specs.declared.entry.Entry.{Entry}
use Rattle.qc_sheet.specs.Entries.{IsEntry, Marks}
use Rattle.qc_sheet.specs.Order.{IsOrder, moves_of}
use Rattle.qc_sheet.proofs.OrderLemmas.{moves_low}
use Rattle.qc_sheet.proofs.SortLemmas.{sorted_order}
use Rattle.qc_sheet.proofs.sheet.order_of.Goals as goal

pub forties_of-requires : goal.forties_of-requires
forties_of-requires c =
    subst (λ (ns : List ℕ). All (λ n. n < length c.args.rows.now) ns) (sym (c.as_slice.ensures.value ∙ c.in_ok-numbers.ensures)) (moves_low c.args.rows.now c.args.task.now)

pub entries_of-requires-clause-numbers : goal.entries_of-requires-clause-numbers
entries_of-requires-clause-numbers c =
    subst (λ (ns : List ℕ). All (λ n. n < length c.args.rows.now) ns) (sym (c.as_slice-3.ensures.value ∙ c.in_ok-numbers.ensures)) (moves_low c.args.rows.now c.args.task.now)

-- an order that is the list of these is one of the task
if_order : {E : Type 0} (rows : List Row) (t : Task) (list : List ℕ) → IsOrder rows t list → (r : Result (List ℕ) E) → IfOk r (λ order. order ≡ list) → IfOk r (λ order. IsOrder rows t order)
if_order rows t list is (Ok order) same = subst (λ (l : List ℕ). IsOrder rows t l) (sym same) is
if_order rows t list is (Err e) same = tt

pub returns : goal.returns
returns c =
    let rows = c.args.rows.now in
    let t = c.args.task.now in
    let numbers : c.as_slice.result.now ≡ moves_of rows t = c.as_slice.ensures.value ∙ c.in_ok-numbers.ensures in
    let listed : c.as_slice-3.result.now ≡ moves_of rows t = c.as_slice-3.ensures.value ∙ c.in_ok-numbers.ensures in
    let table = c.in_ok-table.table.items in
    let order = sorted_order rows t table (subst (λ (ns : List ℕ). Marks rows ns table) numbers c.in_ok-table.ensures.marks)
    c.in_ok-entries.entries.items (c.in_ok-entries.ensures.numbers ∙ listed)
    (subst (λ (bs : List Bool). All (IsEntry rows bs) c.in_ok-entries.entries.items) c.as_slice-2.ensures.value c.in_ok-entries.ensures.entries)
    c.sort.new.entries.items c.in_ok-sort.ensures.permutation c.in_ok-sort.ensures.sorted in
    if_order rows t (map (λ (e : Entry). e.number) c.as_slice-4.result.now)
    (subst (λ (es : List Entry). IsOrder rows t (map (λ (e : Entry). e.number) es)) (sym c.as_slice-4.ensures.value) order) c.of.result c.of.ensures
