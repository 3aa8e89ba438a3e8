use Rattle.qc_close.proofs.SpotLists.{written}
use Rattle.std.proofs.Common.{List, ◌+◌, ◌-◌, sym, subst, ◌∙◌, slice_set, ◌*◌}
use Rattle.qc_close.specs.Bars.{AreSums, From, UpTo, sum_before, sum_from, Everywhere}
use Rattle.qc_close.specs.declared.bars.Bars.{Bars}
use Rattle.qc_close.proofs.TableLemmas.{before_put, from_put}
use Rattle.qc_close.proofs.bars.put_bars.Goals as goal

pub sum_behind-requires-clause-known : goal.sum_behind-requires-clause-known
sum_behind-requires-clause-known c =
    let t = c.args.table.now in
    subst (λ (xs : List Bars). AreSums (UpTo c.args.row c.args.spot) (sum_before c.as_slice.result.now) c.args.count xs)
    (sym c.as_mut_slice.ensures.value)
    (subst (λ (g : List Bars). AreSums (UpTo c.args.row c.args.spot) (sum_before g) c.args.count t.before.items)
    (sym c.as_slice.ensures.value)
    (before_put t.grid.items c.args.row c.args.spot c.args.bars c.requires.row c.args.count c.requires.count c.requires.spot
    t.before.items c.requires.before))

pub sum_up_to-requires-clause-known : goal.sum_up_to-requires-clause-known
sum_up_to-requires-clause-known c =
    let t = c.args.table.now in
    let count = c.args.count in
    subst (λ (xs : List Bars). AreSums (From c.args.row (c.args.spot + 1)) (λ r k. sum_from c.as_slice-2.result.now r k (count - k)) count xs)
    (sym c.as_mut_slice-2.ensures.value)
    (subst (λ (g : List Bars). AreSums (From c.args.row (c.args.spot + 1)) (λ r k. sum_from g r k (count - k)) count t.from.items)
    (sym c.as_slice-2.ensures.value)
    (from_put t.grid.items c.args.row c.args.spot c.args.bars c.requires.row count c.requires.count c.requires.spot
    t.from.items c.requires.from))

pub returns-clause-before : goal.returns-clause-before
returns-clause-before c =
    let t = c.args.table.now in
    let grid = slice_set t.grid.items (240 * c.args.row + c.args.spot) c.args.bars in
    let many = c.sum_behind.auto.before ∙ c.as_mut_slice.ensures.len ∙ t.before.ok.0 in
    subst (λ (xs : List Bars). AreSums Everywhere (sum_before grid) c.args.count xs)
    (sym (written t.before c.sum_behind.new.before many))
    (subst (λ (g : List Bars). AreSums Everywhere (sum_before g) c.args.count c.sum_behind.new.before)
    c.as_slice.ensures.value c.sum_behind.ensures)

pub returns-clause-from : goal.returns-clause-from
returns-clause-from c =
    let t = c.args.table.now in
    let count = c.args.count in
    let grid = slice_set t.grid.items (240 * c.args.row + c.args.spot) c.args.bars in
    let many = c.sum_up_to.auto.from ∙ c.as_mut_slice-2.ensures.len ∙ t.from.ok.0 in
    subst (λ (xs : List Bars). AreSums Everywhere (λ r k. sum_from grid r k (count - k)) count xs)
    (sym (written t.from c.sum_up_to.new.from many))
    (subst (λ (g : List Bars). AreSums Everywhere (λ r k. sum_from g r k (count - k)) count c.sum_up_to.new.from)
    c.as_slice-2.ensures.value c.sum_up_to.ensures)
