use Rattle.std.proofs.Common.{◌≡◌, ◌<◌, ◌+◌, ◌∙◌, length, Ok, true, false, sym, arith}
use Rattle.std.proofs.lemmas.Bool.{not-false, not-true}
use Rattle.csv.specs.Records.{fields_of}
use Rattle.qc_stow.specs.Moves.{has_id, is_taken, most_moves}
use Rattle.qc_stow.specs.Stow.{row_on}
use Rattle.qc_stow.proofs.StowFacts.{after-cell, after-id, after-row, row-id}
use Rattle.qc_stow.proofs.TakenFacts.{cell-taken, id-taken, ids-more}
use Rattle.qc_stow.proofs.reader.next_row.Goals as goal

pub returns-then-not-branch-clause-row : goal.returns-then-not-branch-clause-row
returns-then-not-branch-clause-row c =
    let row = c.in-Ok.row in
    let on : row_on c.args.ship.now c.args.at (fields_of c.args.fields.now) ≡ Ok row = sym c.in-Ok.ensures in
    let id = row-id c.args.ship.now c.args.at (fields_of c.args.fields.now) row on in
    let new = rw (c.requires.ids, c.field.ensures, ← id) at c.in_ok-take_id.ensures.new in
    let twice : has_id c.args.earlier.now row ≡ true = sym (id-taken c.args.earlier.now row) ∙ not-false _ (sym new ∙ c.if-not-branch.true) in
    let few : length c.args.earlier.now < most_moves = omega arith in
    rw c.fault-then-not-branch.ensures (after-id c.args.ship.now c.args.at c.args.earlier.now (fields_of c.args.fields.now) row (length c.args.earlier.now + 2) few on twice)

pub returns-then-not-branch-2-clause-row : goal.returns-then-not-branch-2-clause-row
returns-then-not-branch-2-clause-row c =
    let row = c.in-Ok.row in
    let on : row_on c.args.ship.now c.args.at (fields_of c.args.fields.now) ≡ Ok row = sym c.in-Ok.ensures in
    let id = row-id c.args.ship.now c.args.at (fields_of c.args.fields.now) row on in
    let new = rw (c.requires.ids, c.field.ensures, ← id) at c.in_ok-take_id.ensures.new in
    let once : has_id c.args.earlier.now row ≡ false = sym (id-taken c.args.earlier.now row) ∙ not-true _ (sym new ∙ c.if-not-branch.false) in
    let free = rw (c.in_ok-take_id.ensures.slots, c.requires.slots) at c.in_ok-take_cell.ensures.new in
    let taken : is_taken c.args.earlier.now row ≡ true = sym (cell-taken c.args.earlier.now row) ∙ not-false _ (sym free ∙ c.if-not-branch-2.true) in
    let few : length c.args.earlier.now < most_moves = omega arith in
    rw c.fault-then-not-branch-2.ensures (after-cell c.args.ship.now c.args.at c.args.earlier.now (fields_of c.args.fields.now) row (length c.args.earlier.now + 2) few on once taken)

pub returns-clause-row : goal.returns-clause-row
returns-clause-row c =
    let row = c.in-Ok.row in
    let on : row_on c.args.ship.now c.args.at (fields_of c.args.fields.now) ≡ Ok row = sym c.in-Ok.ensures in
    let id = row-id c.args.ship.now c.args.at (fields_of c.args.fields.now) row on in
    let new = rw (c.requires.ids, c.field.ensures, ← id) at c.in_ok-take_id.ensures.new in
    let once : has_id c.args.earlier.now row ≡ false = sym (id-taken c.args.earlier.now row) ∙ not-true _ (sym new ∙ c.if-not-branch.false) in
    let free = rw (c.in_ok-take_id.ensures.slots, c.requires.slots) at c.in_ok-take_cell.ensures.new in
    let open' : is_taken c.args.earlier.now row ≡ false = sym (cell-taken c.args.earlier.now row) ∙ not-true _ (sym free ∙ c.if-not-branch-2.false) in
    let few : length c.args.earlier.now < most_moves = omega arith in
    after-row c.args.ship.now c.args.at c.args.earlier.now (fields_of c.args.fields.now) row (length c.args.earlier.now + 2) few on once open'

pub returns-clause-ids : goal.returns-clause-ids
returns-clause-ids c =
    let row = c.in-Ok.row in
    let on : row_on c.args.ship.now c.args.at (fields_of c.args.fields.now) ≡ Ok row = sym c.in-Ok.ensures in
    let id = row-id c.args.ship.now c.args.at (fields_of c.args.fields.now) row on in
    let ids = c.in_ok-take_id.ensures.ids c.if-not-branch.false in
    c.in_ok-take_cell.ensures.ids ∙ ids ∙ rw (c.field.ensures, ← id, c.requires.ids) (sym (ids-more c.args.earlier.now row))
