use Rattle.std.proofs.Common.{◌≡◌, true, IsUtf8, string_bytes}
use Rattle.std.proofs.Props.{props}
use mathlib.Core.Logic.{∥∥₁_elim}
use Rattle.std.proofs.lemmas.Str.{is_utf8-from_IsUtf8}
use Rattle.std.specs.Str.{is_utf8}
use Rattle.qc_rest_files.specs.RestShip.{rest_ship}
use Rattle.qc_rest_files.proofs.ShipBack.{ship_back}
use Rattle.qc_rest_files.proofs.TextLemmas.{table_flat}
use Rattle.qc_rest_files.proofs.ship.ship_text.Goals as goal

pub returns-in-Ok-clause-text : goal.returns-in-Ok-clause-text
returns-in-Ok-clause-text c = rw (c.of.ensures, c.into_bytes.ensures.value) (rw c.in_ok-table.ensures.table at c.in-Ok.ensures.text)

pub returns-in-Ok-clause-reads : goal.returns-in-Ok-clause-reads
returns-in-Ok-clause-reads c is =
    let ship = rest_ship c.args.ship.now c.args.rest.now in
    let read = rw c.in_ok-table.ensures.table at c.in-Ok.ensures.reads_back in
    let utf8 : ∥ IsUtf8 (string_bytes c.in-Ok.text) ∥₁ = c.in-Ok.text.ok in
    let valid : is_utf8 (string_bytes c.in-Ok.text) ≡ true = ∥∥₁_elim utf8 (hlevel props) (is_utf8-from_IsUtf8 (string_bytes c.in-Ok.text)) in
    rw (c.of.ensures, c.into_bytes.ensures.value, valid, read (table_flat ship)) (ship_back ship is c.in_ok-table.ensures.names)
