use Rattle.std.proofs.Common.{◌≡◌, true, IsUtf8, string_bytes}
use Rattle.std.proofs.Props.{props}
use mathlib.Core.Logic.{∥∥₁_elim}
use Rattle.std.proofs.lemmas.Str.{is_utf8-from_IsUtf8}
use Rattle.std.specs.Str.{is_utf8}
use Rattle.qc_make.proofs.TableFacts.{table_flat}
use Rattle.qc_make.proofs.ship.ship_text.Goals as goal

pub returns-in-Ok : goal.returns-in-Ok
returns-in-Ok c =
    let read = rw c.in_ok-table.ensures at c.in-Ok.ensures.reads_back in
    let utf8 : ∥ IsUtf8 (string_bytes c.in-Ok.text) ∥₁ = c.in-Ok.text.ok in
    let valid : is_utf8 (string_bytes c.in-Ok.text) ≡ true = ∥∥₁_elim utf8 (hlevel props) (is_utf8-from_IsUtf8 (string_bytes c.in-Ok.text)) in
    rw (c.of.ensures, c.into_bytes.ensures.value, valid) (read (table_flat c.args.hatches c.args.cranes))
