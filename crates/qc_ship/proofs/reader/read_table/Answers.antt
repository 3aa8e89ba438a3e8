use Rattle.std.proofs.Common.{◌≡◌, false, List, ℕ, inl, inr, IsUtf8}
use Rattle.std.specs.Str.{is_utf8}
use Rattle.std.proofs.lemmas.Bool.{cases_Bool}
use Rattle.std.proofs.lemmas.Str.{IsUtf8-from_is_utf8, is_utf8-from_IsUtf8}
use Rattle.qc_ship.proofs.reader.read_table.Goals as goal

not_utf8 : (bytes : List ℕ) → ¬ (IsUtf8 bytes) → is_utf8 bytes ≡ false
not_utf8 bytes other =
    elim (cases_Bool (is_utf8 bytes)) [
      | inl valid ↦ absurd (other (IsUtf8-from_is_utf8 bytes valid))
      | inr invalid ↦ invalid
    ]

pub returns-in_default : goal.returns-in_default
returns-in_default c = rw (not_utf8 c.args.text.now c.in_default.ensures.cases.0, c.fault.ensures)

pub returns-in-Ok-table_from_str : goal.returns-in-Ok-table_from_str
returns-in-Ok-table_from_str c =
    rw (is_utf8-from_IsUtf8 c.args.text.now c.in-Ok.ensures.cases.1, rw c.in-Ok.ensures.cases.0 at c.in-Ok-table_from_str.ensures.ok)
