use Rattle.std.proofs.Common.{◌∙◌, ◌++◌, List, ap, sym}
use Rattle.qc_stow.specs.declared.row.Move.TheVariants.{Discharge, Load}
use Rattle.qc_stow.specs.declared.row.Row.{Row}
use Rattle.qc_changes.specs.Classes.{changed, chosen}
use Rattle.std.specs.Prelude.{map}
use Rattle.qc_changes.specs.MoveList.{row_of}
use Rattle.qc_changes.proofs.Turns.{rows_append}
use Rattle.qc_changes.proofs.between.push_over.Goals as goal

pub returns-in-Ok : goal.returns-in-Ok
returns-in-Ok c =
    let first = c.args.first.now in
    let second = c.args.second.now in
    let floor = c.in_ok-floors.ensures in
    let lifted = chosen first second floor.cells in
    record {
      lifted = lifted;
      are = floor.lifted;
      off_are =
          c.in-Ok.ensures.off floor.cells floor.floor ∙ ap (λ (rs : List Row). rs ++ map (row_of Discharge) lifted) c.requires.off
          ∙ sym (rows_append Discharge (changed first second) lifted);
      on_are =
          c.in-Ok.ensures.on floor.cells floor.floor ∙ ap (λ (rs : List Row). rs ++ map (row_of Load) lifted) c.requires.on
          ∙ sym (rows_append Load (changed second first) lifted);
    }
