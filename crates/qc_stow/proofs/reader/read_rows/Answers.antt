use Rattle.std.proofs.Common.{◌≡◌, ◌∷◌, [], List, Err, sym, subst, true, Vec, Global, rules, arith}
use Rattle.std.specs.Result.{is_ok}
use Rattle.std.proofs.lemmas.List.{length-append}
use Rattle.csv.specs.Records.{fields_of}
use Rattle.qc_num.specs.Reading.{IsReading}
use Rattle.qc_num.proofs.ReadingLemmas.{reading_stops}
use Rattle.qc_ship.proofs.EachLemmas.{each_more, each_turns}
use Rattle.qc_stow.specs.Stow.{next_row}
use Rattle.qc_stow.specs.declared.row.Row.{Row}
use Rattle.qc_stow.proofs.reader.read_rows.Goals as goal

pub returns-in-Err : goal.returns-in-Err
returns-in-Err c =
    let stopped = subst (λ (rows : List Row). IsReading {T = Row} (λ (r : Row). r) (next_row c.args.ship.now c.args.at rows (fields_of c.fields-item.result)) (Err c.in-Err.error)) c.as_slice.ensures.value c.in-Err.ensures.row in
    reading_stops (λ (r : Row). r) (λ (v : Vec Row Global). v.items) _ _ _ c.in-Err.error
    (each_turns (next_row c.args.ship.now c.args.at) fields_of c.args.records.now c.loop-fields.fields-index c.fields-item.result c.loop-fields-test.true c.fields-item.is
    _ c.loop-fields.rows.items c.loop-fields.invariant.rows)
    stopped

pub loop-fields-preserved : goal.loop-fields-preserved
loop-fields-preserved c =
    let earlier = c.loop-fields.rows.items in
    let said = rw c.as_slice.ensures.value at c.in-Ok.ensures.row in
    let good : is_ok c.push.result ≡ true = search rules in
    let pushed = rw good at c.push.ensures.items in
    let few = rw c.as_slice.ensures.value at c.in-Ok.ensures.few in
    record {
      rows = rw pushed (each_more (next_row c.args.ship.now c.args.at) fields_of c.args.records.now c.loop-fields.fields-index c.fields-item.result c.loop-fields-test.true c.fields-item.is
          _ earlier c.loop-fields.invariant.rows c.in-Ok.row (sym said));
      few = rw pushed (omega (arith, length-append earlier (c.in-Ok.row ∷ []), few));
      ids = rw pushed (rw c.as_slice.ensures.value at c.in-Ok.ensures.ids);
      slots = rw pushed (rw c.as_slice.ensures.value at c.in-Ok.ensures.slots);
    }
