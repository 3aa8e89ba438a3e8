use Rattle.std.proofs.Common.{◌∙◌, map, sym}
use Rattle.qc_gantt.proofs.NameLemmas.{knows_more, knows_skip, named_at, none_there}
use Rattle.qc_gantt.proofs.names.number_all.Goals as goal
use Rattle.qc_gantt.proofs.names.number_all.Goals.{then-not-contains_key+in_ok-insert, else-not-contains_key}

pub loop-number-preserved : goal.loop-number-preserved
loop-number-preserved g c =
    let names = map g.N.Named.name_of c.args.items.now in
    let k = c.loop-number.number in
    let name = c.name-name.result.now in
    let here = named_at g.N.Named.name_of c.args.items.now k c.index-items-number.result name c.loop-number-test.true c.index-items-number.is c.name-name.ensures in
    elim c.if-not-contains_key.branch [
      | then-not-contains_key+in_ok-insert w ↦
          rw w.numbers-is
          (knows_more names k name c.loop-number.numbers.entries here.0 here.1 c.loop-number.invariant
          (none_there _ (sym c.contains_key.ensures ∙ w.if-not-contains_key.true)) _
          (λ id. w.in_ok-insert.ensures.updates.0 (record { ref_ptr = c.name-name.result.ref_ptr; now = id })))
      | else-not-contains_key w ↦
          rw w.numbers-is
          (knows_skip names k name c.loop-number.numbers.entries here.0 here.1 c.loop-number.invariant
          (sym c.contains_key.ensures ∙ w.if-not-contains_key.false))
    ]
