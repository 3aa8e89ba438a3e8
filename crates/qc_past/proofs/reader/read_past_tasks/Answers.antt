use Rattle.std.proofs.Common.{◌≡◌, ◌≤◌, ◌==◌, ◌∙◌, false, sym, map, length, arith}
use Rattle.std.proofs.lemmas.Bool.{eqb-false}
use Rattle.csv.specs.Records.{fields_of}
use Rattle.qc_past.proofs.PastLemmas.{tasks-keep}
use Rattle.qc_past.proofs.reader.read_past_tasks.Goals as goal

pub of-requires : goal.of-requires
of-requires c =
    let none : (length c.in_ok-tasks.tasks.items == 0) ≡ false = rw (← c.as_slice.ensures.value) (sym c.is_empty.ensures ∙ c.if-is_empty.false) in
    let some : 1 ≤ length c.in_ok-tasks.tasks.items = let ne = eqb-false (length c.in_ok-tasks.tasks.items) 0 none in omega arith in
    tasks-keep (map fields_of c.args.records.now) c.in_ok-tasks.tasks.items c.in_ok-tasks.ensures.tasks some c.in_ok-tasks.ensures.ranges
