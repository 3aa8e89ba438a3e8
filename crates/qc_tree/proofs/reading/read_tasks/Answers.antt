use Rattle.std.proofs.Common.{◌≡◌, ◌<◌, ◌==◌, [], ◌∷◌, ap, arith, false, length, sym, ◌∙◌}
use Rattle.std.proofs.lemmas.Bool.Decides.{nat_tests}
use Rattle.std.proofs.lemmas.List.{length-append}
use Rattle.qc_tree.proofs.OneSpelling.{so_far_more, so_far_refused}
use Rattle.qc_tree.proofs.reading.read_tasks.Goals as goal

pub returns-in_default-clause-err : goal.returns-in_default-clause-err
returns-in_default-clause-err c = λ _ tasks are same.
    let left : (length c.loop-rest.rest.now == 0) ≡ false = sym c.is_empty.ensures ∙ c.loop-rest-test.true in
    let some : 0 < length c.loop-rest.rest.now = grind (arith, nat_tests, left) in
    so_far_refused c.args.text.now c.loop-rest.path.items c.loop-rest.rest.now tasks c.loop-rest.invariant.so_far some c.in_default.ensures are.1 same

pub loop-rest-preserved : goal.loop-rest-preserved
loop-rest-preserved c = record {
  room_stays = c.push_reserved.ensures.capacity ∙ c.loop-rest.invariant.room_stays;
  room = omega (arith, c.push_reserved.ensures.capacity, c.loop-rest.invariant.room);
  few = omega (
    arith,
    ap length c.push_reserved.ensures.items,
    length-append c.loop-rest.path.items (c.in-Some.task ∷ []),
    c.loop-rest.invariant.few,
    c.len.ensures.value,
    c.if-len-eq-MOST_TASKS.false,
  );
  so_far = so_far_more c.args.text.now c.loop-rest.path.items c.loop-rest.rest.now c.push_reserved.new.self.items c.in-Some.behind.now c.in-Some.task
      c.loop-rest.invariant.so_far c.in-Some.ensures c.push_reserved.ensures.items;
}
