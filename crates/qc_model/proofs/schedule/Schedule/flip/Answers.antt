use Rattle.std.proofs.Common.{◌≡◌, ◌≢◌, ℕ, ◌+◌, ◌<◌, List, [], ◌∷◌, ◌++◌, get_or, length, map, set, take, ap, sym, ◌∙◌, arith}
use Rattle.std.proofs.lemmas.List.{get_or_read, get_or-set_other, length-set, map_push, take_more, take_more_set}
use Rattle.qc_model.specs.declared.schedule.Slot.{Slot}
use Rattle.qc_model.specs.OneWay.{flipped}
use Rattle.qc_model.specs.Rules.{no_slot}
use Rattle.qc_model.proofs.schedule.Schedule.flip.Goals as goal

-- one more slot in front is that of the other end
one_more : (n : ℕ) (xs old : List Slot) (i : ℕ) (s : Slot) → i < length old → length xs ≡ length old → take i xs ≡ map (flipped n) (take i old) → s ≡ flipped n (get_or old i no_slot)
    → take (i + 1) (set xs i s) ≡ map (flipped n) (take (i + 1) old)
one_more n xs old i s low count front is =
    take_more_set xs i s (omega (arith, count))
    ∙ ap (λ ys. ys ++ s ∷ []) front
    ∙ ap (λ y. map (flipped n) (take i old) ++ y ∷ []) is
    ∙ sym (ap (map (flipped n)) (take_more old i no_slot low) ∙ map_push (flipped n) (take i old) (get_or old i no_slot))

pub loop-task-preserved : goal.loop-task-preserved
loop-task-preserved c =
    let old = c.args.self.now in
    let i = c.loop-task.task in
    let inv = c.loop-task.invariant in
    let low : i < length old = omega (arith, inv.count, c.loop-task-test.true, ap length c.self.view_is) in
    let is = get_or_read _ i _ (omega (arith, low, inv.count)) c.index-slot.ensures no_slot ∙ inv.rest i (omega arith) low in
    record {
      count = length-set _ i _ ∙ inv.count;
      front = one_more c.args.cranes _ old i _ low inv.count inv.front (ap (flipped c.args.cranes) is);
      rest = λ k h b. let ne : k ≢ i = omega arith in get_or-set_other _ i k _ no_slot ne ∙ inv.rest k (omega arith) b;
    }
