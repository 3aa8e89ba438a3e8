use Rattle.std.proofs.Common.{◌≡◌, ◌<◌, ◌≤◌, ◌∙◌, ℕ, length, arith}
use Rattle.std.proofs.lemmas.List.{length-set}
use Rattle.qc_model.specs.Instance.{task}
use Rattle.qc_odds.specs.Lengths.{length_of, most_length}
use Rattle.qc_odds.proofs.LengthLemmas.{set_holds}
use Rattle.qc_odds.proofs.run_lengths.lengths.Goals as goal

pub loop-j-preserved : goal.loop-j-preserved
loop-j-preserved c =
    let xs = c.loop-j.lengths in
    let j = c.loop-j.j in
    let v = c.length_in.result in
    let old = c.loop-j.invariant in
    let low : j < length xs = omega (arith, c.loop-j-test.true, c.task_count-j-end.ensures.count, old.count) in
    let drawn = rw (c.call_of_run-call.ensures.call, c.task.ensures.task) at c.length_in.ensures.ticks in
    record {
      count = length-set xs j v ∙ old.count;
      each_one = set_holds (λ (k l : ℕ). l ≡ length_of c.args.past.now c.args.seed c.args.run (task c.args.inst.now k)) xs j v low old.each_one drawn;
      some = set_holds (λ (k l : ℕ). 1 ≤ l) xs j v low old.some c.length_in.ensures.some;
      few = set_holds (λ (k l : ℕ). l ≤ most_length) xs j v low old.few c.length_in.ensures.few;
    }
