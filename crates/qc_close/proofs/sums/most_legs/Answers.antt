use Rattle.std.proofs.Common.{◌-◌, ◌*◌, ◌^◌, arith}
use Rattle.qc_close.specs.Model.{Frame, bays_to}
use Rattle.qc_close.specs.Counts.{no_frame}
use Rattle.qc_close.proofs.SumLemmas.{last_falls, last_more, rest_more, small_more}
use Rattle.qc_close.proofs.sums.most_legs.Goals as goal

pub add_number-requires-clause-sums : goal.add_number-requires-clause-sums
add_number-requires-clause-sums c = λ n low. omega (arith, c.loop-done.invariant.small n (omega arith))

pub add_number-requires-clause-falling : goal.add_number-requires-clause-falling
add_number-requires-clause-falling c =
    last_falls (λ (f : Frame). bays_to c.args.way f c.args.to - bays_to c.args.way f c.args.from) c.args.frames.now c.loop-done.done c.loop-done.sums (omega (arith, c.loop-done-test.true)) c.loop-done.invariant.sums c.loop-done.invariant.rest

pub loop-done-preserved : goal.loop-done-preserved
loop-done-preserved c =
    let all = c.add_number.ensures in
    let i = c.loop-done.done in
    let x = c.saturating_sub-bays.result in
    let before = c.loop-done.invariant in
    record {
      sums = last_more (λ (f : Frame). bays_to c.args.way f c.args.to - bays_to c.args.way f c.args.from) c.args.frames.now c.loop-done.sums c.add_number.new.sums i x all.none all.some all.others no_frame
          (omega (arith, c.loop-done-test.true)) (omega (arith, c.saturating_sub-bays.ensures, c.bays_to.ensures.bays, c.bays_to-in-loop-done.ensures.bays))
          before.sums before.rest;
      rest = rest_more c.loop-done.sums c.add_number.new.sums i x all.none all.some all.others before.rest;
      small = λ n few. omega (
        arith,
        small_more c.loop-done.sums c.add_number.new.sums i x all.none all.some all.others (i * 2 ^ 18) (2 ^ 18)
            (omega (arith, c.saturating_sub-bays.ensures, c.bays_to.ensures.bound, c.bays_to-in-loop-done.ensures.bound)) before.small n few,
      );
    }
