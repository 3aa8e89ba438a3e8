use Rattle.std.proofs.Common.{◌-◌, ◌*◌, ◌^◌, ap, arith}
use Rattle.qc_close.specs.Model.{Frame, bays_to}
use Rattle.qc_close.specs.Counts.{no_frame}
use Rattle.qc_close.proofs.SumLemmas.{last_falls, last_more, rest_more, small_more}
use Rattle.qc_close.proofs.sums.most_rooms.Goals as goal

pub add_number-requires-clause-sums : goal.add_number-requires-clause-sums
add_number-requires-clause-sums c = λ n low. omega (arith, c.loop-done.invariant.small n (omega arith))

pub add_number-requires-clause-falling : goal.add_number-requires-clause-falling
add_number-requires-clause-falling c =
    last_falls (λ (f : Frame). c.args.tick - f.gone - c.args.travel * bays_to c.args.way f c.args.bay) c.args.frames.now c.loop-done.done c.loop-done.sums (omega (arith, c.loop-done-test.true)) c.loop-done.invariant.sums c.loop-done.invariant.rest

pub loop-done-preserved : goal.loop-done-preserved
loop-done-preserved c =
    let all = c.add_number.ensures in
    let i = c.loop-done.done in
    let x = c.room-ticks.result in
    let before = c.loop-done.invariant in
    record {
      sums = last_more (λ (f : Frame). c.args.tick - f.gone - c.args.travel * bays_to c.args.way f c.args.bay) c.args.frames.now c.loop-done.sums c.add_number.new.sums i x all.none all.some all.others no_frame
          (omega (arith, c.loop-done-test.true)) (omega (arith, c.room-ticks.ensures, ap (λ b. c.args.travel * b) c.bays_to.ensures.bays))
          before.sums before.rest;
      rest = rest_more c.loop-done.sums c.add_number.new.sums i x all.none all.some all.others before.rest;
      small = λ n few. omega (
        arith,
        small_more c.loop-done.sums c.add_number.new.sums i x all.none all.some all.others (i * 2 ^ 56) (2 ^ 56)
            (omega (arith, c.room-ticks.ensures)) before.small n few,
      );
    }
