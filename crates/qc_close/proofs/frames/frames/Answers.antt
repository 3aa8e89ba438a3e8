use Rattle.std.proofs.Common.{◌≡◌, ◌<◌, ◌∙◌, Option, IfSome, false, eqb, ap, arith, length, subst, sym}
use Rattle.std.proofs.lemmas.List.{length-set}
use Rattle.std.specs.Option.{option_map_or}
use Rattle.qc_close.specs.Model.{MOST_TASKS, crane_in, barred_frame, own, Frame}
use Rattle.qc_close.specs.Counts.{IsNear, no_frame}
use Rattle.qc_close.specs.Bars.{own_in}
use Rattle.qc_close.specs.Owns.{IsSmall, frame_by}
use Rattle.qc_close.specs.declared.frames.Own.{Own}
use Rattle.qc_close.proofs.OwnLemmas.{frame_same, frames_all, frames_more, with_gone}
use Rattle.qc_close.proofs.StretchLemmas.{own_low, whole_own}
use Rattle.qc_close.proofs.frames.frames.Goals as goal

pub sum_along-requires-clause-before : goal.sum_along-requires-clause-before
sum_along-requires-clause-before c = c.requires.table.befores.many

pub sum_along-requires-clause-from : goal.sum_along-requires-clause-from
sum_along-requires-clause-from c = c.requires.table.froms.many

pub spent_by-frame-requires-clause-own : goal.spent_by-frame-requires-clause-own
spent_by-frame-requires-clause-own c =
    let inst = c.args.inst.now in
    let valid = c.crane_count-crane-end.ensures.valid in
    let w = c.loop-crane.crane in
    let low : w < length inst.cranes = omega (arith, c.loop-crane-test.true, c.crane_count-crane-end.ensures.count) in
    subst (λ (o : Option Own). IfSome o (IsSmall MOST_TASKS))
    (sym (c.own_in-own.ensures ∙ ap own_in c.sum_along.ensures
    ∙ whole_own inst valid c.args.cranes.now c.args.spots.now c.requires.spots c.args.table.now c.requires.table w low))
    (own_low inst valid c.args.cranes.now c.args.spots.now c.requires.spots
    (λ j. option_map_or (λ k. eqb k w) (crane_in c.args.cranes.now j) false))

pub barred_gone-gone-requires-clause-around : goal.barred_gone-gone-requires-clause-around
barred_gone-gone-requires-clause-around c =
    let inst = c.args.inst.now in
    let low : c.loop-crane.crane < length inst.cranes = omega (arith, c.loop-crane-test.true, c.crane_count-crane-end.ensures.count) in (
      c.args.cranes.now,
      record {
        valid = c.crane_count-crane-end.ensures.valid;
        spots = c.requires.spots;
        table = c.requires.table;
        own_is = c.own_in-own.ensures ∙ ap own_in c.sum_along.ensures
            ∙ whole_own inst c.crane_count-crane-end.ensures.valid c.args.cranes.now c.args.spots.now c.requires.spots c.args.table.now c.requires.table
            c.loop-crane.crane low;
        left_is = c.left_tasks-left.ensures;
      },
    )

pub loop-crane-preserved : goal.loop-crane-preserved
loop-crane-preserved c =
    let inst = c.args.inst.now in
    let cranes = c.args.cranes.now in
    let w = c.loop-crane.crane in
    let inside : w < length c.loop-crane.frames = omega (arith, c.loop-crane.invariant.many, c.loop-crane-test.true, c.crane_count-crane-end.ensures.bound) in
    let low : w < length inst.cranes = omega (arith, c.loop-crane-test.true, c.crane_count-crane-end.ensures.count) in
    let own_is = c.own_in-own.ensures ∙ ap own_in c.sum_along.ensures
    ∙ whole_own inst c.crane_count-crane-end.ensures.valid cranes c.args.spots.now c.requires.spots c.args.table.now c.requires.table w low in
    let frame_is =
    c.spent_by-frame.ensures.frame ∙ ap (frame_by inst c.args.turn w) own_is
    ∙ frame_same inst c.args.turn w (own inst cranes w) in
    let gone_is = c.barred_gone-gone.ensures cranes (record {
      valid = c.crane_count-crane-end.ensures.valid;
      spots = c.requires.spots;
      table = c.requires.table;
      own_is = own_is;
      left_is = c.left_tasks-left.ensures;
    }) (ap (λ (f : Frame). f.gone) frame_is) in
    record {
      many = length-set c.loop-crane.frames w c.with_gone.result ∙ c.loop-crane.invariant.many;
      frames = frames_more (λ w f. f ≡ barred_frame inst c.args.turn cranes w) c.loop-crane.frames w c.with_gone.result inside
          c.loop-crane.invariant.frames
          (c.with_gone.ensures ∙ with_gone c.spent_by-frame.result _ c.barred_gone-gone.result (barred_frame inst c.args.turn cranes w).gone frame_is gone_is);
      near = frames_more (λ w f. IsNear f) c.loop-crane.frames w c.with_gone.result inside c.loop-crane.invariant.near
          (subst IsNear (sym c.with_gone.ensures) (record { low = c.spent_by-frame.ensures.near.low; high = c.spent_by-frame.ensures.near.high }));
    }

pub returns-clause-frames : goal.returns-clause-frames
returns-clause-frames c =
    frames_all c.args.inst.now (barred_frame c.args.inst.now c.args.turn c.args.cranes.now) c.loop-crane.frames no_frame c.loop-crane.invariant.many
    (omega (arith, c.crane_count-crane-end.ensures.count, c.crane_count-crane-end.ensures.bound))
    (λ w low. c.loop-crane.invariant.frames w no_frame
    (omega (arith, low, c.loop-crane-test.false, c.crane_count-crane-end.ensures.count)))
