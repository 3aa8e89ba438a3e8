use Rattle.std.proofs.Common.{◌≡◌, ◌<◌, ◌∙◌, List, Option, ℕ, arith, length, map, take}
use Rattle.std.proofs.lemmas.List.{length-set}
use Rattle.qc_close.specs.Model.{barred_frame, way_frame, crane_numbers}
use Rattle.qc_close.specs.Counts.{no_frame}
use Rattle.qc_close.specs.Moves.{IsMoving}
use Rattle.qc_close.proofs.OwnLemmas.{frame_at, frames_all, frames_more}
use Rattle.qc_close.proofs.way.way_frames.Goals as goal

pub way_frame-requires-clause-known : goal.way_frame-requires-clause-known
way_frame-requires-clause-known c =
    let inst = c.args.inst.now in
    let cranes = c.requires.known.0 in
    let low : c.loop-crane.crane < length inst.cranes = omega (arith, c.loop-crane-test.true, c.crane_count-crane-end.ensures.count) in (
      cranes,
      c.requires.known.1,
      frame_at inst (barred_frame inst c.args.turn cranes) c.args.frames.now _ c.requires.known.2 c.loop-crane.crane low,
    )

pub loop-crane-preserved : goal.loop-crane-preserved
loop-crane-preserved c =
    let inst = c.args.inst.now in
    let w = c.loop-crane.crane in
    let inside : w < length c.loop-crane.ways = omega (arith, c.loop-crane.invariant.many, c.loop-crane-test.true, c.crane_count-crane-end.ensures.bound) in
    let low : w < length inst.cranes = omega (arith, c.loop-crane-test.true, c.crane_count-crane-end.ensures.count) in
    record {
      many = length-set c.loop-crane.ways w c.way_frame.result ∙ c.loop-crane.invariant.many;
      frames = frames_more (λ w f. (cranes : List (Option ℕ)) → IsMoving inst cranes c.args.spots.now c.args.table.now c.args.trips.now
          → take (length inst.cranes) c.args.frames.now ≡ map (barred_frame inst c.args.turn cranes) (crane_numbers inst)
          → f ≡ way_frame inst c.args.turn cranes w) c.loop-crane.ways w c.way_frame.result inside c.loop-crane.invariant.frames
          (λ cranes m all. c.way_frame.ensures cranes m (frame_at inst (barred_frame inst c.args.turn cranes) c.args.frames.now _ all w low));
    }

pub returns : goal.returns
returns c = λ cranes m all.
    frames_all c.args.inst.now (way_frame c.args.inst.now c.args.turn cranes) c.loop-crane.ways no_frame c.loop-crane.invariant.many
    (omega (arith, c.crane_count-crane-end.ensures.count, c.crane_count-crane-end.ensures.bound))
    (λ w low. c.loop-crane.invariant.frames w no_frame
    (omega (arith, low, c.loop-crane-test.false, c.crane_count-crane-end.ensures.count)) cranes m all)
