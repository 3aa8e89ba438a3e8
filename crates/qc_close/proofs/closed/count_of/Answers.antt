use Rattle.std.proofs.Common.{length, take, ap, sym, subst, ◌∙◌, arith}
use Rattle.std.proofs.lemmas.List.{length-take}
use Rattle.qc_model.proofs.LimitsOf.{limits_of, travel_of}
use Rattle.qc_close.specs.Counts.{AreNear}
use Rattle.qc_close.proofs.CrewLemmas.{short_same, work_within}
use Rattle.qc_close.proofs.GrainLemmas.{grain_is}
use Rattle.qc_close.proofs.closed.count_of.Goals as goal

pub invariant_of-result : goal.invariant_of-result
invariant_of-result c =
    let inst = c.args.inst.now in
    let valid = c.travel.ensures.valid in
    let travel = travel_of inst valid in
    let left = c.requires.left.1 in
    record {
      slow = omega (arith, c.travel.ensures.travel, travel.1);
      some = omega (arith, (grain_is inst travel.0).some, c.requires.step);
      few = omega (arith, ap length c.first_frames.ensures, length-take c.crane_count.result c.args.frames.now, c.crane_count.ensures.bound);
      near = subst AreNear (sym (c.first_frames.ensures ∙ ap (λ k. take k c.args.frames.now) c.crane_count.ensures.count)) c.requires.near;
      bays = (omega (arith, left.count), omega (arith, left.count, (limits_of inst valid).bays.1));
      work = λ x. omega (arith, left.work x, work_within inst valid c.requires.left.0 x);
    }

pub returns : goal.returns
returns c = λ cranes of left are end.
    short_same c.args.inst.now of cranes c.args.left.now c.travel.ensures.valid left
    c.travel.result c.args.step c.crane_count.result c.first_frames.result.now c.args.frames.now
    c.travel.ensures.travel c.requires.step c.first_frames.ensures c.crane_count.ensures.count are end
