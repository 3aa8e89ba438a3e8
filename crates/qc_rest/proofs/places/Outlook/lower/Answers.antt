use Rattle.std.proofs.Common.{◌≡◌, ◌∙◌, to_z, of_z, w32, w64, length, pos, ap, rules, arith}
use Rattle.std.proofs.lemmas.Int.{ints, to_z-of_z}
use Rattle.std.specs.Prelude.{slice_index_or}
use Rattle.qc_model.specs.declared.task.Task.{Task}
use Rattle.qc_model.specs.Instance.{InstanceView, bay_of}
use Rattle.qc_rest.specs.Limits.{place_at, view_of}
use Rattle.qc_rest.specs.Stands.{stand_of}
use Rattle.qc_rest.proofs.PlacingLemmas.{lower_all, lower_first, lower_more, lower_near, top_range}
use Rattle.qc_rest.proofs.places.Outlook.lower.Goals as goal

pub loop-j-init : goal.loop-j-init
loop-j-init c =
    let k = c.args.k in
    let rail = c.requires.known.limited.rail k in
    let range = top_range c.requires.known c.requires.tops k (omega arith) c.requires.crane in
    let stand : to_z w64 (of_z w64 c.from-stand.result) ≡ (stand_of c.args.self.now.stands.now k).bay = omega (arith, ints, c.from-stand.ensures, rail.0, rail.1) in
    let top : to_z w64 (of_z w64 (slice_index_or c.args.tops.now k (pos 0))) ≡ place_at c.args.tops.now k = omega (arith, ints, range.0, range.1) in
    let r = c.lower_of-lower.result in
    rw (to_z-of_z w64 r (search rules)) (lower_first (view_of c.args.self.now) (place_at c.args.tops.now) k r (λ z. rw (stand, top) at (c.lower_of-lower.ensures.under z)))

pub loop-j-preserved : goal.loop-j-preserved
loop-j-preserved c =
    let r = c.raised-lower.result in
    let read : to_z w32 (of_z w32 c.task.result.bay) ≡ c.task.result.bay = omega (arith, ints, c.task.ensures.on_rail.0, c.task.ensures.on_rail.1) in
    let bay : c.task.result.bay ≡ bay_of c.args.self.now.journal.now.dispatch.inst c.loop-j.j =
    ap (λ (t : Task). t.bay) c.task.ensures.task ∙ ap (λ (i : InstanceView). bay_of i c.loop-j.j) c.instance-inst.ensures in
    rw (to_z-of_z w64 r (search rules)) (lower_more (view_of c.args.self.now) (place_at c.args.tops.now) c.args.k c.loop-j.j _ r c.off-off.result c.off-off.ensures.off
    (λ z. rw (read, bay) at (c.raised-lower.ensures z)) c.loop-j.invariant)

pub returns : goal.returns
returns c =
    let o = view_of c.args.self.now in
    let tops = place_at c.args.tops.now in
    let k = c.args.k in
    let is = lower_all o tops k c.loop-j.j _
    (omega (arith, c.loop-j-test.false, c.task_count-j-end.ensures.count, ap (λ (i : InstanceView). length i.tasks) c.instance-inst.ensures)) c.loop-j.invariant in
    let range = top_range c.requires.known c.requires.tops k (omega arith) c.requires.crane in
    record { lower = is; near = lower_near o tops k _ c.requires.known.known.valid (c.requires.known.limited.rail k) range.0 is }
