use Rattle.std.proofs.Common.{◌≡◌, ◌-◌, ◌/◌, ◌∙◌, ◌+ℤ◌, ℕ, pos, FitsSigned, to_z, of_z, w32, w64, length, ap, rules, arith}
use Rattle.std.proofs.lemmas.Int.{ints, to_z-of_z}
use Rattle.qc_model.specs.declared.task.Task.{Task}
use Rattle.qc_model.specs.Instance.{InstanceView, bay_of}
use Rattle.qc_model.proofs.LimitsOf.{travel_of}
use Rattle.qc_rest.specs.Limits.{view_of}
use Rattle.qc_rest.specs.Places.{far_of}
use Rattle.qc_rest.specs.Stands.{stand_of}
use Rattle.qc_rest.proofs.PlacingLemmas.{upper_all, upper_first, upper_more}
use Rattle.qc_rest.proofs.places.Outlook.upper.Goals as goal

pub far-requires : goal.far-requires
far-requires c = omega (arith, c.travel.ensures.travel, (travel_of _ c.travel.ensures.valid).0)

pub loop-j-init : goal.loop-j-init
loop-j-init c =
    let o = view_of c.args.self.now in
    let k = c.args.k in
    let stand = stand_of c.args.self.now.stands.now k in
    let rail = c.requires.known.limited.rail k in
    let far : c.far.result ≡ far_of o k =
    c.far.ensures.bays ∙ ap (λ (n : ℕ). (n - stand.until) / c.travel.result) c.now-now.ensures.now
    ∙ ap (λ (t : ℕ). (c.args.self.now.journal.now.dispatch.clock - stand.until) / t) (c.travel.ensures.travel ∙ ap (λ (i : InstanceView). i.travel) c.instance-inst.ensures) in
    let read : to_z w64 (of_z w64 (to_z w64 (of_z w64 c.from.result) +ℤ to_z w64 c.far.result)) ≡ stand.bay +ℤ pos c.far.result =
    omega (arith, ints, c.from.ensures, rail.0, rail.1, c.far.ensures.bound, c.now-now.ensures.early) in
    upper_first o k _ (read ∙ ap (λ (n : ℕ). stand.bay +ℤ pos n) far)

pub loop-j-preserved : goal.loop-j-preserved
loop-j-preserved c =
    let o = view_of c.args.self.now in
    let r = c.lowered-upper.result in
    let f : FitsSigned w64 r = search rules in
    let kept : to_z w64 (of_z w64 r) ≡ r = to_z-of_z w64 r f in
    let read : to_z w32 (of_z w32 c.task.result.bay) ≡ c.task.result.bay = omega (arith, ints, c.task.ensures.on_rail.0, c.task.ensures.on_rail.1) in
    let bay : c.task.result.bay ≡ bay_of c.args.self.now.journal.now.dispatch.inst c.loop-j.j =
    ap (λ (t : Task). t.bay) c.task.ensures.task ∙ ap (λ (i : InstanceView). bay_of i c.loop-j.j) c.instance-inst.ensures in
    rw kept (upper_more o c.args.k c.loop-j.j _ r c.off-off.result c.off-off.ensures.off
    (λ z. rw (read, bay) at (c.lowered-upper.ensures z)) c.loop-j.invariant)

pub returns : goal.returns
returns c =
    upper_all (view_of c.args.self.now) c.args.k c.loop-j.j _
    (omega (arith, c.loop-j-test.false, c.task_count-j-end.ensures.count, ap (λ (i : InstanceView). length i.tasks) c.instance-inst.ensures)) c.loop-j.invariant
