use Rattle.std.proofs.Common.{◌≡◌, ◌+◌, ℤ, to_z, of_z, w64, sym, subst, ◌∙◌, arith}
use Rattle.std.proofs.lemmas.Bool.{true≢false}
use Rattle.std.proofs.lemmas.Int.{ints}
use Rattle.qc_motion.specs.Sweep.{IsAt, IsRun}
use Rattle.qc_motion.proofs.Rests.{berths_is, held_is}
use Rattle.qc_motion.proofs.sweep.Sweep.rest_end.Goals as goal

pub returns-then-is_held : goal.returns-then-is_held
returns-then-is_held c =
    let it = c.args.self.now in
    let m = c.args.at in
    let r = c.requires in
    let e : to_z w64 (of_z w64 c.args.place) ≡ c.args.place = omega (arith, ints) in
    subst (λ (p : ℤ). IsRun it m p c.args.end c.first_above-first.result) e
    (held_is it r.sound m _ (subst (IsAt it m) (sym e) r.place)
    (subst (IsAt it (m + 1)) (sym e) r.next) c.args.end _ r.at
    c.first_above-first.ensures (c.is_held.ensures.0 c.if-is_held.true))

pub returns-else-is_held : goal.returns-else-is_held
returns-else-is_held c =
    let it = c.args.self.now in
    let m = c.args.at in
    let r = c.requires in
    let e : to_z w64 (of_z w64 c.args.place) ≡ c.args.place = omega (arith, ints) in
    subst (λ (p : ℤ). IsRun it m p c.args.end c.min.result) e
    (berths_is it r.sound m _ (subst (IsAt it m) (sym e) r.place)
    (subst (IsAt it (m + 1)) (sym e) r.next) c.args.end _ r.at
    c.first_above-first.ensures (λ held. true≢false
    (sym (c.is_held.ensures.1 held) ∙ c.if-is_held.false)) _ c.last_berth.ensures _
    c.min.ensures)
