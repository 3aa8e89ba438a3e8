use Rattle.std.proofs.Common.{◌≡◌, ◌-◌, ◌*◌, pos, ◌+ℤ◌, ◌∙◌, ap, arith}
use Rattle.std.proofs.lemmas.Bool.{lt-ltb, le-ltb}
use Rattle.qc_model.specs.Bays.{bays_up}
use Rattle.qc_model.proofs.Bays.{bays}
use Rattle.qc_model.proofs.ticks.distance.Goals.{then-v-w, else-v-w+then-w-v, else-v-w+else-w-v}
use Rattle.qc_model.proofs.ticks.distance.Goals as goal

pub returns-clause-ticks : goal.returns-clause-ticks
returns-clause-ticks c =
    let a = c.args in
    elim c.if-v-w.branch [
      | then-v-w w ↦
          let e : c.if-v-w.bays ≡ bays_up a.y (a.x +ℤ pos (a.inst.now.gap * (a.w - a.v))) = omega (arith, bays) in
          rw (lt-ltb a.v a.w w.if-v-w.true) (c.travel_over.ensures.ticks ∙ ap (λ b. a.inst.now.travel * b) e)
      | else-v-w+then-w-v w ↦
          let e : c.if-v-w.bays ≡ bays_up a.x (a.y +ℤ pos (a.inst.now.gap * (a.v - a.w))) = omega (arith, bays) in
          rw (le-ltb a.v a.w w.if-v-w.false, lt-ltb a.w a.v w.if-w-v.true) (c.travel_over.ensures.ticks ∙ ap (λ b. a.inst.now.travel * b) e)
      | else-v-w+else-w-v w ↦
          rw (le-ltb a.v a.w w.if-v-w.false, le-ltb a.w a.v w.if-w-v.false) (c.travel_over.ensures.ticks ∙ ap (λ b. a.inst.now.travel * b) w.bays-is)
    ]
