use Rattle.std.proofs.Common.{ℕ, sym, subst, ◌∙◌, arith}
use Rattle.std.proofs.lemmas.Int.{ints}
use Rattle.qc_close.specs.Bands.{IsBandOf}
use Rattle.qc_close.proofs.BandLemmas.{band_skips, band_step}
use Rattle.qc_close.proofs.crew.Crew.band.Goals.{then-may, else-may}
use Rattle.qc_close.proofs.crew.Crew.band.Goals as goal

pub loop-task-preserved : goal.loop-task-preserved
loop-task-preserved c =
    let inst = c.args.self.now.inst in
    let cranes = c.args.self.now.cranes in
    let tasks = c.args.tasks.now in
    let n = c.loop-task.task-index in
    elim c.if-may.branch [
      | then-may w ↦
          let near = w.place.ensures.near in
          rw w.band-is
          (band_step inst cranes tasks c.args.crane n c.loop-task.band w.place.result c.loop-task.invariant
          (sym c.may.ensures ∙ w.if-may.true) w.place.ensures.place near w.widened.result _ w.widened.ensures
          (omega (arith, ints, near.0, near.1)))
      | else-may w ↦
          rw w.band-is
          (band_skips inst cranes tasks c.args.crane n c.loop-task.band c.loop-task.invariant (sym c.may.ensures ∙ w.if-may.false))
    ]

pub returns : goal.returns
returns c =
    subst (λ (n : ℕ). IsBandOf c.args.self.now.inst c.args.self.now.cranes c.args.tasks.now c.args.crane n c.loop-task.band)
    (omega (arith, c.loop-task-test.false, c.loop-task.auto.task-index-end)) c.loop-task.invariant
