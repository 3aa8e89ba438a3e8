use Rattle.std.proofs.lemmas.Bool.{iff_false}
use Rattle.qc_rest.proofs.PassLemmas.{soonest_found, soonest_stays}
use Rattle.qc_rest.proofs.pass.soonest.Goals as goal
use Rattle.qc_rest.proofs.pass.soonest.Goals.{then-is_sooner, else-is_sooner}

pub loop-j-preserved : goal.loop-j-preserved
loop-j-preserved c = elim c.if-is_sooner.branch [
  | then-is_sooner w ↦
      let is = c.is_sooner.ensures.0 w.if-is_sooner.true in
      rw w.found-is (soonest_found c.args.slots.now c.args.left.now c.loop-j.j c.loop-j.found c.loop-j.invariant is.0 is.1)
  | else-is_sooner w ↦
      rw w.found-is (soonest_stays c.args.slots.now c.args.left.now c.loop-j.j c.loop-j.found c.loop-j.invariant (iff_false c.is_sooner.ensures w.if-is_sooner.false))
]
