use Rattle.qc_changes.proofs.PlanLemmas.{tells_more}
use Rattle.qc_changes.proofs.plan.add_places.Goals as goal

pub loop-container-preserved : goal.loop-container-preserved
loop-container-preserved c = λ id.
    tells_more c.args.containers.now c.loop-container.container-index c.container-item.result c.loop-container-test.true c.container-item.is c.requires.ids id
    _ _ (c.loop-container.invariant id)
    (rw (c.as_bytes.ensures.bytes, c.place_of.ensures) at (c.in_ok-insert.ensures.updates.0 (record { ref_ptr = c.as_bytes.result.ref_ptr; now = id })))
