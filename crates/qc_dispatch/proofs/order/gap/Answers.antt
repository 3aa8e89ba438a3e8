use Rattle.std.proofs.Common.{arith}
use Rattle.qc_model.proofs.Bays.{bays}
use Rattle.qc_dispatch.proofs.order.gap.Goals as goal

pub travel_over-requires : goal.travel_over-requires
travel_over-requires c = omega (arith, bays, c.bays_between.ensures, c.task.ensures.on_rail, c.task-then-v-w.ensures.on_rail)
