use Rattle.std.proofs.Common.{arith}
use Rattle.qc_model.specs.Nodes.{berth_wait}
use Rattle.qc_dist.proofs.Ranges.{greatest_more}
use Rattle.qc_dist.proofs.travel.head.Goals as goal

pub loop-v-preserved : goal.loop-v-preserved
loop-v-preserved c = record {
  so_far = omega (arith, greatest_more (berth_wait c.args.inst.now c.args.j c.args.k) c.loop-v.v);
  bound = omega arith;
}
