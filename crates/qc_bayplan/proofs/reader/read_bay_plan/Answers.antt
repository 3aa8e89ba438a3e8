use Rattle.std.proofs.Common.{arith}
use Rattle.qc_bayplan.proofs.ReadingLemmas.{few-opened, plan-opened}
use Rattle.qc_bayplan.proofs.reader.read_bay_plan.Goals as goal

pub read_segments-requires : goal.read_segments-requires
read_segments-requires c =
    let few = few-opened c.args.text.now c.as_slice.result.now c.in-Ok.segments (rw c.as_slice.ensures c.in_ok-text.ensures.text) c.in-Ok.ensures in omega (arith, few)

pub returns-in-Ok : goal.returns-in-Ok
returns-in-Ok c =
    plan-opened c.args.text.now c.as_slice.result.now c.in-Ok.segments (rw c.as_slice.ensures c.in_ok-text.ensures.text) c.in-Ok.ensures
    c.args.which c.read_segments.result c.read_segments.ensures
