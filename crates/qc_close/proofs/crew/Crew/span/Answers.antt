use Rattle.std.proofs.Common.{None, length}
use Rattle.qc_close.proofs.BandLemmas.{found_through, span_step}
use Rattle.qc_close.proofs.crew.Crew.span.Goals as goal

pub loop-index-preserved : goal.loop-index-preserved
loop-index-preserved c =
    let inst = c.args.self.now.inst in
    let cranes = c.args.self.now.cranes in
    let tasks = c.args.tasks.now in
    record {
      finding =
          found_through inst cranes tasks None c.loop-index.least c.closest-least.result c.loop-index.invariant.finding
          c.closest-least.ensures.finding;
      found =
          span_step inst cranes tasks c.loop-index.index (length inst.cranes) c.loop-index.least c.closest-least.result
          c.loop-index.invariant.found c.closest-least.ensures.finding c.closest-least.ensures.found;
    }
