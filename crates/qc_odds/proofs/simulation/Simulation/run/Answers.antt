use Rattle.std.proofs.Common.{ap, length, arith}
use Rattle.std.specs.Vec.{with_items}
use Rattle.std.proofs.lemmas.List.{with_items_is}
use Rattle.qc_odds.proofs.SimulatedLemmas.{simulated_next}
use Rattle.qc_odds.proofs.simulation.Simulation.run.Goals as goal

pub returns : goal.returns
returns c = λ inst plan room is.
    let lengths_count = ap length c.as_mut_slice.ensures.value in
    let marked_count = ap length c.as_mut_slice-2.ensures.value in
    simulated_next c.args.past.now inst plan c.args.seed c.args.number room c.args.self.now c.run-last.new.self
    (record { lengths = with_items c.args.self.now.lists.lengths c.lengths.new.lengths; marked = with_items c.args.self.now.lists.marked c.mark_critical.new.marked })
    c.add.new.self c.run-last.result c.lengths.new.lengths c.mark_critical.new.marked
    (with_items_is c.args.self.now.lists.lengths c.lengths.new.lengths (omega (arith, c.lengths.auto.lengths, lengths_count, c.args.self.now.lists.lengths.ok.0)))
    (with_items_is c.args.self.now.lists.marked c.mark_critical.new.marked (omega (arith, c.mark_critical.auto.marked, marked_count, c.args.self.now.lists.marked.ok.0)))
    is c.requires.number c.run-last.ensures.inst c.run-last.ensures.plan (rw c.instance.ensures at c.lengths.ensures.drawn)
    (rw c.instance.ensures at c.lengths.ensures.lengths) (rw c.as_slice.ensures.value at c.run-last.ensures.starts)
    (rw c.as_slice.ensures.value at c.run-last.ensures.end) c.run-last.ensures.soon (rw c.as_slice-2.ensures.value at c.mark_critical.ensures)
    (rw (c.as_slice-3.ensures.value, c.as_slice-4.ensures.value) at c.add.ensures)
