use Rattle.std.proofs.Common.{ap, arith, length, sym, ◌∙◌}
use Rattle.qc_tree.proofs.OneSpelling.{one_list, ring_only}
use Rattle.qc_tree.proofs.reading.read_ring.Goals as goal

pub returns-then-len-lt2-clause-reads : goal.returns-then-len-lt2-clause-reads
returns-then-len-lt2-clause-reads c = λ line list h.
    let only = ring_only c.args.rest.now list line h in
    let read = c.in_ok-read_tasks.ensures.ok in
    let one = one_list c.read_tasks.new.path.items list read.0.1 only.2.1 (sym read.1 ∙ only.3) in
    omega (arith, ap length one, only.1, c.len.ensures.value, c.if-len-lt2.true)
