use Rattle.qc_dist.proofs.ChildLemmas.{turned_first, turned_last}
use Rattle.qc_dist.proofs.children.turned.Goals as goal

pub returns-then-first-second : goal.returns-then-first-second
returns-then-first-second c = λ ds is_open. turned_first c.args.inst.now ds c.args.first c.args.second c.if-first-second.true is_open

pub returns-else-first-second : goal.returns-else-first-second
returns-else-first-second c = λ ds is_open. turned_last c.args.inst.now ds c.args.first c.args.second c.if-first-second.false
