use Rattle.std.proofs.Common.{◌≡◌, ◌*◌}
use Rattle.qc_make.specs.Draws.{state_after}
use Rattle.qc_make.specs.MadeList.{list_text}
use Rattle.qc_make.proofs.list.list_text.Given as goal

abbrev pub invariant-loop-k : goal.invariant-loop-k
invariant-loop-k l = (l.text.items ≡ list_text l.fn.number l.k) × (l.state ≡ state_after l.fn.number (4 * l.k))
