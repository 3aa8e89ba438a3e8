use Rattle.std.proofs.Common.{◌≡◌, ◌<◌, true, false}
use Rattle.qc_tasks.specs.Marks.{AreReached, unmarked}
use Rattle.qc_tasks.proofs.MarkLemmas.{AreFront}
use Rattle.qc_tasks.proofs.rings.spread.Given as goal

abbrev pub invariant-loop-pair : goal.invariant-loop-pair
invariant-loop-pair l = record {
  reached : AreReached l.pairs l.from l.initial.marks → AreReached l.pairs l.from l.marks;
  still : l.more ≡ false → AreFront l.pair-index l.pairs l.from l.marks;
  same : l.more ≡ false → l.marks ≡ l.initial.marks;
  fewer : l.more ≡ true → unmarked l.marks < unmarked l.initial.marks;
}
