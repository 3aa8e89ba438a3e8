use Rattle.qc_rest.proofs.MakingLemmas.{AreNumbersFor}
use Rattle.qc_rest.proofs.instance.numbers_of.Given as goal

abbrev pub invariant-loop-j : goal.invariant-loop-j
invariant-loop-j l = AreNumbersFor l.journal.dispatch l.j l.number l.numbers.items
