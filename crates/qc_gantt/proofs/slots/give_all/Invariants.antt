use Rattle.std.proofs.Common.{drop, map}
use Rattle.csv.specs.Records.{fields_of}
use Rattle.qc_gantt.proofs.EntryLemmas.{SoFar}
use Rattle.qc_gantt.proofs.slots.give_all.Given as goal

abbrev pub invariant-loop-at : goal.invariant-loop-at
invariant-loop-at l = SoFar l.inst (map fields_of l.records) (map fields_of (drop l.at l.records)) l.slots l.at
