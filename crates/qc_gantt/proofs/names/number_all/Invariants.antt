use Rattle.std.proofs.Common.{map, take}
use Rattle.qc_gantt.proofs.NameLemmas.{Knows}
use Rattle.qc_gantt.proofs.names.number_all.Given as goal

abbrev pub invariant-loop-number : goal.invariant-loop-number
invariant-loop-number g l = Knows (take l.number (map g.N.Named.name_of l.items)) l.numbers.entries
