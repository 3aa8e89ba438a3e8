use Rattle.std.proofs.Common.{◌≡◌, map, drop}
use Rattle.qc_words.specs.Asked.{are_different}
use Rattle.qc_words.proofs.NameLemmas.{name_text}
use Rattle.qc_words.proofs.words.are_different.Given as goal

abbrev pub invariant-loop-at : goal.invariant-loop-at
invariant-loop-at l = are_different (map name_text l.names) ≡ are_different (map name_text (drop l.at l.names))
