use Rattle.std.proofs.Common.{◌≡◌, take, drop, false}
use Rattle.qc_edifact.specs.Cuts.{cut}
use Rattle.qc_edifact.proofs.CutLemmas.{onto_front}
use Rattle.qc_edifact.proofs.signs.Signs.split.Given as goal

-- none of the bytes so far cuts
abbrev pub invariant-loop-at : goal.invariant-loop-at
invariant-loop-at l = cut l.self l.sign false l.text ≡ onto_front (take l.at l.text) (cut l.self l.sign l.taken (drop l.at l.text))
