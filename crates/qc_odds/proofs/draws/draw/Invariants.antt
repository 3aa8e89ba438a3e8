use Rattle.std.proofs.Common.{◌≡◌, ◌+◌, take}
use Rattle.std.specs.List.{fold}
use Rattle.qc_odds.specs.Draws.{mix, with_byte}
use Rattle.qc_odds.proofs.draws.draw.Given as goal

abbrev pub invariant-loop-byte : goal.invariant-loop-byte
invariant-loop-byte l = l.x ≡ fold with_byte (mix (mix l.seed + l.run)) (take l.byte-index l.text)
