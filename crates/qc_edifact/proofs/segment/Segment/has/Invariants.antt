use Rattle.std.proofs.Common.{◌≡◌}
use Rattle.std.specs.Str.{bytes_eq}
use Rattle.qc_edifact.specs.Cuts.{part_of}
use Rattle.qc_edifact.proofs.segment.Segment.has.Given as goal

-- the bytes so far are the same
abbrev pub invariant-loop-byte : goal.invariant-loop-byte
invariant-loop-byte l = bytes_eq (part_of l.self l.element l.component) l.text ≡ bytes_eq l.byte-iterator l.rest
