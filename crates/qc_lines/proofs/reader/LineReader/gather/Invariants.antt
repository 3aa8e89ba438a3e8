use Rattle.std.proofs.Common.{◌≡◌, ◌==◌, ◌-◌, length, position, true}
use Rattle.std.specs.Prelude.{⊤}
use Rattle.std.specs.Io.KnownBytes.{prepend_known}
use Rattle.qc_io.specs.Reads.{Reads}
use Rattle.qc_lines.proofs.reader.LineReader.gather.Given as goal

abbrev pub invariant-loop-self : goal.invariant-loop-self
invariant-loop-self g l = record {
  found : l.found ≡ position (λ b. b == 10) l.self;
  left : prepend_known l.self (g.S.Sink.view l.shelf).rest ≡ prepend_known l.fn.self (g.S.Sink.view l.fn.shelf).rest;
  reading : (g.S.Sink.view l.shelf).reading ≡ true;
  reads : Reads (g.S.Sink.view l.fn.shelf) (g.S.Sink.view l.shelf) ⊤;
}

abbrev pub decreases-loop-self : goal.decreases-loop-self
decreases-loop-self g l = g.row.MOST - length l.self
