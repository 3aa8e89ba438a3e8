use Rattle.std.proofs.Common.{◌≡◌, ◌≤◌, ◌<◌, ◌-◌, true, vec_len}
use Rattle.std.specs.Io.KnownBytes.{prepend_known}
use Rattle.qc_io.specs.Outside.{file_at, IsMissing}
use Rattle.qc_io.specs.Reads.{Reads}
use Rattle.qc_io.proofs.reading.read_all.Given as goal

abbrev pub invariant-loop-block : goal.invariant-loop-block
invariant-loop-block g l = record {
  opened : (g.S.Sink.view l.shelf).reading ≡ true;
  within : vec_len l.bytes ≤ l.limit;
  room : 0 < vec_len l.block;
  whole : prepend_known l.bytes.items (g.S.Sink.view l.shelf).rest ≡ file_at (g.S.Sink.view l.fn.shelf).files l.name;
  held : IsMissing (g.S.Sink.view l.fn.shelf).files l.name → ⊥;
  reads : Reads (g.S.Sink.view l.fn.shelf) (g.S.Sink.view l.shelf) (Unit {0});
}

abbrev pub decreases-loop-block : goal.decreases-loop-block
decreases-loop-block g l = l.limit - vec_len l.bytes
