use Rattle.std.proofs.Common.{◌≡◌, ◌≤◌, ◌-◌, take, length}
use Rattle.std.specs.Io.KnownBytes.{append_known}
use Rattle.qc_io.specs.Outside.{beside}
use Rattle.qc_io.proofs.writing.put_all.Given as goal

abbrev pub invariant-loop-done : goal.invariant-loop-done
invariant-loop-done g l = record {
  in_range : l.done ≤ length l.piece;
  grew : (g.K.Sink.view l.sink).written ≡ append_known (g.K.Sink.view l.fn.sink).written (take l.done l.piece);
  beside_stays : beside (g.K.Sink.view l.sink) ≡ beside (g.K.Sink.view l.fn.sink);
  unfailed : (g.K.Sink.view l.sink).faults ≡ (g.K.Sink.view l.fn.sink).faults;
  empty_stays : length l.piece ≡ 0 → l.sink ≡ l.fn.sink;
}

abbrev pub decreases-loop-done : goal.decreases-loop-done
decreases-loop-done g l = length l.piece - l.done
