use Rattle.std.proofs.Common.{◌≡◌, ◌+◌, ◌≤◌, Ok, true}
use Rattle.std.specs.Prelude.{⊤}
use Rattle.std.specs.Io.KnownBytes.{prepend_known}
use Rattle.qc_io.specs.Reads.{ReadsOn}
use Rattle.qc_num.specs.Paths.{HasRoom}
use Rattle.qc_replay.specs.declared.fault.ReplayError.{ReplayError}
use Rattle.qc_replay.specs.declared.fault.ReplayError.TheVariants.{ReadFault}
use Rattle.qc_replay.specs.File.{Leads}
use Rattle.qc_replay.specs.Stages.{lines_left}
use Rattle.qc_replay.proofs.tree_file.read_lines.Given as goal

abbrev pub invariant-loop-walk : goal.invariant-loop-walk
invariant-loop-walk g l = record {
  inst : l.walk.inst ≡ l.fn.walk.inst;
  reading : (g.S.Sink.view l.shelf).reading ≡ true;
  room : HasRoom 240 l.lines.path;
  few : l.lines.number + lines_left l.walk.reading ≤ 8000007;
  read : Leads l.fn.walk.inst 1 l.fn.walk.reading
      (prepend_known l.fn.lines.reader (g.S.Sink.view l.fn.shelf).rest) l.lines.number l.walk.reading
      (prepend_known l.lines.reader (g.S.Sink.view l.shelf).rest);
  reads : ReadsOn {A = ⊤} {E = ReplayError} (g.S.Sink.view l.fn.shelf) (g.S.Sink.view l.shelf) ReadFault (Ok tt);
}

abbrev pub decreases-loop-walk : goal.decreases-loop-walk
decreases-loop-walk g l = lines_left l.walk.reading
