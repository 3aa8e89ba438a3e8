use Rattle.std.proofs.Common.{refl, rules, subst, IfOk}
use Rattle.qc_replay.specs.File.{Fails, IsReadThrough}
use Rattle.qc_replay.specs.Walk.{start}
use Rattle.qc_replay.specs.declared.fault.ReplayError.TheVariants.{OutOfMemory, ReadFault}
use Rattle.qc_io.proofs.ReadsLemmas.{never_failed, reads_then, reads_when}
use Rattle.qc_replay.proofs.FileFacts.{error_through, handed}
use Rattle.qc_replay.proofs.tree_file.read_file.Goals as goal

pub returns-in_err-lines-clause-file : goal.returns-in_err-lines-clause-file
returns-in_err-lines-clause-file g c =
    let why = c.in_err-lines.field-0.0 in
    let result = c.from_residual.result in
    let same = handed result why c.from_residual.ensures.1 in
    record {
      missing = λ none ample. error_through _ result why ReadFault refl same
          (c.in_err-lines.ensures.missing none (λ is. ample (error_through _ result why OutOfMemory refl same is)));
      read_fault = λ is. c.in_err-lines.ensures.read_fault (error_through result _ why ReadFault same refl is);
      reads = reads_when (g.S.Sink.view c.args.shelf.now) (g.S.Sink.view c.open.new.shelf) c.in_err-lines.ensures.reads
          (λ no is. no (error_through _ result why ReadFault refl same is));
      last = search rules;
    }

pub returns-clause-file : goal.returns-clause-file
returns-clause-file g c = record {
  missing = search rules;
  read_fault = search rules;
  reads = reads_then (g.S.Sink.view c.args.shelf.now) (g.S.Sink.view c.open.new.shelf) (g.S.Sink.view c.read_lines.new.shelf)
      c.in_ok-lines.ensures.reads (never_failed c.in_ok-lines.lines ReadFault) c.read_lines.ensures.reads.reads;
  last = c.read_lines.ensures.last;
}

pub returns-clause-read : goal.returns-clause-read
returns-clause-read g c =
    subst (λ file. IfOk c.read_lines.result (IsReadThrough c.args.walk.now.inst file)) c.in_ok-lines.ensures.whole
    c.read_lines.ensures.read

pub returns-clause-fault : goal.returns-clause-fault
returns-clause-fault g c = λ fault is.
    let inst = c.args.walk.now.inst in
    subst (λ file. Fails inst 1 (start inst) file fault) c.in_ok-lines.ensures.whole (c.read_lines.ensures.fault fault is)
