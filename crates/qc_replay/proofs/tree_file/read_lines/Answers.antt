use Rattle.std.proofs.Common.{◌∙◌, ◌≤◌, ap, arith, Err, length, rules, subst, sym}
use Rattle.std.specs.Io.KnownBytes.{prepend_known}
use Rattle.qc_close.specs.Model.{InstanceView, most_cranes}
use Rattle.qc_replay.specs.declared.fault.ReplayError.TheVariants.{ReadFault}
use Rattle.qc_replay.specs.File.{Fails, Leads}
use Rattle.qc_replay.specs.Walk.{Reading}
use Rattle.qc_io.proofs.ReadsLemmas.{reads_on}
use Rattle.qc_replay.proofs.LinesLeft.{fewer_left}
use Rattle.qc_replay.proofs.StepFacts.{fails_after, leads_after, over_now}
use Rattle.qc_replay.proofs.TreeFacts.{behind_fails}
use Rattle.qc_replay.proofs.tree_file.read_lines.Goals as goal

pub returns-in_err-read_line-clause-fault : goal.returns-in_err-read_line-clause-fault
returns-in_err-read_line-clause-fault g c = λ fault is.
    let e = rw is at c.from_residual.ensures.1 in
    let inst = c.args.walk.now.inst in
    let before = prepend_known c.args.lines.now.reader (g.S.Sink.view c.args.shelf.now).rest in
    let here = prepend_known c.loop-walk.lines.reader (g.S.Sink.view c.loop-walk.shelf).rest in
    let told = (c.in_err-read_line.ensures.fault fault (ap Err (sym e))).1 in
    subst (λ (r : Reading). Fails inst 1 r before fault) c.requires.start
    (fails_after inst 1 c.loop-walk.lines.number c.args.walk.now.reading c.loop-walk.walk.reading before here
    c.loop-walk.invariant.read fault
    (subst (λ (i : InstanceView). Fails i c.loop-walk.lines.number c.loop-walk.walk.reading here fault) c.loop-walk.invariant.inst told))

pub returns-in_err-read_line-clause-last : goal.returns-in_err-read_line-clause-last
returns-in_err-read_line-clause-last g c = λ fault is.
    let e = rw is at c.from_residual.ensures.1 in
    omega (arith, (c.in_err-read_line.ensures.fault fault (ap Err (sym e))).0, c.loop-walk.invariant.few)

pub loop-walk-preserved : goal.loop-walk-preserved
loop-walk-preserved g c =
    let inst = c.args.walk.now.inst in
    let before = prepend_known c.args.lines.now.reader (g.S.Sink.view c.args.shelf.now).rest in
    let here = prepend_known c.loop-walk.lines.reader (g.S.Sink.view c.loop-walk.shelf).rest in
    let after = prepend_known c.read_line.new.lines.reader (g.S.Sink.view c.read_line.new.shelf).rest in
    let one = c.in_ok-read_line.ensures.one in
    record {
      inst = c.read_line.ensures.inst ∙ c.loop-walk.invariant.inst;
      reading = c.in_ok-read_line.ensures.reads.reading;
      room = c.in_ok-read_line.ensures.room_stays;
      few = omega (
        arith,
        c.in_ok-read_line.ensures.number,
        c.loop-walk.invariant.few,
        fewer_left c.loop-walk.walk.inst
            (subst (λ (i : InstanceView). length i.cranes ≤ most_cranes) (sym c.loop-walk.invariant.inst) c.requires.valid.cranes.count.1)
            c.loop-walk.walk.reading c.read_line.new.walk.reading one.0 one.1,
      );
      read = leads_after inst 1 c.loop-walk.lines.number c.args.walk.now.reading c.loop-walk.walk.reading before here
          c.loop-walk.invariant.read c.read_line.new.lines.number c.read_line.new.walk.reading after
          (subst (λ (i : InstanceView). Leads i c.loop-walk.lines.number c.loop-walk.walk.reading here c.read_line.new.lines.number c.read_line.new.walk.reading after)
          c.loop-walk.invariant.inst c.in_ok-read_line.ensures.read);
      reads = reads_on ReadFault tt _ _ _ _ c.loop-walk.invariant.reads c.in_ok-read_line.ensures.reads;
    }

pub returns-in_err-end-clause-fault : goal.returns-in_err-end-clause-fault
returns-in_err-end-clause-fault g c = λ fault is.
    let e = rw is at c.from_residual-in_err-end.ensures.1 in
    let inst = c.args.walk.now.inst in
    let before = prepend_known c.args.lines.now.reader (g.S.Sink.view c.args.shelf.now).rest in
    let here = prepend_known c.loop-walk.lines.reader (g.S.Sink.view c.loop-walk.shelf).rest in
    subst (λ (r : Reading). Fails inst 1 r before fault) c.requires.start
    (fails_after inst 1 c.loop-walk.lines.number c.args.walk.now.reading c.loop-walk.walk.reading before here
    c.loop-walk.invariant.read fault
    (behind_fails inst c.loop-walk.lines.number c.loop-walk.walk.reading here fault
    (over_now c.loop-walk.walk.reading (search rules)) (c.in_err-end.ensures.fault fault (ap Err (sym e)))))

pub returns-clause-read : goal.returns-clause-read
returns-clause-read g c =
    let inst = c.args.walk.now.inst in
    let before = prepend_known c.args.lines.now.reader (g.S.Sink.view c.args.shelf.now).rest in
    let here = prepend_known c.loop-walk.lines.reader (g.S.Sink.view c.loop-walk.shelf).rest in
    record {
      number = c.loop-walk.lines.number;
      last = c.loop-walk.walk.reading;
      rest = here;
      leads = subst (λ (r : Reading). Leads inst 1 r before c.loop-walk.lines.number c.loop-walk.walk.reading here) c.requires.start
          c.loop-walk.invariant.read;
      over = over_now c.loop-walk.walk.reading (search rules);
      same = c.shown.ensures;
      all = c.in_ok-end.ensures.ended;
    }

pub loop-walk-smaller : goal.loop-walk-smaller
loop-walk-smaller g c =
    let one = c.in_ok-read_line.ensures.one in
    fewer_left c.loop-walk.walk.inst
    (subst (λ (i : InstanceView). length i.cranes ≤ most_cranes) (sym c.loop-walk.invariant.inst) c.requires.valid.cranes.count.1)
    c.loop-walk.walk.reading c.read_line.new.walk.reading one.0 one.1
