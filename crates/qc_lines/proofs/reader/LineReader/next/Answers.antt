use Rattle.std.proofs.Common.{◌≡◌, ◌+◌, ◌<◌, ◌-◌, take, drop, ap, arith, length, refl, subst, sym, ◌∙◌}
use Rattle.std.proofs.lemmas.List.{length-take}
use Rattle.std.specs.Io.KnownBytes.{prepend_known}
use Rattle.qc_lines.specs.Left.{HoldsLine, Takes}
use Rattle.qc_io.proofs.ReadsLemmas.{reads_when}
use Rattle.qc_lines.proofs.Feeds.{no_err, takes, window_front, window_rest}
use Rattle.qc_lines.proofs.reader.LineReader.next.Goals as goal

pub returns : goal.returns
returns g c =
    let found = c.in_ok-len.ensures in
    let items = c.self.inside.bytes.items in
    let start = c.self.inside.start in
    let end = c.self.inside.end in
    let len = c.in-Some.len in
    let held = c.find.new.self in
    let rest = (g.S.Sink.view c.find.new.shelf).rest in
    let before = prepend_known c.args.self.now (g.S.Sink.view c.args.shelf.now).rest in
    let holds : HoldsLine g.row.MOST held len = rw c.in-Some.is at found.line in
    let fits : len < end - start = omega (arith, holds.inside, ap length c.self.view_is, length-take (end - start) (drop start items)) in
    let line : take (start + len - start) (drop start c.as_slice.result.now) ≡ take len held =
    ap (λ xs. take (start + len - start) (drop start xs)) c.as_slice.ensures.value
    ∙ window_front items start end len (omega (arith, fits)) ∙ ap (take len) c.self.view_is in
    let left : take (end - (start + (len + 1))) (drop (start + (len + 1)) items) ≡ drop (len + 1) held =
    window_rest items start end len c.self.invariant.0 fits ∙ ap (drop (len + 1)) c.self.view_is in (
      (
        refl,
        λ _. tt,
        subst (λ l. Takes g.row.MOST before l (prepend_known (take (end - (start + (len + 1))) (drop (start + (len + 1)) items)) rest)) (sym line)
            (subst (λ l. Takes g.row.MOST before (take len held) (prepend_known l rest)) (sym left) (takes g.row.MOST held len before rest holds (sym found.left))),
      ),
      record {
        left = tt;
        ended = tt;
        too_long = λ e. absurd (no_err e);
        cut = λ e. absurd (no_err e);
        reads = record { reads = reads_when (g.S.Sink.view c.args.shelf.now) (g.S.Sink.view c.find.new.shelf) found.reads.reads (λ _. no_err); reading = found.reads.reading; rose = λ e. absurd (no_err e) };
      },
    )
