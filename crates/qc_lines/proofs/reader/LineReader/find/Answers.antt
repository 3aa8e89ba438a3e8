use Rattle.std.proofs.Common.{◌≡◌, ◌-◌, Option, List, ℕ, ap, arith, length, subst, sym, ◌∙◌, IfSome}
use Rattle.qc_lines.specs.Left.{IsCut, IsTooLong}
use Rattle.qc_lines.proofs.Feeds.{cut_left, far_line, found_line, long_left, window_len}
use Rattle.qc_lines.proofs.reader.LineReader.find.Goals as goal

pub returns-then-len-clause-too_long : goal.returns-then-len-clause-too_long
returns-then-len-clause-too_long g c = λ _.
    subst (λ (left : Option (List ℕ)). IfSome left (IsTooLong g.row.MOST)) c.in_ok-len.ensures.left
    (far_line g.row.MOST c.gather.new.self (g.S.Sink.view c.gather.new.shelf).rest c.in-Some.len (sym c.in_ok-len.ensures.found ∙ c.in-Some.is) c.if-len.true)

pub returns-in-Some-clause-line : goal.returns-in-Some-clause-line
returns-in-Some-clause-line g c =
    found_line g.row.MOST c.gather.new.self c.in-Some.len (sym c.in_ok-len.ensures.found ∙ c.in-Some.is) c.if-len.false

pub returns-then-self-clause-too_long : goal.returns-then-self-clause-too_long
returns-then-self-clause-too_long g c = λ _.
    let held : length c.gather.new.self ≡ c.self.inside.end - c.self.inside.start =
    ap length (sym c.self.view_is) ∙ window_len c.self.inside.bytes.items c.self.inside.start c.self.inside.end c.self.invariant.0 (omega (arith, c.self.invariant.1)) in
    subst (λ (left : Option (List ℕ)). IfSome left (IsTooLong g.row.MOST)) c.in_ok-len.ensures.left
    (long_left g.row.MOST c.gather.new.self (sym c.in_ok-len.ensures.found ∙ c.in_default.is) (g.S.Sink.view c.gather.new.shelf).rest (omega (arith, held, c.if-self.true)))

pub returns-then-self-2-clause-cut : goal.returns-then-self-2-clause-cut
returns-then-self-2-clause-cut g c = λ _.
    let held : length c.gather.new.self ≡ c.self.inside.end - c.self.inside.start =
    ap length (sym c.self.view_is) ∙ window_len c.self.inside.bytes.items c.self.inside.start c.self.inside.end c.self.invariant.0 (omega (arith, c.self.invariant.1)) in
    subst (λ (left : Option (List ℕ)). IfSome left (IsCut g.row.MOST)) c.in_ok-len.ensures.left
    (cut_left g.row.MOST c.gather.new.self (sym c.in_ok-len.ensures.found ∙ c.in_default.is) (g.S.Sink.view c.gather.new.shelf).rest
    (omega (arith, held, c.if-self-2.true)) (omega (arith, held, c.if-self.false)) (rw c.in_default.is at c.in_ok-len.ensures.none))
