use Rattle.std.proofs.Common.{◌≡◌, ◌*◌, Option, Some, IfSome, eqb, of_z, to_z, w32, ap, sym, subst, ◌∙◌, arith, rules}
use Rattle.std.proofs.lemmas.Bool.{cond-false, ne_eqb}
use Rattle.std.proofs.lemmas.Int.{ints}
use Rattle.qc_close.specs.Model.{Frame, MOST_TASKS, bays_up}
use Rattle.qc_close.specs.Bars.{done_by, done_with}
use Rattle.qc_close.specs.Owns.{IsSmall}
use Rattle.qc_close.specs.declared.frames.Own.{Own}
use Rattle.qc_close.proofs.barred.both_done.Goals as goal

pub returns-in-Some : goal.returns-in-Some
returns-in-Some c =
    let inst = c.args.inst.now in
    let bars = c.args.bars in
    let o = c.in-Some.own in
    let small = subst (λ (l : Option Own). IfSome l (IsSmall MOST_TASKS)) c.in-Some.is c.requires.own in
    let low : to_z w32 (of_z w32 o.low) ≡ o.low = omega (arith, ints, small.low.0, small.low.1) in
    let high : to_z w32 (of_z w32 o.high) ≡ o.high = omega (arith, ints, small.high.0, small.high.1) in
    let bays = c.bays_up.ensures ∙ ap (λ x. bays_up x (to_z w32 (of_z w32 o.high))) low ∙ ap (bays_up o.low) high in
    omega (
      arith,
      c.min.ensures,
      ap (λ (f : Frame). f.gone) c.spent_by.ensures.frame,
      c.travel_over-way.ensures.ticks,
      ap (λ n. inst.travel * n) bays,
    )
    ∙ sym (ap (λ (l : Option Own). done_by inst c.args.turn c.args.crane l bars) c.in-Some.is
    ∙ cond-false (eqb bars.ticks 0) 0 (done_with inst c.args.turn c.args.crane (Some o) bars) (ne_eqb bars.ticks 0 c.if-bars-eq0.false))

pub travel_over-way-requires : goal.travel_over-way-requires
travel_over-way-requires c = search rules

pub returns-in-None : goal.returns-in-None
returns-in-None c = search rules

pub returns-then-bars-eq0 : goal.returns-then-bars-eq0
returns-then-bars-eq0 c = search rules
