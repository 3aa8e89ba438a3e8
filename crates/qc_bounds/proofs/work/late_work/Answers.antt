use Rattle.std.proofs.Common.{◌≡◌, ◌≤◌, false, sym, subst, ◌∙◌, arith}
use Rattle.qc_num.specs.Bounds.{IsAtMost}
use Rattle.qc_num.specs.declared.bound.Bound.{Bound}
use Rattle.qc_num.specs.declared.bound.Bound.TheVariants.{Least}
use Rattle.qc_close.specs.Model.{MOST_START, is_closed, IsWorkLate}
use Rattle.qc_bounds.specs.Work.{IsWorkShown}
use Rattle.qc_bounds.proofs.WorkLemmas.{some_end, work_early, work_is}
use Rattle.qc_bounds.proofs.work.late_work.Goals as goal
use Rattle.qc_bounds.proofs.work.late_work.Goals.{else-end-le-MOST_START-via-then-end-le-MOST_START+else-closed, else-end-le-MOST_START-via-else-end-le-MOST_START}

pub returns-then-closed : goal.returns-then-closed
returns-then-closed c = λ inst ds of.
    let crew = c.args.crew.now in
    let end = c.in-Least.end in
    let some = some_end end (subst (λ (b : Bound). ¬ IsAtMost b (Least 0)) c.in-Least.is c.requires) in
    subst (λ (b : Bound). IsWorkShown inst ds b end) (sym c.in-Least.is)
    (work_is crew inst ds of end some c.if-end-le-MOST_START.true (sym c.closed.ensures.closed ∙ c.if-closed.true))

pub returns-else-end-le-MOST_START : goal.returns-else-end-le-MOST_START
returns-else-end-le-MOST_START c = λ inst ds of late.
    let crew = c.args.crew.now in
    let end = c.in-Least.end in
    let some = some_end end (subst (λ (b : Bound). ¬ IsAtMost b (Least 0)) c.in-Least.is c.requires) in
    let none : end ≤ MOST_START → is_closed crew.inst crew.turn crew.cranes end ≡ false =
    elim c.else-end-le-MOST_START.branch [
      | else-end-le-MOST_START-via-then-end-le-MOST_START+else-closed w ↦ λ _. sym w.closed.ensures.closed ∙ w.if-closed.false
      | else-end-le-MOST_START-via-else-end-le-MOST_START w ↦ λ soon. absurd (omega (arith, soon, w.if-end-le-MOST_START.false))
    ] in
    work_early crew inst ds of end c.instance-inst.ensures.valid c.instance-inst.ensures.range some none
    (subst (λ (b : Bound). IsWorkLate inst ds b) c.in-Least.is late)
