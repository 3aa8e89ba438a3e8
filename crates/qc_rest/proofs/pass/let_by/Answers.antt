use Rattle.std.proofs.Common.{◌≡◌, ℕ, false, slice_index_or, inl, inr, ap, arith}
use Rattle.std.proofs.lemmas.Bool.{cases_Bool}
use Rattle.qc_dispatch.specs.Marks.{mark}
use Rattle.qc_rest.proofs.pass.let_by.Goals as goal

pub bounds-marks-cell : goal.bounds-marks-cell
bounds-marks-cell c = omega (arith, c.cell.ensures, c.requires.marks.count, c.requires.first, c.requires.second, c.requires.few)

pub returns-in-Some-clause-moment : goal.returns-in-Some-clause-moment
returns-in-Some-clause-moment c =
    let at = ap (λ (k : ℕ). slice_index_or c.args.marks.now k false) c.cell.ensures in
    elim (cases_Bool (mark c.args.marks.now c.args.i c.args.j)) [
      | inr unmarked ↦ absurd (cc (c.if-not-marks-cell.false, at, unmarked))
      | inl marked ↦ λ moment. (
        λ le leads end e. let same : c.in-Some.end ≡ end = cc (c.in-Some.is, e) in omega (arith, le, same, c.gap.ensures.ticks),
        λ lets.
            let leads = (c.requires.marks.says c.args.i c.args.j c.requires.first c.requires.second).0 marked in
            let it = lets leads c.in-Some.end c.in-Some.is in
            omega (arith, it, c.gap.ensures.ticks),
      )
    ]
