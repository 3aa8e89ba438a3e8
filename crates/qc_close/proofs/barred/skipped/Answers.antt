use Rattle.std.proofs.Common.{◌≡◌, ℤ, of_z, to_z, w32, sym, subst, ◌∙◌, arith}
use Rattle.std.proofs.lemmas.Int.{ints}
use Rattle.qc_model.specs.declared.direction.Direction.{Direction}
use Rattle.qc_close.specs.Bars.{IsIdle, high_spot, least_high, low_spot, most_low}
use Rattle.qc_close.specs.Spots.{IsCount, spot_bay}
use Rattle.qc_close.proofs.PlaceLemmas.{skip_down, skip_up}
use Rattle.qc_close.proofs.barred.skipped.Goals as goal

pub returns-in-Up-clause-none : goal.returns-in-Up-clause-none
returns-in-Up-clause-none c = λ steps less.
    let bays = c.args.spots.now.bays.items in
    let p = c.args.place in
    let n = c.spots_before-before.result in
    let near = c.least_high.ensures.near in
    let bay : to_z w32 (of_z w32 c.least_high.result) ≡ c.least_high.result = omega (arith, ints, near.0, near.1) in
    subst (λ (way : Direction). IsIdle way p (spot_bay bays (low_spot way p steps)) (spot_bay bays (high_spot way p steps)))
    (sym c.in-Up.is)
    (skip_up bays p (least_high p) n
    (subst (λ (y : ℤ). IsCount bays y n) (bay ∙ c.least_high.ensures.bay) c.spots_before-before.ensures)
    steps (omega (arith, less, c.min.ensures, c.saturating_sub.ensures)))

pub returns-in-Down-clause-none : goal.returns-in-Down-clause-none
returns-in-Down-clause-none c = λ steps less.
    let bays = c.args.spots.now.bays.items in
    let p = c.args.place in
    let n = c.spots_before-before-in-Down.result in
    let near = c.most_low.ensures.near in
    let bay : to_z w32 (of_z w32 c.most_low.result) ≡ c.most_low.result = omega (arith, ints, near.0, near.1) in
    subst (λ (way : Direction). IsIdle way p (spot_bay bays (low_spot way p steps)) (spot_bay bays (high_spot way p steps)))
    (sym c.in-Down.is)
    (skip_down bays c.requires.rising p c.requires.within (most_low p) n
    (subst (λ (y : ℤ). IsCount bays y n) (bay ∙ c.most_low.ensures.bay) c.spots_before-before-in-Down.ensures)
    steps (omega (arith, less, c.min-in-Down.ensures, c.saturating_sub-in-Down.ensures)))
