use Rattle.std.proofs.Common.{◌≡◌, ℕ, ◌+◌, ◌*◌, ◌≤◌, ap₂, subst, sym, ◌∙◌, arith}
use Rattle.std.proofs.lemmas.Nat.{mul-le}
use Rattle.qc_model.proofs.Bays.{bays}
use Rattle.qc_model.proofs.LimitsOf.{limits_of}
use Rattle.qc_starts.specs.Overlapping.{IsWide}
use Rattle.qc_starts.proofs.WideLemmas.{wide}
use Rattle.qc_starts.proofs.overlap.widest.Goals as goal

pub travel_over-requires : goal.travel_over-requires
travel_over-requires c =
    let limits = limits_of c.args.inst.now c.gap.ensures.valid in
    let gap = c.bays_up.ensures in
    let gap_is = c.gap.ensures.gap in
    let bays_are = c.bays_up-2.ensures in
    let is = c.bays.ensures.bays in
    let one : c.bays_up.result ≤ 2000 = omega (arith, bays, gap, gap_is, limits.gap.1) in
    let other : c.bays_up-2.result ≤ 6000 = omega (arith, bays, bays_are, is, limits.bays.1) in
    let gaps = mul-le c.bays_up.result c.from.result 2000 8 one (omega (arith, c.from.ensures)) in
    omega (arith, other, gaps)

pub returns-clause-wide : goal.returns-clause-wide
returns-clause-wide c =
    let inst = c.args.inst.now in
    let limits = limits_of inst c.gap.ensures.valid in
    let gap = c.bays_up.ensures in
    let gap_is = c.gap.ensures.gap in
    let bays_are = c.bays_up-2.ensures in
    let is = c.bays.ensures.bays in
    let one : c.bays_up.result ≡ inst.gap = omega (arith, bays, gap, gap_is, limits.gap.1) in
    let other : c.bays_up-2.result ≡ inst.bays = omega (arith, bays, bays_are, is, limits.bays.1) in
    let eight : c.from.result ≡ 8 = omega (arith, c.from.ensures) in
    let ticks = c.travel_over.ensures.ticks
    ∙ ap₂ (λ (a b : ℕ). inst.travel * (a + b)) other (ap₂ (λ (a b : ℕ). a * b) one eight) in
    subst (IsWide inst) (sym ticks) (wide inst c.gap.ensures.valid)
