use Rattle.std.proofs.Common.{◌≡◌, ℕ, ℤ, ◌+◌, Option, ap, of_z, rules, sym, to_z, w32, ◌∙◌}
use Rattle.std.specs.Option.{option_map_or}
use Rattle.qc_rest_files.specs.ShipTable.{hatch_at}
use Rattle.qc_rest_files.proofs.cranes.hatch_at.Goals as goal

pub returns-in-Some-clause-hatch : goal.returns-in-Some-clause-hatch
returns-in-Some-clause-hatch c =
    let same : to_z w32 (of_z w32 c.args.place) ≡ c.args.place = search rules in
    ap (λ (o : Option ℕ). option_map_or (λ k. k + 1) o 0) (sym c.in-Some.is ∙ c.hatch_of.ensures.hatch) ∙ ap (λ (z : ℤ). hatch_at c.args.places.now z) same

pub returns-in-None-clause-hatch : goal.returns-in-None-clause-hatch
returns-in-None-clause-hatch c =
    let same : to_z w32 (of_z w32 c.args.place) ≡ c.args.place = search rules in
    ap (λ (o : Option ℕ). option_map_or (λ k. k + 1) o 0) (sym c.in-None.is ∙ c.hatch_of.ensures.hatch) ∙ ap (λ (z : ℤ). hatch_at c.args.places.now z) same
