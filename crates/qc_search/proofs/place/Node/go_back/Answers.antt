use Rattle.std.proofs.Common.{◌≡◌, ℕ, ◌-◌, List, ◌∷◌, length, Option, Some, refl, sym, ap, subst, ◌∙◌}
use Rattle.qc_close.specs.Crews.{IsCrewOf}
use Rattle.qc_dist.specs.Node.{newest}
use Rattle.qc_close.specs.Model.{Decision, Assign, Fits}
use Rattle.qc_starts.specs.Seen.{first_of}
use Rattle.qc_close.proofs.DecidedCranes.{crew_some, crew_taken}
use Rattle.qc_search.proofs.PlaceLemmas.{newest_older, placed}
use Rattle.qc_search.proofs.place.Node.go_back.Goals as goal

-- the decisions are the newest one and those before it
older : (ds new : List Decision) (o : Option Decision) (d e : Decision) (mark : ℕ) → o ≡ newest ds → o ≡ Some d
    → mark ≡ length ds → new ≡ first_of (mark - 1) ds → d ≡ e → ds ≡ e ∷ new
older ds new o d e mark is was count back same =
    newest_older ds d mark (sym is ∙ was) count ∙ ap (λ (l : List Decision). d ∷ l) (sym back)
    ∙ ap (λ (x : Decision). x ∷ new) same

pub take-requires-clause-some : goal.take-requires-clause-some
take-requires-clause-some c =
    let inst = c.self.inside.starts.inst in
    let new = c.retract.new.self.decisions in
    let d = Assign c.in-Assign.task c.in-Assign.field-1 in
    let is = older c.self.inside.starts.decisions new c.newest.result c.in_ok-newest.newest d c.mark-mark.result
    c.newest.ensures c.in_ok-newest.was c.mark-mark.ensures c.retract.ensures.decisions c.in-Assign.is in
    let fits = subst (λ (ds : List Decision). Fits inst ds) is c.self.invariant.fits in
    crew_some inst new c.self.inside.crew c.in-Assign.task c.in-Assign.field-1
    (subst (λ (ds : List Decision). IsCrewOf c.self.inside.crew inst ds) is c.self.invariant.crew) fits.0

pub invariant_of-self : goal.invariant_of-self
invariant_of-self c =
    let inst = c.self.inside.starts.inst in
    let new = c.retract.new.self.decisions in
    let d = Assign c.in-Assign.task c.in-Assign.field-1 in
    let is = older c.self.inside.starts.decisions new c.newest.result c.in_ok-newest.newest d c.mark-mark.result
    c.newest.ensures c.in_ok-newest.was c.mark-mark.ensures c.retract.ensures.decisions c.in-Assign.is in
    let fits = subst (λ (ds : List Decision). Fits inst ds) is c.self.invariant.fits in
    let crew = subst (λ (ds : List Decision). IsCrewOf c.self.inside.crew inst ds) is c.self.invariant.crew in
    placed inst new c.retract.new.self c.take.new.self c.self.invariant.valid c.retract.ensures.inst refl fits.3
    (crew_taken inst new c.self.inside.crew c.take.new.self c.in-Assign.task c.in-Assign.field-1 crew fits.0 fits.2
    c.take.ensures)
