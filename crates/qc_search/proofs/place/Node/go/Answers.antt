use Rattle.std.proofs.Common.{◌∷◌, ap, ◌∙◌}
use Rattle.qc_close.specs.Model.{Decision, Assign, Order}
use Rattle.qc_close.proofs.DecidedCranes.{crew_at, crew_ordered, crew_put}
use Rattle.qc_search.proofs.PlaceLemmas.{fits_more, opened, placed}
use Rattle.qc_search.proofs.place.Node.go.Goals as goal

pub put-requires-clause-none : goal.put-requires-clause-none
put-requires-clause-none c =
    let node = c.self.inside.starts in
    let is_open = opened c.self.inside c.args.self.now c.args.decision (Assign c.in-Assign.task c.in-Assign.crane)
    c.self.view_is c.requires.open c.in-Assign.is in
    crew_at node.inst node.decisions c.self.inside.crew c.in-Assign.task c.self.invariant.crew is_open.0 ∙ is_open.2

pub invariant_of-self : goal.invariant_of-self
invariant_of-self c =
    let inst = c.self.inside.starts.inst in
    let ds = c.self.inside.starts.decisions in
    let d = Assign c.in-Assign.task c.in-Assign.crane in
    let is_open = opened c.self.inside c.args.self.now c.args.decision d c.self.view_is c.requires.open c.in-Assign.is in
    placed inst (d ∷ ds) c.go.new.self c.put.new.self c.self.invariant.valid c.go.ensures.inst
    (c.go.ensures.decisions ∙ ap (λ (e : Decision). e ∷ ds) c.in-Assign.is)
    (fits_more inst ds d c.self.invariant.fits is_open)
    (crew_put inst ds c.self.inside.crew c.put.new.self c.in-Assign.task c.in-Assign.crane c.self.invariant.crew is_open.0
    c.put.ensures)

pub invariant_of-self-in_default : goal.invariant_of-self-in_default
invariant_of-self-in_default c =
    let inst = c.self.inside.starts.inst in
    let ds = c.self.inside.starts.decisions in
    let d = Order c.in_default.field-0 c.in_default.field-1 in
    let is_open = opened c.self.inside c.args.self.now c.args.decision d c.self.view_is c.requires.open c.in_default.is in
    placed inst (d ∷ ds) c.go.new.self c.self.inside.crew c.self.invariant.valid c.go.ensures.inst
    (c.go.ensures.decisions ∙ ap (λ (e : Decision). e ∷ ds) c.in_default.is)
    (fits_more inst ds d c.self.invariant.fits is_open)
    (crew_ordered inst ds c.self.inside.crew c.in_default.field-0 c.in_default.field-1 c.self.invariant.crew)
