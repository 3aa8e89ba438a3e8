use Rattle.std.proofs.Common.{◌||◌, ℕ, List, Option, ap, subst, sym, ◌∙◌}
use Rattle.qc_model.specs.Closed.{is_short_along, is_short_before}
use Rattle.qc_close.specs.Crews.{CrewView}
use Rattle.qc_close.specs.Moves.{IsMoving}
use Rattle.qc_close.proofs.crew.Crew.is_short.Goals as goal

pub returns : goal.returns
returns c =
    let f = c.self.inside in
    let end = c.args.end in
    c.is_short_by.ensures
    ∙ ap (λ xs. is_short_before f.inst f.turn xs end || is_short_along f.inst f.turn xs end) c.as_slice-cranes.ensures.value
    ∙ ap (λ (v : CrewView). is_short_before v.inst v.turn v.cranes end || is_short_along v.inst v.turn v.cranes end) c.self.view_is

pub is_short_by-requires-clause-moving : goal.is_short_by-requires-clause-moving
is_short_by-requires-clause-moving c =
    let f = c.self.inside in
    let k = c.self.invariant in
    subst (λ (cs : List (Option ℕ)). IsMoving f.inst cs f.spots f.table f.trips) (sym c.as_slice-cranes.ensures.value) (record {
      valid = k.valid;
      range = k.range;
      spots = k.spots;
      sums = k.table;
      kept = k.trips;
    })
