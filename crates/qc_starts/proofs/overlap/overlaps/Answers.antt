use Rattle.std.proofs.Common.{◌≡◌, ◌↔◌, ℕ, ◌<◌, Bool, IfSome, IsTrue, List, Option, Some, length, subst, sym, ◌∙◌}
use Rattle.std.proofs.lemmas.Bool.{false≢true}
use Rattle.qc_dist.specs.Node.{IsOpen}
use Rattle.qc_model.specs.declared.decision.Decision.{Decision}
use Rattle.qc_model.specs.declared.decision.Decision.TheVariants.{Order}
use Rattle.qc_model.specs.Clear.{AreClear}
use Rattle.qc_model.specs.Instance.{InstanceView}
use Rattle.qc_dist.proofs.Facts.{assigned_range}
use Rattle.qc_model.specs.Nodes.{Fits, assigned}
use Rattle.qc_starts.specs.Overlaps.{Overlaps}
use Rattle.qc_starts.proofs.overlap.overlaps.Goals as goal

open_overlaps : (inst : InstanceView) (ds : List Decision) (cells : List ℕ) (i v j w : ℕ) (answer : Bool)
    → assigned ds i ≡ Some v → assigned ds j ≡ Some w → ¬ AreClear inst cells i v j w
    → IsTrue answer ↔ IsOpen inst ds (Order i j) → IsTrue answer ↔ Overlaps inst ds cells i j
open_overlaps inst ds cells i v j w answer on_v on_w near told = (
  λ t.
      let found = told.0 t in
      record {
        conflict = found.0;
        unsettled = found.1;
        first_crane = v;
        second_crane = w;
        of_first = on_v;
        of_second = on_w;
        near = near;
      },
  λ lap. told.1 (lap.conflict, lap.unsettled),
)

pub returns-then-not-are_clear : goal.returns-then-not-are_clear
returns-then-not-are_clear c =
    let node = c.decisions-decisions.ensures.node in
    open_overlaps c.args.network.now.inst c.args.network.now.decisions c.args.values.now.cells c.args.i c.in-Some-Some.v
    c.args.j c.in-Some-Some.w c.is_open.result
    (sym (rw node at c.crane_of.ensures.crane) ∙ c.in-Some-Some.is-0)
    (sym (rw node at c.crane_of-2.ensures.crane) ∙ c.in-Some-Some.is-1)
    (λ clear. false≢true (sym c.if-not-are_clear.true ∙ c.are_clear.ensures.1 clear))
    (rw node at c.is_open.ensures)

below : (inst : InstanceView) (ds : List Decision) (j k : ℕ) → Fits inst ds → assigned ds j ≡ Some k → k < length inst.cranes
below inst ds j k fits e = subst (λ (o : Option ℕ). IfSome o (λ v. v < length inst.cranes)) e (assigned_range inst ds fits j)

pub returns-then-are_far : goal.returns-then-are_far
returns-then-are_far c =
    let inst = c.args.network.now.inst in
    let ds = c.args.network.now.decisions in
    let fits = c.decisions-decisions.ensures.fits in (
      λ t. absurd (false≢true t),
      λ lap. absurd (lap.near (c.are_far.ensures c.if-are_far.true lap.first_crane lap.second_crane
          (below inst ds c.args.i lap.first_crane fits lap.of_first) (below inst ds c.args.j lap.second_crane fits lap.of_second))),
    )
