use Rattle.std.proofs.Common.{ℕ, List, Option, subst, sym}
use Rattle.qc_dist.specs.Node.{Node}
use Rattle.qc_close.specs.Model.{Decision, IsWorkBound, InstanceView}
use Rattle.qc_num.specs.declared.bound.Bound.TheVariants.{Least}
use Rattle.qc_search.specs.Roots.{IsTurned}
use Rattle.qc_search.proofs.OutlookLemmas.{both_sooner, one_sooner}
use Rattle.qc_tree.specs.Trees.{NoneEarlier}
use Rattle.qc_search.proofs.roots.Roots.bound.Goals as goal

pub returns-in-Some : goal.returns-in-Some
returns-in-Some c =
    let home = c.self.inside.up.inst in
    let up = subst (λ (ds : List Decision). IsWorkBound home ds c.bound-up.result) c.self.invariant.up c.bound-up.ensures.work in
    let turned = subst (λ (d : Option Node). IsTurned home d) c.in-Some.is c.self.invariant.down in
    subst (λ (i : InstanceView). NoneEarlier i (Least c.min.result)) c.self.view_is
    (subst (λ (n : ℕ). NoneEarlier home (Least n)) (sym c.min.ensures)
    (both_sooner home c.bound-up.ensures.valid c.bound-up.result up c.in-Some.down c.bound.result turned
    c.bound.ensures.work))

pub returns-in-None : goal.returns-in-None
returns-in-None c =
    let home = c.self.inside.up.inst in
    let up = subst (λ (ds : List Decision). IsWorkBound home ds c.bound-up.result) c.self.invariant.up c.bound-up.ensures.work in
    let free = subst (λ (d : Option Node). IsTurned home d) c.in-None.is c.self.invariant.down in
    subst (λ (i : InstanceView). NoneEarlier i (Least c.bound-up.result)) c.self.view_is
    (one_sooner home c.bound-up.ensures.valid c.bound-up.result up free)
