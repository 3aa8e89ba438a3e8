use Rattle.std.proofs.Common.{List, inl, refl, ap, subst₂, sym, ◌∙◌}
use Rattle.std.proofs.Math.Logic.{⊎_swap}
use Rattle.qc_dist.specs.Node.{IsOpen}
use Rattle.qc_model.specs.declared.decision.Decision.{Decision}
use Rattle.qc_model.specs.declared.decision.Decision.TheVariants.{Order}
use Rattle.qc_model.specs.Instance.{InstanceView}
use Rattle.qc_model.specs.Nodes.{HasStarts}
use Rattle.qc_model.proofs.NodeLemmas.{settled_turned}
use Rattle.qc_starts.specs.Seen.{first_of}
use Rattle.qc_starts.proofs.KeptLemmas.{first_here}
use Rattle.qc_sweep.proofs.schedule.put_first.Goals as goal

pub go-requires-2-clause-starts : goal.go-requires-2-clause-starts
go-requires-2-clause-starts c =
    let made = c.retract.ensures.decisions ∙ ap (first_of c.mark-mark.result) c.go.ensures.decisions
    ∙ first_here _ _ _ _ refl c.mark-mark.ensures in
    subst₂ HasStarts (sym (c.retract.ensures.inst ∙ c.go.ensures.inst)) (sym made) c.requires.starts

pub go-requires-2-clause-open : goal.go-requires-2-clause-open
go-requires-2-clause-open c =
    let made = c.retract.ensures.decisions ∙ ap (first_of c.mark-mark.result) c.go.ensures.decisions
    ∙ first_here _ _ _ _ refl c.mark-mark.ensures in
    subst₂ (λ (inst : InstanceView) (ds : List Decision). IsOpen inst ds (Order c.args.second c.args.first))
    (sym (c.retract.ensures.inst ∙ c.go.ensures.inst)) (sym made) (
      inl (⊎_swap c.requires.apart),
      λ settled. c.requires.unsettled (settled_turned c.args.starts.now.inst c.args.starts.now.decisions c.args.second c.args.first settled),
    )
