use Rattle.std.proofs.Common.{◌≡◌, ◌∙◌, List, ap}
use Rattle.std.specs.Option.{option_copied, option_map}
use Rattle.qc_bayplan.specs.declared.plan.Container.{Container}
use Rattle.qc_changes.specs.Classes.{stands}
use Rattle.qc_changes.specs.Plans.{place_of}
use Rattle.qc_changes.proofs.PlanLemmas.{gone_is}
use Rattle.qc_changes.proofs.plan.Plan.is_gone.Goals as goal

pub returns : goal.returns
returns c =
    let id = c.args.container.now.id in
    let told : option_copied c.get.result ≡ option_map place_of (stands c.args.self.now id) =
    (rw c.as_bytes.ensures.bytes at c.get.ensures.value) ∙ c.self.invariant id ∙ ap (λ (cs : List Container). option_map place_of (stands cs id)) c.self.view_is in
    gone_is c.get.result (stands c.args.self.now id) c.is_none.result told c.is_none.ensures
