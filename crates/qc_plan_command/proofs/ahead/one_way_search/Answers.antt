use Rattle.std.proofs.Common.{Bor, List, IfSome, ap, subst, sym, ◌∙◌}
use Rattle.qc_model.specs.declared.schedule.Slot.{Slot}
use Rattle.qc_model.specs.declared.turn.Turn.TheVariants.{OneWay}
use Rattle.qc_model.specs.Instance.{InstanceView, with_turn}
use Rattle.qc_model.specs.Judge.{IsJudgeable}
use Rattle.qc_plan_command.proofs.AheadLemmas.{judgeable_turned}
use Rattle.qc_plan_command.proofs.ahead.one_way_search.Goals as goal

pub offer_own-requires-clause-own : goal.offer_own-requires-clause-own
offer_own-requires-clause-own g c =
    let is = c.with_turn-inst.ensures ∙ ap (λ (i : InstanceView). with_turn i OneWay) c.in_ok-copy.ensures in
    subst (λ (i : InstanceView). IfSome c.args.own (λ (s : Bor (List Slot)). IsJudgeable i s.now)) (sym is)
    (judgeable_turned c.args.inst.now (λ (s : Bor (List Slot)). s.now) c.args.own c.requires.own)
