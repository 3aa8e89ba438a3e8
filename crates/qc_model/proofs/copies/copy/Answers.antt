use Rattle.std.proofs.Common.{sym, ap₂, subst, ◌∙◌, arith}
use Rattle.qc_model.specs.declared.turn.Turn.TheVariants.{OneWay}
use Rattle.qc_model.specs.Instance.{Valid, with_turn}
use Rattle.qc_model.proofs.LimitsOf.{limits_of}
use Rattle.qc_model.proofs.Parts.{parts_are}
use Rattle.qc_model.proofs.TurnLemmas.{valid_turn}
use Rattle.qc_model.proofs.copies.copy.Goals as goal

pub of-requires : goal.of-requires
of-requires c =
    let inst = c.args.inst.now in
    let v = c.bays.ensures.valid in
    let l = limits_of inst v in
    subst Valid (sym (parts_are inst _ _ _ _ _ _ _ c.bays.ensures.bays l.bays.1 c.gap.ensures.gap (omega (arith, l.gap.1)) c.travel.ensures.travel
    (c.in_ok-from_slice.ensures.items ∙ c.tasks.ensures.tasks) (c.in_ok-copy_cranes.ensures ∙ c.cranes.ensures.cranes)
    (c.in_ok-from_slice-2.ensures.items ∙ c.before-2.ensures.before) (c.in_ok-from_slice-3.ensures.items ∙ c.apart.ensures.apart))) (valid_turn inst OneWay v)

pub returns : goal.returns
returns c =
    let inst = c.args.inst.now in
    let l = limits_of inst c.bays.ensures.valid in
    let is = c.of.ensures ∙ parts_are inst _ _ _ _ _ _ _ c.bays.ensures.bays l.bays.1 c.gap.ensures.gap (omega (arith, l.gap.1)) c.travel.ensures.travel
    (c.in_ok-from_slice.ensures.items ∙ c.tasks.ensures.tasks) (c.in_ok-copy_cranes.ensures ∙ c.cranes.ensures.cranes)
    (c.in_ok-from_slice-2.ensures.items ∙ c.before-2.ensures.before) (c.in_ok-from_slice-3.ensures.items ∙ c.apart.ensures.apart) in
    c.with_turn.ensures ∙ ap₂ with_turn is c.turn.ensures
