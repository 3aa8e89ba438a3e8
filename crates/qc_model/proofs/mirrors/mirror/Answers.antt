use Rattle.std.proofs.Common.{◌≡◌, sym, ap, ap₂, subst, ◌∙◌, arith}
use Rattle.qc_model.specs.Instance.{Valid, with_turn}
use Rattle.qc_model.specs.declared.turn.Turn.TheVariants.{OneWay}
use Rattle.qc_model.specs.OneWay.{mirror}
use Rattle.qc_model.proofs.LimitsOf.{limits_of}
use Rattle.qc_model.proofs.MirrorLemmas.{mirror_mirror, mirror_valid}
use Rattle.qc_model.proofs.Parts.{parts_are}
use Rattle.qc_model.proofs.TurnLemmas.{valid_turn}
use Rattle.qc_model.proofs.mirrors.mirror.Goals as goal

pub of-requires : goal.of-requires
of-requires c =
    let inst = c.args.inst.now in
    let v = c.bays.ensures.valid in
    let l = limits_of inst v in
    subst Valid (sym (parts_are (mirror inst) _ _ _ _ _ _ _ c.bays.ensures.bays l.bays.1 c.gap.ensures.gap (omega (arith, l.gap.1)) c.travel.ensures.travel
    c.in_ok-mirror_tasks.ensures c.in_ok-mirror_cranes.ensures
    (c.in_ok-from_slice.ensures.items ∙ c.before-2.ensures.before) (c.in_ok-from_slice-2.ensures.items ∙ c.apart.ensures.apart))) (valid_turn (mirror inst) OneWay (mirror_valid inst v))

turned : (c : goal.After-with_turn) → c.with_turn.result ≡ mirror c.args.inst.now
turned c =
    let inst = c.args.inst.now in
    let l = limits_of inst c.bays.ensures.valid in
    let is = c.of.ensures ∙ parts_are (mirror inst) _ _ _ _ _ _ _ c.bays.ensures.bays l.bays.1 c.gap.ensures.gap (omega (arith, l.gap.1)) c.travel.ensures.travel
    c.in_ok-mirror_tasks.ensures c.in_ok-mirror_cranes.ensures
    (c.in_ok-from_slice.ensures.items ∙ c.before-2.ensures.before) (c.in_ok-from_slice-2.ensures.items ∙ c.apart.ensures.apart) in
    c.with_turn.ensures ∙ ap₂ with_turn is c.turn.ensures

pub returns-clause-mirror : goal.returns-clause-mirror
returns-clause-mirror c = turned c

pub returns-clause-valid : goal.returns-clause-valid
returns-clause-valid c = subst Valid (sym (turned c)) (mirror_valid c.args.inst.now c.bays.ensures.valid)

pub returns-clause-back : goal.returns-clause-back
returns-clause-back c = ap mirror (turned c) ∙ mirror_mirror c.args.inst.now
