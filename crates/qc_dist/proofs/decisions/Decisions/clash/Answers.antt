use Rattle.std.proofs.Common.{◌∙◌, ap, rules, sym}
use Rattle.qc_model.specs.Instance.{InstanceView}
use Rattle.qc_dist.proofs.Facts.{clash_is}
use Rattle.qc_dist.proofs.decisions.Decisions.clash.Goals as goal

pub returns-then-not-is_free : goal.returns-then-not-is_free
returns-then-not-is_free c = search rules

pub returns-in-Some-Some : goal.returns-in-Some-Some
returns-in-Some-Some c =
    let self = c.args.self.now in
    let turn = c.turn.ensures ∙ ap (λ (inst : InstanceView). inst.turn) c.instance.ensures.same in
    clash_is self.inst self.decisions c.args.i c.args.j c.in-Some-Some.v c.in-Some-Some.w
    (sym turn ∙ c.is_free.ensures.0 c.if-not-is_free.false) c.requires.first c.requires.second c.if-i-j.false
    (sym c.crane_of.ensures.crane ∙ c.in-Some-Some.is-0) (sym c.crane_of-2.ensures.crane ∙ c.in-Some-Some.is-1)
    c.are_near.result c.are_near.ensures

pub returns-in_default : goal.returns-in_default
returns-in_default c = search rules
