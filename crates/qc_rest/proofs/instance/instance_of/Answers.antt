use Rattle.std.proofs.Common.{sym, ap₂, subst, ap, pos, ◌∙◌, List, arith}
use Rattle.qc_dispatch.specs.Following.{journal_of}
use Rattle.qc_model.specs.declared.pair.Pair.{Pair}
use Rattle.qc_model.specs.declared.turn.Turn.TheVariants.{OneWay}
use Rattle.qc_model.specs.Instance.{InstanceView, Valid, with_turn}
use Rattle.qc_model.proofs.LimitsOf.{limits_of}
use Rattle.qc_model.proofs.TurnLemmas.{valid_turn}
use Rattle.qc_rest.specs.Limits.{place_at}
use Rattle.qc_rest.specs.Remaining.{over_at}
use Rattle.qc_rest.specs.RestOf.{pairs_in, rest_of}
use Rattle.qc_rest.proofs.MakingLemmas.{apart_low, before_low, parts_are}
use Rattle.qc_rest.proofs.instance.instance_of.Goals as goal

pub pairs_in-requires-clause-range : goal.pairs_in-requires-clause-range
pairs_in-requires-clause-range c =
    rw (c.before-2.ensures.before ∙ ap (λ (i : InstanceView). i.before) c.instance-inst.ensures) (before_low c.args.journal.now.dispatch c.requires.known.valid)

pub pairs_in-requires-2-clause-range : goal.pairs_in-requires-2-clause-range
pairs_in-requires-2-clause-range c =
    rw (c.apart.ensures.apart ∙ ap (λ (i : InstanceView). i.apart) c.instance-inst.ensures) (apart_low c.args.journal.now.dispatch c.requires.known.valid)

pub of-requires : goal.of-requires
of-requires c =
    let f = c.args.journal.now in
    let work = f.dispatch in
    let rest = rest_of work (over_at (journal_of f)) c.args.stands.now (place_at c.args.places.now) in
    let l = limits_of rest c.requires.valid in
    let inst = c.instance-inst.ensures in
    let parts = parts_are rest _ _ _ _ _ _ _ (c.bays.ensures.bays ∙ ap (λ (i : InstanceView). pos i.bays) inst) l.bays.1
    (c.gap.ensures.gap ∙ ap (λ (i : InstanceView). pos i.gap) inst) (omega (arith, l.gap.1)) (c.travel.ensures.travel ∙ ap (λ (i : InstanceView). i.travel) inst)
    c.in_ok-tasks.ensures c.in_ok-cranes.ensures
    (c.in_ok-before.ensures ∙ ap (λ (ps : List Pair). pairs_in work ps) (c.before-2.ensures.before ∙ ap (λ (i : InstanceView). i.before) inst))
    (c.in_ok-apart.ensures ∙ ap (λ (ps : List Pair). pairs_in work ps) (c.apart.ensures.apart ∙ ap (λ (i : InstanceView). i.apart) inst)) in
    subst Valid (sym parts) (valid_turn rest OneWay c.requires.valid)

pub returns : goal.returns
returns c =
    let f = c.args.journal.now in
    let work = f.dispatch in
    let rest = rest_of work (over_at (journal_of f)) c.args.stands.now (place_at c.args.places.now) in
    let l = limits_of rest c.requires.valid in
    let inst = c.instance-inst.ensures in
    let parts = parts_are rest _ _ _ _ _ _ _ (c.bays.ensures.bays ∙ ap (λ (i : InstanceView). pos i.bays) inst) l.bays.1
    (c.gap.ensures.gap ∙ ap (λ (i : InstanceView). pos i.gap) inst) (omega (arith, l.gap.1)) (c.travel.ensures.travel ∙ ap (λ (i : InstanceView). i.travel) inst)
    c.in_ok-tasks.ensures c.in_ok-cranes.ensures
    (c.in_ok-before.ensures ∙ ap (λ (ps : List Pair). pairs_in work ps) (c.before-2.ensures.before ∙ ap (λ (i : InstanceView). i.before) inst))
    (c.in_ok-apart.ensures ∙ ap (λ (ps : List Pair). pairs_in work ps) (c.apart.ensures.apart ∙ ap (λ (i : InstanceView). i.apart) inst)) in
    c.with_turn.ensures ∙ ap₂ with_turn (c.of.ensures ∙ parts) (c.turn.ensures ∙ ap (λ (i : InstanceView). i.turn) inst)
