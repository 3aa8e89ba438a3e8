use Rattle.std.proofs.Common.{ℕ, refl, subst, sym, ◌∙◌, ap}
use Rattle.qc_close.specs.Model.{InstanceView, ends}
use Rattle.qc_search.specs.declared.progress.Progress.{Progress}
use Rattle.qc_search.specs.Progress.{Improves}
use Rattle.qc_search.proofs.GivenLemmas.{aim_is, aims_best, offer_taken}
use Rattle.qc_search.proofs.given.offer.Goals as goal

pub returns-then-improves-clause-begun : goal.returns-then-improves-clause-begun
returns-then-improves-clause-begun c =
    let home = c.args.roots.now in
    let given = c.args.given.now in
    let old = c.args.progress.now in
    let end = c.ends-end.ensures.ends ∙ ap (λ (i : InstanceView). ends i given) c.instance.ensures.same in
    let sooner = subst (λ (n : ℕ). Improves n old.incumbent_end) end (c.improves.ensures.0 c.if-improves.true) in
    (offer_taken home given old c.requires.begun c.begin_with.ensures.valid c.args.way c.begin_with.new.progress
    c.requires.judgeable c.requires.seen sooner c.begin_with.ensures.begins).0

pub returns-then-improves-clause-offered : goal.returns-then-improves-clause-offered
returns-then-improves-clause-offered c =
    let home = c.args.roots.now in
    let given = c.args.given.now in
    let old = c.args.progress.now in
    let end = c.ends-end.ensures.ends ∙ ap (λ (i : InstanceView). ends i given) c.instance.ensures.same in
    let sooner = subst (λ (n : ℕ). Improves n old.incumbent_end) end (c.improves.ensures.0 c.if-improves.true) in
    (offer_taken home given old c.requires.begun c.begin_with.ensures.valid c.args.way c.begin_with.new.progress
    c.requires.judgeable c.requires.seen sooner c.begin_with.ensures.begins).1

pub returns-then-improves-clause-aim : goal.returns-then-improves-clause-aim
returns-then-improves-clause-aim c =
    let home = c.args.roots.now in
    let now = c.begin_with.new.progress in
    let is = c.begin_with.ensures.begins.is in
    aim_is home now (returns-then-improves-clause-begun c)
    (ap (λ (p : Progress). p.aim) is ∙ sym (ap (λ (p : Progress). p.incumbent_end) is))

pub returns-else-improves-clause-begun : goal.returns-else-improves-clause-begun
returns-else-improves-clause-begun c = aims_best c.args.roots.now c.args.progress.now c.requires.begun

pub returns-else-improves-clause-aim : goal.returns-else-improves-clause-aim
returns-else-improves-clause-aim c =
    let home = c.args.roots.now in
    let old = c.args.progress.now in
    aim_is home (record old { aim = old.incumbent_end }) (aims_best home old c.requires.begun) refl
