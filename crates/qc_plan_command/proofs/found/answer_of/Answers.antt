use Rattle.std.proofs.Common.{◌≡◌, ◌∙◌, subst, sym, rules}
use Rattle.qc_num.specs.declared.bound.Bound.TheVariants.{Never}
use Rattle.qc_search.proofs.OutcomeLemmas.{of_some}
use Rattle.qc_starts.specs.Tight.{IsAllowedSo}
use Rattle.qc_plan_command.proofs.FoundLemmas.{none_best}
use Rattle.qc_plan_command.proofs.found.answer_of.Goals as goal

pub returns-in_default-clause-tells : goal.returns-in_default-clause-tells
returns-in_default-clause-tells c =
    let never : c.args.done.bound ≡ Never = sym c.bound.ensures ∙ c.in_default.is in
    (none_best c.args.inst c.args.done.bound c.args.done.best never c.requires.none_earlier c.requires.tight, never, search rules)

pub motion_of-motion-requires-clause-goes : goal.motion_of-motion-requires-clause-goes
motion_of-motion-requires-clause-goes c =
    let goes = of_some _ _ c.in-Some.sched (sym c.in-Some.ensures) c.requires.goes in
    subst (IsAllowedSo c.args.inst.turn c.args.inst c.in-Some.sched) (sym c.way-way.ensures) goes
