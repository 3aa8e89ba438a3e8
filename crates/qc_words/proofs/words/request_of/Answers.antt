use Rattle.std.proofs.Common.{IfSome, sym, subst}
use Rattle.std.proofs.lemmas.Result.{IfOk-weaker}
use Rattle.qc_words.specs.Asked.{KeepsLimits}
use Rattle.qc_words.specs.Commands.{command_of, read_by}
use Rattle.qc_words.specs.Words.{texts}
use Rattle.qc_words.proofs.LimitLemmas.{about_kept, limits_kept}
use Rattle.qc_words.proofs.words.request_of.Goals as goal

pub returns-clause-limits : goal.returns-clause-limits
returns-clause-limits c =
    let n = c.in-Some-named.name in
    IfOk-weaker c.request_by.result _ _
    (λ request e. subst KeepsLimits (sym e) (limits_kept n (read_by (command_of n) (texts c.args.words.now)))) c.request_by.ensures

pub returns-in-Some-clause-limits : goal.returns-in-Some-clause-limits
returns-in-Some-clause-limits c =
    subst (λ asked. IfSome asked KeepsLimits) (sym (rw c.in-Some.is at c.about.ensures)) (about_kept (texts c.args.words.now))
