use Rattle.std.proofs.Common.{◌∙◌, arith}
use Rattle.qc_dispatch.specs.Following.{journal_of}
use Rattle.qc_rest.proofs.JournalLemmas.{known_of, plan_of}
use Rattle.qc_rest.proofs.rest.Rest.of.Goals as goal

pub rest_by-requires-clause-known : goal.rest_by-requires-clause-known
rest_by-requires-clause-known c =
    known_of c.requires.0 c.args.plan.now c.requires.1.0 (journal_of c.args.journal.now) c.requires.1.1 c.now-now.ensures.plan.0 c.now-now.ensures.plan.1
    c.now-now.ensures.keeps (omega (arith, c.now-now.ensures.early, c.now-now.ensures.now))

pub rest_by-requires-clause-plan : goal.rest_by-requires-clause-plan
rest_by-requires-clause-plan c = c.slots.ensures ∙ plan_of c.requires.0 c.args.plan.now c.requires.1.0 (journal_of c.args.journal.now) c.requires.1.1
