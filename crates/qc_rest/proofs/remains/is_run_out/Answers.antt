use Rattle.std.proofs.Common.{arith}
use Rattle.qc_dispatch.specs.Following.{journal_of}
use Rattle.qc_rest.proofs.JournalLemmas.{known_of}
use Rattle.qc_rest.proofs.remains.is_run_out.Goals as goal

pub is_due-requires-clause-known : goal.is_due-requires-clause-known
is_due-requires-clause-known c =
    let (inst, (plan, (text, followed))) = c.requires.followed in
    known_of inst plan text (journal_of c.args.journal.now) followed c.now-now.ensures.plan.0 c.now-now.ensures.plan.1
    c.now-now.ensures.keeps (omega (arith, c.now-now.ensures.early, c.now-now.ensures.now))
