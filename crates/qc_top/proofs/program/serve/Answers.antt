use Rattle.std.proofs.Common.{refl}
use Rattle.qc_top.proofs.program.serve.Goals as goal

pub returns-in-Make-clause-account : goal.returns-in-Make-clause-account
returns-in-Make-clause-account g c = rw c.in-Make.is (record { untouched = refl; run = c.make.ensures.account })

pub returns-in-Odds-clause-account : goal.returns-in-Odds-clause-account
returns-in-Odds-clause-account g c = rw c.in-Odds.is c.odds.ensures.account

pub returns-in-Rest-clause-account : goal.returns-in-Rest-clause-account
returns-in-Rest-clause-account g c = rw c.in-Rest.is c.write_rest.ensures.account

pub returns-in-Usage-clause-account : goal.returns-in-Usage-clause-account
returns-in-Usage-clause-account g c = rw c.in-Usage.is (record { untouched = refl; reports = c.report_stop.ensures.report })

pub returns-in-Help-clause-account : goal.returns-in-Help-clause-account
returns-in-Help-clause-account g c = rw c.in-Help.is (record {
  text = c.help_text.result.now;
  some = c.help_text.ensures;
  said = record { untouched = refl; reports = c.report_text.ensures };
})

pub returns-in-Version-clause-account : goal.returns-in-Version-clause-account
returns-in-Version-clause-account g c = rw c.in-Version.is (record {
  text = c.version_text.result.now;
  some = c.version_text.ensures;
  said = record { untouched = refl; reports = c.report_text-in-Version.ensures };
})
