use Rattle.qc_odds.proofs.SameLemmas.{dispatcher_starts}
use Rattle.qc_odds.proofs.laws.dispatchers_grant_the_starts_of_the_course.Goals as goal

pub returns : goal.returns
returns c = dispatcher_starts
