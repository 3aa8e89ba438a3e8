use Rattle.qc_odds.proofs.PromptLemmas.{dispatched}
use Rattle.qc_odds.proofs.laws.courses_are_the_dispatchers.Goals as goal

pub returns : goal.returns
returns c = dispatched
