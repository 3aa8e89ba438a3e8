use Rattle.qc_rest.proofs.SoundLemmas.{joined}
use Rattle.qc_rest.proofs.laws.every_plan_of_the_rest_keeps_the_rules.Goals as goal

pub returns : goal.returns
returns c = joined
