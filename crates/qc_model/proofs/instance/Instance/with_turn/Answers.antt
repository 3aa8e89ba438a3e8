use Rattle.qc_model.specs.InstanceFields.{view_of}
use Rattle.qc_model.proofs.TurnLemmas.{valid_turn}
use Rattle.qc_model.proofs.instance.Instance.with_turn.Goals as goal

pub invariant_of-self : goal.invariant_of-self
invariant_of-self c = valid_turn (view_of c.self.inside) c.args.turn c.self.invariant
