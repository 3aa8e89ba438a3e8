use Rattle.qc_replay.proofs.EarlyFacts.{early_less}
use Rattle.qc_replay.proofs.earliest.EarlyStarts.undo.Goals as goal

pub returns-then-self-gt0 : goal.returns-then-self-gt0
returns-then-self-gt0 c = λ d are.
    early_less c.args.node.now.inst c.args.node.now.decisions d c.args.self.now are c.if-self-gt0.true
