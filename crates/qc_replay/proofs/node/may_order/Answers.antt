use Rattle.std.proofs.Common.{arith}
use Rattle.std.proofs.lemmas.Bool.{lt-ltb, ltb-true}
use Rattle.qc_replay.proofs.OrderFacts.{order_test}
use Rattle.qc_replay.proofs.node.may_order.Goals as goal

pub returns-then-first-second : goal.returns-then-first-second
returns-then-first-second c =
    order_test c.args.node.now.inst c.args.node.now.decisions c.args.first c.args.second c.requires.valid c.requires.first
    c.requires.second c.conflict.result
    (λ t. (c.if-first-second.true, c.conflict.ensures.0 t), λ both. c.conflict.ensures.1 both.1)

pub returns-else-first-second : goal.returns-else-first-second
returns-else-first-second c =
    order_test c.args.node.now.inst c.args.node.now.decisions c.args.first c.args.second c.requires.valid c.requires.first
    c.requires.second _ (
      λ t. absurd (omega (arith, ltb-true c.args.first c.args.second t, c.if-first-second.false)),
      λ both. lt-ltb c.args.first c.args.second both.0,
    )
