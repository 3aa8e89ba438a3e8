use Rattle.qc_watch.proofs.Computed.{across_fits, across_is, across_small, across_whole}
use Rattle.qc_watch.proofs.place.across.Goals as goal

pub overflow_mul-result : goal.overflow_mul-result
overflow_mul-result c =
    rw (across_is c.from.result c.from-2.result c.args.above c.args.below c.from.ensures c.from-2.ensures c.requires.above c.requires.below)
    (across_fits c.args.above c.args.below c.requires.above c.requires.below)

pub returns-clause-product : goal.returns-clause-product
returns-clause-product c =
    rw (across_is c.from.result c.from-2.result c.args.above c.args.below c.from.ensures c.from-2.ensures c.requires.above c.requires.below)
    (across_whole c.args.above c.args.below c.requires.above c.requires.below)

pub returns-clause-small : goal.returns-clause-small
returns-clause-small c =
    rw (
      across_is c.from.result c.from-2.result c.args.above c.args.below c.from.ensures c.from-2.ensures c.requires.above c.requires.below,
      across_whole c.args.above c.args.below c.requires.above c.requires.below,
    )
    (across_small c.args.above c.args.below c.requires.above c.requires.below)
