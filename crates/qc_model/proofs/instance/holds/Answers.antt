use Rattle.qc_model.proofs.PairOrder.{found_there}
use Rattle.qc_model.proofs.instance.holds.Goals as goal

pub returns : goal.returns
returns c =
    let s = c.binary_search.ensures in
    found_there c.args.pairs.now c.args.pair c.binary_search.result c.is_ok.result c.is_ok.ensures.value s.bound s.position c.requires
