use Rattle.std.proofs.Common.{length, ap, arith}
use Rattle.std.proofs.lemmas.List.{length-reverse}
use Rattle.qc_dist.specs.Node.{Node}
use Rattle.qc_dist.proofs.Room.{fits_room}
use Rattle.qc_starts.proofs.LevelLemmas.{levels_count}
use Rattle.qc_starts.proofs.network.Network.add.Goals as goal

pub push_reserved-requires : goal.push_reserved-requires
push_reserved-requires c =
    let is = c.self.invariant in
    let count = levels_count _ _ _ _ is.levels in
    let fits = fits_room c.self.inside.decisions.inst is.valid c.decide.new.decisions.decisions c.decide.ensures.fits in
    let more = ap (λ (n : Node). length n.decisions) c.decide.ensures.decisions in
    omega (arith, count, length-reverse c.self.inside.marks.items, fits, more, is.room)
