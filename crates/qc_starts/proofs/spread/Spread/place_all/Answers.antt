use Rattle.std.proofs.Common.{length, subst}
use Rattle.qc_starts.specs.Place.{IsReadyPick}
use Rattle.qc_starts.proofs.PlaceLemmas.{place_ends}
use Rattle.qc_starts.proofs.spread.Spread.place_all.Goals as goal

pub returns-clause-rest : goal.returns-clause-rest
returns-clause-rest c =
    let net = c.args.network.now in
    place_ends net c.loop-task.self.values.cells c.loop-task.self.pending.items c.requires.sound c.requires.none
    (subst (IsReadyPick net c.loop-task.self.pending.items (length net.inst.tasks)) c.in_default.is c.ready.ensures)
    c.loop-task.invariant.placed
