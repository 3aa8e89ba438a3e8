use Rattle.std.proofs.Common.{ℕ, false, List, ap, sym, subst, ◌∙◌, arith, slice_set}
use Rattle.qc_starts.specs.Place.{ArePlaced}
use Rattle.qc_starts.specs.Values.{raised}
use Rattle.qc_starts.proofs.PlaceLemmas.{place_done, place_firm}
use Rattle.qc_starts.proofs.spread.Spread.place.Goals as goal

pub soonest-start-requires-clause-soon : goal.soonest-start-requires-clause-soon
soonest-start-requires-clause-soon c = λ arc in_ same.
    let before = place_firm c.args.network.now c.args.self.now.values.cells c.args.self.now.pending.items c.args.task
    c.requires.sound c.requires.ready c.requires.placed arc in_ same in
    omega (arith, before.bound, c.requires.sound.valid.tasks.count)

pub returns-clause-placed : goal.returns-clause-placed
returns-clause-placed c =
    let net = c.args.network.now in
    let cells = c.args.self.now.values.cells in
    let pending = c.args.self.now.pending.items in
    let s = c.soonest-start.result.0 in
    let why = c.soonest-start.result.1 in
    let count = c.task_count.ensures.count in
    let starts = c.fill.ensures.cells ∙ ap (λ (n : ℕ). raised n cells c.args.task s why) count in
    subst (λ (xs : List ℕ). ArePlaced net xs (slice_set pending c.args.task false)) (sym starts)
    (place_done net cells pending c.args.task s why c.requires.sound c.requires.task c.requires.pending c.requires.ready
    c.requires.placed c.soonest-start.ensures)
