use Rattle.std.proofs.Common.{ℕ, [], List, ap, sym, subst, ◌∙◌, arith}
use Rattle.qc_starts.specs.Arcs.{IsArc}
use Rattle.qc_starts.specs.Spread.{IsSpreading}
use Rattle.qc_starts.specs.Values.{raised}
use Rattle.qc_starts.proofs.ArcLemmas.{arc_of}
use Rattle.qc_starts.proofs.SpreadLemmas.{ends_apart, root_rises, root_stays}
use Rattle.qc_starts.proofs.spread.Spread.raise_root.Goals as goal

pub soonest-start-requires-clause-soon : goal.soonest-start-requires-clause-soon
soonest-start-requires-clause-soon c = λ arc in_ same.
    let net = c.args.network.now in
    let rooting = c.requires.rooting in
    let asks = arc_of (IsArc net.inst net.decisions) net.arcs c.requires.sound.all.each arc in_ in
    let still = rooting.still arc.from asks.from (λ loop. ends_apart net c.requires.sound arc in_ (loop ∙ sym same)) in
    omega (arith, still, rooting.raising.soon arc.from asks.from)

pub returns-then-start-clause-spreading : goal.returns-then-start-clause-spreading
returns-then-start-clause-spreading c =
    let net = c.args.network.now in
    let olds = c.args.self.now.olds.items in
    let cells = c.args.self.now.values.cells in
    let pending = c.args.self.now.pending.items in
    let s = c.soonest-start.result.0 in
    let why = c.soonest-start.result.1 in
    let count = c.task_count.ensures.count in
    let starts = c.raise.ensures.cells ∙ ap (λ (n : ℕ). raised n cells c.args.root s why) count in
    subst (λ (xs : List ℕ). IsSpreading net c.args.root olds xs pending []) (sym starts)
    (root_rises net c.args.root olds cells c.requires.sound c.requires.rooting pending c.requires.only s why
    c.soonest-start.ensures (omega (arith, c.start.ensures, c.if-start.true)))

pub returns-else-start-clause-spreading : goal.returns-else-start-clause-spreading
returns-else-start-clause-spreading c =
    root_stays c.args.network.now c.args.root c.args.self.now.olds.items c.args.self.now.values.cells c.requires.sound
    c.requires.rooting c.args.self.now.pending.items c.requires.only c.soonest-start.result.0 c.soonest-start.result.1
    c.soonest-start.ensures (omega (arith, c.start.ensures, c.if-start.false))
