use Rattle.std.proofs.Common.{◌<◌, length, sym, subst, arith}
use Rattle.qc_dist.specs.Node.{Node}
use Rattle.qc_starts.specs.Seen.{IsNodeStart}
use Rattle.qc_starts.proofs.KeptLemmas.{early_kept, soon_kept, start_kept}
use Rattle.qc_starts.proofs.starts.Starts.start.Goals as goal

pub returns-clause-start : goal.returns-clause-start
returns-clause-start c =
    subst (IsNodeStart c.args.self.now.inst c.args.self.now.decisions c.args.j) (sym c.start.ensures)
    (start_kept c.self.inside _ c.self.invariant c.self.view_is c.requires.starts c.args.j c.requires.task)

pub returns-clause-bound : goal.returns-clause-bound
returns-clause-bound c =
    let low = subst (λ (n : Node). c.args.j < length n.inst.tasks) (sym c.self.view_is) c.requires.task in
    omega (arith, c.start.ensures, soon_kept c.self.inside _ c.self.invariant c.self.view_is c.requires.starts c.args.j low)

pub returns-clause-soon : goal.returns-clause-soon
returns-clause-soon c =
    let low = subst (λ (n : Node). c.args.j < length n.inst.tasks) (sym c.self.view_is) c.requires.task in
    omega (arith, c.start.ensures, early_kept c.self.inside _ c.self.invariant c.self.view_is c.requires.starts c.args.j low)
