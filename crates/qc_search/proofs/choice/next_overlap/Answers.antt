use Rattle.std.proofs.Common.{sym, subst}
use Rattle.qc_model.specs.declared.turn.Turn.{Turn}
use Rattle.qc_tree.specs.Trees.{MayOrderBy}
use Rattle.qc_search.proofs.choice.next_overlap.Goals as goal

pub returns : goal.returns
returns c =
    let pair = c.in-Some.pair in
    let found = c.in-Some.ensures in (
      subst (λ (t : Turn). MayOrderBy t c.args.starts.now.inst c.args.starts.now.decisions pair.first pair.second)
          (sym c.requires.free) (found.rising, found.overlaps.conflict),
      found.overlaps.unsettled,
      c.requires.assigned,
    )
