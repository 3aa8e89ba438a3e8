use Rattle.qc_starts.proofs.KeptLemmas.{soon_kept}
use Rattle.qc_starts.proofs.OverlapLemmas.{overlap_kept}
use Rattle.qc_starts.proofs.starts.Starts.overlap.Goals as goal

pub first_overlap-requires-clause-soon : goal.first_overlap-requires-clause-soon
first_overlap-requires-clause-soon c = soon_kept c.self.inside _ c.self.invariant c.self.view_is c.requires.starts

pub returns : goal.returns
returns c =
    overlap_kept c.self.inside _ c.self.invariant c.self.view_is c.requires.free c.requires.assigned c.requires.starts
    c.first_overlap.result c.first_overlap.ensures
