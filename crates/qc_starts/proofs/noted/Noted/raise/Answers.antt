use Rattle.qc_starts.proofs.NotingLemmas.{wrote_then}
use Rattle.qc_starts.proofs.noted.Noted.raise.Goals as goal

pub returns-clause-wrote : goal.returns-clause-wrote
returns-clause-wrote c =
    wrote_then c.args.self.now c.write.new.self c.write-2.new.self
    (record { notes = c.write.ensures.notes; cap = c.write.ensures.cap; noting = c.write.ensures.noting })
    (record { notes = c.write-2.ensures.notes; cap = c.write-2.ensures.cap; noting = c.write-2.ensures.noting })
