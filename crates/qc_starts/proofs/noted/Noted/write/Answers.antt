use Rattle.qc_starts.proofs.NotingLemmas.{set_keeps}
use Rattle.qc_starts.proofs.noted.Noted.write.Goals as goal

pub returns-clause-noting : goal.returns-clause-noting
returns-clause-noting c = λ before olds is.
    set_keeps before olds c.note_once.new.self c.set.new.self c.args.place c.args.value c.note_once.ensures.marked
    c.set.ensures (c.note_once.ensures.noting before olds is)
