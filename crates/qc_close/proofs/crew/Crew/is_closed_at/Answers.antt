use Rattle.std.proofs.Common.{◌∙◌, sym}
use Rattle.std.proofs.lemmas.Bool.{lt-leb}
use Rattle.qc_model.specs.declared.limits.TheConstants.{MOST_START}
use Rattle.qc_close.proofs.LimitLemmas.{closed_never}
use Rattle.qc_close.proofs.crew.Crew.is_closed_at.Goals as goal

pub returns-else-end-le-MOST_START-clause-is : goal.returns-else-end-le-MOST_START-clause-is
returns-else-end-le-MOST_START-clause-is c =
    let late = c.if-end-le-MOST_START.false in
    lt-leb c.args.end MOST_START late
    ∙ sym (closed_never c.args.self.now.inst c.args.self.now.turn c.args.self.now.cranes c.args.end
    c.instance-inst.ensures.valid c.instance-inst.ensures.range late)
