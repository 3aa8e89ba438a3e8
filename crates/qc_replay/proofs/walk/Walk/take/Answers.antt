use Rattle.std.proofs.Common.{◌∙◌, ap, sym}
use Rattle.qc_replay.specs.Stages.{WalkView}
use Rattle.qc_replay.specs.Walk.{is_known}
use Rattle.qc_replay.proofs.WalkFacts.{known_line}
use Rattle.qc_replay.proofs.walk.Walk.take.Goals as goal

pub returns-clause-taken : goal.returns-clause-taken
returns-clause-taken c =
    let line = c.args.line in
    known_line c.args.self.now.inst c.args.self.now.reading (record { line = line; list = c.args.numbers.now })
    (ap (λ (w : WalkView). is_known w.inst.turn line) (sym c.self.view_is)
    ∙ ap (λ turn. is_known turn line) (sym c.turn.ensures)
    ∙ sym c.is_known.ensures ∙ c.if-not-is_known.false)
    ∙ c.take_known.ensures.taken
