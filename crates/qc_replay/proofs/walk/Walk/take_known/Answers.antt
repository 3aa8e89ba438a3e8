use Rattle.std.proofs.Common.{◌∙◌, None, Ok, ap, rules, sym}
use Rattle.qc_replay.specs.Stages.{leading, reading_at}
use Rattle.qc_replay.specs.declared.walk.Stage.{Stage}
use Rattle.qc_replay.proofs.FileFacts.{handed}
use Rattle.qc_replay.proofs.WalkFacts.{down_read, down_taken, end_taken, handed_on, title_taken, up_taken}
use Rattle.qc_replay.proofs.walk.Walk.take_known.Goals as goal

pub returns-in_err-expect_title-in-Title-clause-taken : goal.returns-in_err-expect_title-in-Title-clause-taken
returns-in_err-expect_title-in-Title-clause-taken c =
    title_taken c.self.inside c.args.self.now c.self.view_is c.self.invariant c.args.line c.args.numbers.now c.in-Title.is c.expect_title.result c.expect_title.ensures
    ∙ handed_on _ _ c.expect_title.result _ _ c.in_err-expect_title-in-Title.was (search rules)

pub returns-in_ok-expect_title-in-Title-clause-taken : goal.returns-in_ok-expect_title-in-Title-clause-taken
returns-in_ok-expect_title-in-Title-clause-taken c =
    let w = c.self.inside in
    title_taken w c.args.self.now c.self.view_is c.self.invariant c.args.line c.args.numbers.now c.in-Title.is c.expect_title.result c.expect_title.ensures
    ∙ ap (leading _) c.in_ok-expect_title-in-Title.was
    ∙ ap (λ (s : Stage). Ok (reading_at s w.way w.part w.second w.tally)) (sym c.behind_title-self-inside.ensures)

pub returns-in_err-expect_word-in-Up-clause-taken : goal.returns-in_err-expect_word-in-Up-clause-taken
returns-in_err-expect_word-in-Up-clause-taken c =
    up_taken c.self.inside c.args.self.now c.self.view_is c.self.invariant c.args.line c.args.numbers.now c.in-Up.is c.expect_word.result c.expect_word.ensures
    ∙ handed_on _ _ c.expect_word.result _ _ c.in_err-expect_word-in-Up.was (search rules)

pub returns-in_ok-expect_word-in-Up-clause-taken : goal.returns-in_ok-expect_word-in-Up-clause-taken
returns-in_ok-expect_word-in-Up-clause-taken c =
    up_taken c.self.inside c.args.self.now c.self.view_is c.self.invariant c.args.line c.args.numbers.now c.in-Up.is c.expect_word.result c.expect_word.ensures
    ∙ ap (leading _) c.in_ok-expect_word-in-Up.was

pub returns-in_err-expect_end-in-None-clause-taken : goal.returns-in_err-expect_end-in-None-clause-taken
returns-in_err-expect_end-in-None-clause-taken c =
    end_taken c.self.inside c.args.self.now c.self.view_is c.self.invariant c.args.line c.args.numbers.now c.in-Part.is
    (sym c.is_live.ensures ∙ c.if-is_live.false) (sym c.take.ensures.value ∙ c.in-None.is) c.expect_end.result c.expect_end.ensures None
    ∙ handed_on _ _ c.expect_end.result _ _ c.in_err-expect_end-in-None.was (search rules)

pub returns-in_ok-expect_end-in-None-clause-taken : goal.returns-in_ok-expect_end-in-None-clause-taken
returns-in_ok-expect_end-in-None-clause-taken c =
    end_taken c.self.inside c.args.self.now c.self.view_is c.self.invariant c.args.line c.args.numbers.now c.in-Part.is
    (sym c.is_live.ensures ∙ c.if-is_live.false) (sym c.take.ensures.value ∙ c.in-None.is) c.expect_end.result c.expect_end.ensures
    c.take.new.self
    ∙ ap (leading _) c.in_ok-expect_end-in-None.was

pub returns-in_err-expect_word-in-Some-clause-taken : goal.returns-in_err-expect_word-in-Some-clause-taken
returns-in_err-expect_word-in-Some-clause-taken c =
    let out = c.from_residual-in_err-expect_word-in-Some in
    down_taken c.self.inside c.args.self.now c.self.view_is c.self.invariant c.args.line c.args.numbers.now c.in-Part.is
    (sym c.is_live.ensures ∙ c.if-is_live.false) c.in-Some.second (sym c.take.ensures.value ∙ c.in-Some.is)
    c.expect_word-in-Some.result c.expect_word-in-Some.ensures
    ∙ handed_on _ _ c.expect_word-in-Some.result _ _ c.in_err-expect_word-in-Some.was
    (handed out.result c.in_err-expect_word-in-Some.field-0.0 out.ensures.1)

pub returns-in_ok-expect_word-in-Some-clause-taken : goal.returns-in_ok-expect_word-in-Some-clause-taken
returns-in_ok-expect_word-in-Some-clause-taken c =
    let w = c.self.inside in
    down_taken w c.args.self.now c.self.view_is c.self.invariant c.args.line c.args.numbers.now c.in-Part.is
    (sym c.is_live.ensures ∙ c.if-is_live.false) c.in-Some.second (sym c.take.ensures.value ∙ c.in-Some.is)
    c.expect_word-in-Some.result c.expect_word-in-Some.ensures
    ∙ ap (leading _) c.in_ok-expect_word-in-Some.was
    ∙ ap Ok (down_read w c.args.self.now c.self.view_is c.self.invariant c.args.line c.args.numbers.now c.in-Part.is
    c.in-Some.second c.go_on_with.new.part c.go_on_with.ensures c.take.new.self c.take.ensures.after)
