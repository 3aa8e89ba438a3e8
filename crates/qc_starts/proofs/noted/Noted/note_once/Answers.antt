use Rattle.std.proofs.Common.{ℕ, [], ◌∷◌, ◌++◌, ap, sym, refl, ◌∙◌, arith, true}
use Rattle.std.proofs.lemmas.List.{get_or_default}
use Rattle.qc_arena.specs.Trails.{Notes}
use Rattle.qc_starts.proofs.NotingLemmas.{marks_below, note_fits, note_keeps}
use Rattle.qc_starts.proofs.noted.Noted.note_once.Goals as goal

pub note-requires : goal.note-requires
note-requires c =
    let is = c.requires.notes in
    let items = c.args.self.now.noted.items in
    let free = get_or_default items c.args.place true c.index.result.now (omega arith) ∙ sym c.index.ensures ∙ c.if-index.false in
    omega (arith, marks_below items c.args.place (omega arith) free)

pub returns-clause-notes : goal.returns-clause-notes
returns-clause-notes c =
    let is = c.requires.notes in
    let items = c.args.self.now.noted.items in
    let free = get_or_default items c.args.place true c.index.result.now (omega arith) ∙ sym c.index.ensures ∙ c.if-index.false in
    note_fits c.args.self.now _ c.args.place c.get.result is c.requires.place free refl
    (ap (λ (t : Notes). t.cap) c.note.ensures) (ap (λ (t : Notes). t.notes) c.note.ensures) refl

pub returns-clause-noting : goal.returns-clause-noting
returns-clause-noting c = λ before olds.
    let is = c.requires.notes in
    let items = c.args.self.now.noted.items in
    let free = get_or_default items c.args.place true c.index.result.now (omega arith) ∙ sym c.index.ensures ∙ c.if-index.false in
    note_keeps before olds _ _ c.args.place c.requires.place is.size free refl
    (ap (λ (t : Notes). t.notes) c.note.ensures
    ∙ ap (λ (v : ℕ). c.args.self.now.trail.notes ++ record { place = c.args.place; old = v } ∷ []) c.get.ensures) refl
