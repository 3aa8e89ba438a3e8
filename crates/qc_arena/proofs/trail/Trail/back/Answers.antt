use Rattle.std.proofs.Common.{◌<◌, ◌++◌, length, List, ap, sym, ◌∙◌}
use Rattle.std.proofs.lemmas.List.Elements.{All-same}
use Rattle.qc_arena.specs.declared.trail.Note.{Note}
use Rattle.qc_arena.proofs.Written.{written_back_length, between_holds}
use Rattle.qc_arena.proofs.trail.Trail.back.Goals as goal

pub set-requires : goal.set-requires
set-requires c =
    let before = c.loop-self.invariant in
    let P : Note → Type 0 = λ note. note.place < length c.args.cells.now in
    let all = before.1 ∙ ap (λ (left : List Note). left ++ before.0) c.in-Some.ensures.items in
    rw (before.2, written_back_length before.0 c.args.cells.now)
    (between_holds P _ _ before.0 (All-same P _ _ (sym all) c.requires.places))

pub returns-clause-count : goal.returns-clause-count
returns-clause-count c =
    let before = c.loop-self.invariant in
    ap length before.2 ∙ written_back_length before.0 c.args.cells.now
