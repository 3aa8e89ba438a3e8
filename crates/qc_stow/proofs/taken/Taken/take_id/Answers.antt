use Rattle.std.proofs.Common.{Bor, ◌∙◌, ◌&&◌, List, ℕ, sym, ap, not, rules}
use Rattle.std.specs.Str.{bytes_eq}
use Rattle.qc_stow.proofs.TakenFacts.{list_any-agree, list_any-map}
use Rattle.qc_stow.specs.Moves.{same_move}
use Rattle.qc_stow.specs.declared.row.Move.{Move}
use Rattle.qc_stow.proofs.taken.Taken.take_id.Goals as goal

pub returns-clause-new : goal.returns-clause-new
returns-clause-new c =
    let kept = list_any-map (λ (taken : Move × List ℕ). same_move c.args.kind taken.0 && bytes_eq c.args.id.now taken.1) (λ (key : Move × Bor (List ℕ)). (key.0, key.1.now)) c.self.inside.ids.keys in
    let alike = list_any-agree _ (λ (key : Move × Bor (List ℕ)). same_move c.args.kind key.0 && bytes_eq c.args.id.now key.1.now) c.self.inside.ids.keys (λ key. search rules) in
    rw (← c.self.view_is) (c.in_ok-insert.ensures.added ∙ ap not (alike ∙ sym kept))
