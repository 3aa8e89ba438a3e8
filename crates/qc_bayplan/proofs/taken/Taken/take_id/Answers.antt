use Rattle.std.proofs.Common.{Vec, Global, ◌∙◌, ℕ, sym, ap, not, rules}
use Rattle.std.specs.Str.{bytes_eq}
use Rattle.qc_stow.proofs.TakenFacts.{list_any-agree, list_any-map}
use Rattle.qc_bayplan.proofs.taken.Taken.take_id.Goals as goal

pub returns-clause-new : goal.returns-clause-new
returns-clause-new c =
    let kept = list_any-map (bytes_eq c.args.id.items) (λ (key : Vec ℕ Global). key.items) c.self.inside.ids.keys in
    let alike = list_any-agree _ (λ (key : Vec ℕ Global). bytes_eq c.args.id.items key.items) c.self.inside.ids.keys (λ key. search rules) in
    rw (← c.self.view_is) (c.in_ok-insert.ensures.added ∙ ap not (alike ∙ sym kept))
