use Rattle.std.proofs.Common.{◌↔◌, Bool, true, false, not, IsTrue, refl, subst}
use Rattle.std.proofs.lemmas.Bool.{false≢true}
use Rattle.qc_starts.specs.Seen.{HasNone}
use Rattle.qc_starts.proofs.KeptLemmas.{soon_kept}
use Rattle.qc_starts.proofs.OverlapLemmas.{complete_kept, none_kept}
use Rattle.qc_starts.proofs.starts.Starts.starts_feasibly.Goals as goal

turned : (b : Bool) (P Q : Type 0) → IsTrue b ↔ P → ((¬ P) → Q) → (Q → ¬ P) → IsTrue (not b) ↔ Q
turned true P Q is none some = (λ t. absurd (false≢true t), λ q. absurd (some q (is.0 refl)))
turned false P Q is none some = (λ _. none (λ p. false≢true (is.1 p)), λ _. refl)

pub has_overlap-requires-clause-soon : goal.has_overlap-requires-clause-soon
has_overlap-requires-clause-soon c =
    let starts = subst (HasNone c.args.self.now.inst c.args.self.now.decisions) c.if-stuck.false c.stuck.ensures.none in
    soon_kept c.self.inside _ c.self.invariant c.self.view_is starts

pub returns : goal.returns
returns c =
    let starts = subst (HasNone c.args.self.now.inst c.args.self.now.decisions) c.if-stuck.false c.stuck.ensures.none in
    turned c.has_overlap.result _ _ c.has_overlap.ensures
    (none_kept c.self.inside _ c.self.invariant c.self.view_is c.requires.free c.requires.assigned starts)
    (complete_kept c.self.inside _ c.self.invariant c.self.view_is c.requires.free c.requires.assigned starts)
