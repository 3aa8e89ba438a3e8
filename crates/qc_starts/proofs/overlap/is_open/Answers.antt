use Rattle.std.proofs.Common.{◌↔◌, Bool, true, false, not, IsTrue, refl, sym, ◌∙◌}
use Rattle.std.proofs.lemmas.Bool.{false≢true}
use Rattle.qc_starts.proofs.overlap.is_open.Goals as goal

-- what holds, and that something else doesn't
one_alone : (b : Bool) (P Q : Type 0) → P → IsTrue b ↔ Q → IsTrue (not b) ↔ (P × (¬ Q))
one_alone true P Q p told = (λ t. absurd (false≢true t), λ both. absurd (both.1 (told.0 refl)))
one_alone false P Q p told = (λ _. (p, λ q. false≢true (told.1 q)), λ _. refl)

pub returns-then-conflict : goal.returns-then-conflict
returns-then-conflict c =
    one_alone c.settled.result _ _ (c.conflict.ensures.0 c.if-conflict.true) c.settled.ensures

pub returns-else-conflict : goal.returns-else-conflict
returns-else-conflict c = (
  λ t. absurd (false≢true (sym c.if-conflict.false ∙ t)),
  λ able. absurd (false≢true (sym c.if-conflict.false ∙ c.conflict.ensures.1 able.0)),
)
