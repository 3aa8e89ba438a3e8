use Rattle.std.proofs.Common.{◌≡◌, ◌↔◌, ◌⊎◌, inl, inr, Bool, false, IsTrue}
use Rattle.qc_dispatch.proofs.order.are_tied.Goals as goal

-- the last of three tests, where the first two failed
last_of : {A B C : Type 0} (a b c : Bool) → a ≡ false → IsTrue a ↔ A → b ≡ false → IsTrue b ↔ B → IsTrue c ↔ C → IsTrue c ↔ (A ⊎ (B ⊎ C))
last_of a b c first says_a second says_b says_c = (
  λ t. inr (inr (says_c.0 t)),
  λ any. elim any [
    | inl x ↦ absurd (cc (first, says_a.1 x))
    | inr rest ↦ elim rest [
      | inl x ↦ absurd (cc (second, says_b.1 x))
      | inr x ↦ says_c.1 x
    ]
  ],
)

pub returns : goal.returns
returns c =
    last_of c.is_before.result c.are_paired.result c.are_near.result c.if-is_before.false c.is_before.ensures c.if-are_paired.false c.are_paired.ensures
    c.are_near.ensures
