use Rattle.std.proofs.Common.{◌∙◌, inl, inr, sym}
use Rattle.std.proofs.lemmas.Bool.{false≢true}
use Rattle.qc_dist.proofs.decisions.Decisions.conflict.Goals as goal

pub returns-then-are_apart : goal.returns-then-are_apart
returns-then-are_apart c =
    let apart = rw c.instance.ensures.same at c.are_apart.ensures in
    (λ _. inl (apart.0 c.if-are_apart.true), λ _. c.if-are_apart.true)

pub returns-else-are_apart : goal.returns-else-are_apart
returns-else-are_apart c =
    let apart = rw c.instance.ensures.same at c.are_apart.ensures in (
      λ t. inr (c.clash.ensures.0 t),
      λ both. elim both [
        | inl one ↦ absurd (false≢true (sym c.if-are_apart.false ∙ apart.1 one))
        | inr two ↦ c.clash.ensures.1 two
      ],
    )
