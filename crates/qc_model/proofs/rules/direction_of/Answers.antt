use Rattle.std.proofs.Common.{inl, inr, refl, sym}
use Rattle.std.proofs.lemmas.Bool.{true≢false}
use Rattle.qc_model.proofs.rules.direction_of.Goals as goal

pub returns-in_default-clause-one_way : goal.returns-in_default-clause-one_way
returns-in_default-clause-one_way c =
    let none = rw c.in_default.is at c.first_break.ensures.goes in
    (λ _. inl (none.0 refl), λ _. refl)

pub returns-in-None-clause-one_way : goal.returns-in-None-clause-one_way
returns-in-None-clause-one_way c =
    let none = rw c.in-None.is at c.first_break-2.ensures.goes in
    (λ _. inr (none.0 refl), λ _. refl)

pub returns-in-Some-first_break-clause-one_way : goal.returns-in-Some-first_break-clause-one_way
returns-in-Some-first_break-clause-one_way c =
    let up = rw c.in-Some.is at c.first_break.ensures.goes in
    let down = rw c.in-Some-first_break.is at c.first_break-2.ensures.goes in (
      λ e. absurd (true≢false (sym e)),
      λ goes. elim goes [
        | inl u ↦ absurd (true≢false (up.1 u))
        | inr d ↦ absurd (true≢false (down.1 d))
      ],
    )
