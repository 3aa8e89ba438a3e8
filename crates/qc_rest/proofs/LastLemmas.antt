-- When the old order is over, one task more.
use Rattle.std.proofs.Common.{◌≡◌, ℕ, ◌+◌, ◌≤◌, ◌↔◌, inl, inr, max, length, sym, subst, arith}
use Rattle.std.proofs.lemmas.Bool.{cases_eq}
use Rattle.qc_dispatch.specs.Course.{Course}
use Rattle.qc_model.specs.Instance.{ticks_of}
use Rattle.qc_rest.specs.Lasting.{IsLastFor, IsLastOfAll}
use Rattle.qc_rest.specs.Progress.{IsLeft}

module _ (c : Course) (goes : ℕ → ℕ) where
  pub last_first : (last : ℕ) → last ≡ c.clock → IsLastFor c goes 0 last
  last_first last is moment = (λ le. (omega (arith, is, le), λ j low. absurd (omega arith)), λ both. omega (arith, is, both.0))

  pub last_more : (n last end after : ℕ) → ((moment : ℕ) → (end ≤ moment) ↔ (IsLeft c n → goes n + ticks_of c.inst n ≤ moment)) → after ≡ max last end
      → IsLastFor c goes n last → IsLastFor c goes (n + 1) after
  last_more n last end after by same is moment = (
    λ le.
        let before = (is moment).0 (omega (arith, le, same)) in (
          before.0,
          λ j low left. elim (cases_eq j n) [
            | inl e ↦ subst (λ (k : ℕ). goes k + ticks_of c.inst k ≤ moment) (sym e) ((by moment).0 (omega (arith, le, same)) (subst (IsLeft c) e left))
            | inr other ↦ before.1 j (omega arith) left
          ],
        ),
    λ both.
        let one = (is moment).1 (both.0, λ j low left. both.1 j (omega arith) left) in
        let two = (by moment).1 (λ left. both.1 n (omega arith) left) in
        omega (arith, one, two, same),
  )

  pub last_all : (n last : ℕ) → length c.inst.tasks ≤ n → IsLastFor c goes n last → IsLastOfAll c goes last
  last_all n last all is moment = (
    λ le. let before = (is moment).0 le in (before.0, λ j left. before.1 j (omega (arith, all, left.task)) left),
    λ both. (is moment).1 (both.0, λ j low left. both.1 j left),
  )
