-- The task that ends last of the first ones, with one task more.
use Rattle.std.proofs.Common.{ℕ, ◌+◌, ◌<◌, ◌≤◌, inl, inr, List, Option, None, Some, sym, subst, arith}
use Rattle.std.proofs.lemmas.Bool.{cases_eq}
use Rattle.qc_model.specs.Instance.{InstanceView}
use Rattle.qc_starts.specs.Found.{IsLatest, end_by, end_in}

pub before_it : (inst : InstanceView) (cells : List ℕ) (t : ℕ) (last : Option ℕ) → IsLatest inst cells t last
    → (k : ℕ) → k < t → end_in inst cells k ≤ end_by inst cells last
before_it inst cells t None is k low = absurd (omega arith)
before_it inst cells t (Some j) is k low = is.1 k low

pub still : (inst : InstanceView) (cells : List ℕ) (t : ℕ) (last : Option ℕ) → IsLatest inst cells t last
    → 1 ≤ end_in inst cells t → end_in inst cells t ≤ end_by inst cells last → IsLatest inst cells (t + 1) last
still inst cells t None is some early = absurd (omega arith)
still inst cells t (Some j) is some early = (
  omega (arith, is.0),
  λ k low. elim (cases_eq k t) [
    | inl same ↦ subst (λ (i : ℕ). end_in inst cells i ≤ end_in inst cells j) (sym same) early
    | inr other ↦ is.1 k (omega arith)
  ],
)

-- a later one
pub this_one : (inst : InstanceView) (cells : List ℕ) (t : ℕ) (last : Option ℕ) → IsLatest inst cells t last
    → end_by inst cells last ≤ end_in inst cells t → IsLatest inst cells (t + 1) (Some t)
this_one inst cells t last is later = (
  omega arith,
  λ k low. elim (cases_eq k t) [
    | inl same ↦ subst (λ (i : ℕ). end_in inst cells i ≤ end_in inst cells t) (sym same) (omega arith)
    | inr other ↦ omega (arith, before_it inst cells t last is k (omega arith), later)
  ],
)
