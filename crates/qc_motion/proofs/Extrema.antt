-- The lower and the higher of two whole numbers, as the code comes to them.
use Rattle.std.proofs.Common.{◌≡◌, ℤ, FitsSigned, to_z, of_z, int_lt, arith}
use Rattle.std.proofs.lemmas.Bool.{cond_both}
use Rattle.std.proofs.lemmas.Int.{ints, to_z-of_z}
use Rattle.std.specs.Int.{int_max, int_min}
use mir.Syntax.{Width}
use Rattle.qc_model.specs.Motion.{IsGreatest}

-- what holds of both holds of the higher
pub of_max : (P : ℤ → Type 0) (w : Width) (p x y r : ℤ) → FitsSigned w r → r ≡ int_max p y → y ≡ x → P p → P x
    → P (to_z w (of_z w r))
of_max P w p x y r f e s hp hx =
    rw (to_z-of_z w r f, e, s) (cond_both (int_lt x p) p x P (λ _. hp) (λ _. hx))

-- what holds of both holds of the lower
pub of_min : (P : ℤ → Type 0) (w : Width) (p x y r : ℤ) → FitsSigned w r → r ≡ int_min p y → y ≡ x → P p → P x
    → P (to_z w (of_z w r))
of_min P w p x y r f e s hp hx =
    rw (to_z-of_z w r f, e, s) (cond_both (int_lt x p) x p P (λ _. hx) (λ _. hp))

-- of a kind of numbers there is one greatest
pub greatest_unique : (P : ℤ → Type 0) (x y : ℤ) → IsGreatest P x → IsGreatest P y → x ≡ y
greatest_unique P x y g h = omega (arith, ints, g.most y h.is, h.most x g.is)
