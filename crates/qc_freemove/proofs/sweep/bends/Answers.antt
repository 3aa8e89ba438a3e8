use Rattle.std.proofs.Common.{◌≡◌, ◌≢◌, ℕ, ℤ, ◌-ℤ◌, IsTrue, nat_eq, to_z, of_z, w64, ap, arith}
use Rattle.std.proofs.Math.Bool.{not}
use Rattle.std.proofs.lemmas.Bool.{eqb-false, ne_eqb, not-true}
use Rattle.std.proofs.lemmas.Int.{ints}
use Rattle.qc_freemove.proofs.sweep.bends.Goals as goal

-- two numbers differ where their bits do
differ : (m n : ℕ) (p q : ℤ) → (m ≡ n → p ≡ q) → (p ≡ q → m ≡ n)
    → (IsTrue (not (nat_eq m n)) → p ≢ q) × (p ≢ q → IsTrue (not (nat_eq m n)))
differ m n p q f g = (
  λ t e. eqb-false m n (not-true (nat_eq m n) t) (g e),
  λ o. ap not (ne_eqb m n (λ e. o (f e))),
)

pub returns : goal.returns
returns c =
    let r = c.requires in
    let x = to_z w64 (of_z w64 c.args.after) -ℤ to_z w64 (of_z w64 c.args.there) in
    let y = to_z w64 (of_z w64 c.args.there) -ℤ to_z w64 (of_z w64 c.args.before) in
    differ (of_z w64 x) (of_z w64 y) (c.args.after -ℤ c.args.there) (c.args.there -ℤ c.args.before)
    (λ e.
    let h = ap (λ (k : ℕ). to_z w64 k) e in omega (arith, ints, h, r.before, r.there, r.after))
    (λ e.
    let same : x ≡ y = omega (arith, ints, e, r.before, r.there, r.after) in ap (λ (z : ℤ). of_z w64 z) same)
