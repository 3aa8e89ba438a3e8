-- What the code computes of places, by what stands for it.
use Rattle.std.proofs.Common.{◌≡◌, ℕ, ◌*◌, ◌≤◌, ◌<◌, lit<, ℤ, pos, negsuc, ◌+ℤ◌, ◌-ℤ◌, ◌*ℤ◌, ◌<ℤ◌, ◌≤ℤ◌, MatchBool, FitsSigned, to_z, of_z, w32, w64, inl, inr, refl, ◌∙◌, arith, unsigned_abs}
use Rattle.std.proofs.lemmas.Bool.{cases_Bool}
use Rattle.std.proofs.lemmas.Int.{ints, unsigned_abs-mul, fits_signed_mul}
use Rattle.std.proofs.lemmas.Nat.{mul-le}
use borrow.Author.Differences.{up, down}
use lib.Signed.{lt_z}
use mir.Syntax.{w128}

pub parts : (z : ℤ) (n : ℕ) → unsigned_abs z ≤ n → (up z ≤ n) × (down z ≤ n)
parts (pos k) n h = (h, omega arith)
parts (negsuc k) n h = (omega arith, omega (arith, h))

pub sum_fits : (a b : ℤ) → unsigned_abs a ≤ 2000000000000000000 → unsigned_abs b ≤ 2000000000000000000
    → FitsSigned w64 (to_z w64 (of_z w64 a) +ℤ to_z w64 (of_z w64 b))
sum_fits a b h k =
    let p = parts a 2000000000000000000 h in
    let q = parts b 2000000000000000000 k in
    omega (arith, ints, p.0, p.1, q.0, q.1)

pub sum_is : (a b : ℤ) → unsigned_abs a ≤ 2000000000000000000 → unsigned_abs b ≤ 2000000000000000000
    → to_z w64 (of_z w64 (to_z w64 (of_z w64 a) +ℤ to_z w64 (of_z w64 b))) ≡ (a +ℤ b)
sum_is a b h k =
    let p = parts a 2000000000000000000 h in
    let q = parts b 2000000000000000000 k in
    omega (arith, ints, p.0, p.1, q.0, q.1)

-- ---- the place between two reports
abbrev IsPlace : ℤ → Type 0
IsPlace x = (negsuc 999998 ≤ℤ x) × (x ≤ℤ pos 999999)

pub start_is : (r b x : ℤ) (ticks : ℕ) → r ≡ (to_z w64 (of_z w64 b) *ℤ pos ticks) → b ≡ to_z w32 (of_z w32 x) → IsPlace x
    → r ≡ (pos (1 * ticks) *ℤ x)
start_is r b x ticks e f near =
    let q : to_z w64 (of_z w64 b) ≡ x = rw f (omega (arith, ints, near.0, near.1)) in
    let g = rw q at e in
    omega (arith, ints, g)

pub way_is : (r b c x y : ℤ) (k : ℕ)
    → r ≡ (to_z w64 (of_z w64 (to_z w64 (of_z w64 c) -ℤ to_z w64 (of_z w64 b))) *ℤ pos k)
    → b ≡ to_z w32 (of_z w32 x) → c ≡ to_z w32 (of_z w32 y) → IsPlace x → IsPlace y
    → r ≡ ((y -ℤ x) *ℤ pos k)
way_is r b c x y k e f g near there =
    let q : to_z w64 (of_z w64 (to_z w64 (of_z w64 c) -ℤ to_z w64 (of_z w64 b))) ≡ (y -ℤ x) = rw (f, g) (omega (arith, ints, near.0, near.1, there.0, there.1)) in
    rw q at e

pub line_is : (s w t x y : ℤ) (a k n : ℕ) → s ≡ (pos (1 * a) *ℤ x) → w ≡ ((y -ℤ x) *ℤ pos k) → k ≡ n → t ≡ (s +ℤ w)
    → t ≡ ((pos (1 * a) *ℤ x) +ℤ ((y -ℤ x) *ℤ pos n))
line_is s w t x y a k n e f g h = h ∙ rw (e, f, g) refl

-- ---- the test
near_all : (z : ℤ) → unsigned_abs z ≤ 4000000000000000000000000000000 → to_z w128 (of_z w128 z) ≡ z
near_all z h = let p = parts z 4000000000000000000000000000000 h in omega (arith, ints, p.0, p.1)

wanted_is : (a : ℤ) (n : ℕ) → unsigned_abs a ≤ 4000000000000000000000000000000 → n ≤ 16000000000000000000000000000
    → to_z w128 (of_z w128 (to_z w128 (of_z w128 a) +ℤ to_z w128 n)) ≡ (a +ℤ pos n)
wanted_is a n h k = let p = parts a 4000000000000000000000000000000 h in omega (arith, ints, p.0, p.1)

by_test : (x y : ℤ) → MatchBool (lt_z x y) (x <ℤ y) (y ≤ℤ x)
by_test x y = elim (cases_Bool (lt_z x y)) [
  | inl e ↦ rw e (omega (arith, ints, e))
  | inr e ↦ rw e (omega (arith, ints, e))
]

pub short_is : (r a reached across : ℤ) (n room : ℕ) → unsigned_abs r ≤ 4000000000000000000000000000000
    → unsigned_abs a ≤ 4000000000000000000000000000000 → n ≤ 16000000000000000000000000000
    → r ≡ reached → a ≡ across → n ≡ room
    → MatchBool (lt_z (to_z w128 (of_z w128 r)) (to_z w128 (of_z w128 (to_z w128 (of_z w128 a) +ℤ to_z w128 n))))
    (reached <ℤ (across +ℤ pos room)) ((across +ℤ pos room) ≤ℤ reached)
short_is r a reached across n room h k l e f g =
    rw (near_all r h, wanted_is a n k l, e, f, g) (by_test reached (across +ℤ pos room))

pub passed_on : (z : ℤ) → unsigned_abs z ≤ 4000000000000000000 → to_z w64 (of_z w64 z) ≡ z
passed_on z h = let p = parts z 4000000000000000000 h in omega (arith, ints, p.0, p.1)

-- ---- the one number of a fraction times the other of another
pub across_is : (r s z : ℤ) (n : ℕ) → r ≡ to_z w64 (of_z w64 z) → s ≡ pos n → unsigned_abs z ≤ 4000000000000000000 → n < 1000000000000
    → (to_z w128 (of_z w128 r) *ℤ to_z w128 (of_z w128 s)) ≡ (z *ℤ pos n)
across_is r s z n e f h k =
    rw (e, f, passed_on z h, near_all z (omega (arith, h)), near_all (pos n) (omega (arith, k))) refl

pub across_small : (z : ℤ) (n : ℕ) → unsigned_abs z ≤ 4000000000000000000 → n < 1000000000000
    → unsigned_abs (z *ℤ pos n) ≤ 4000000000000000000000000000000
across_small z n h k =
    omega (arith, unsigned_abs-mul z (pos n), mul-le (unsigned_abs z) n 4000000000000000000 1000000000000 h (omega (arith, k)))

pub across_fits : (z : ℤ) (n : ℕ) → unsigned_abs z ≤ 4000000000000000000 → n < 1000000000000 → FitsSigned w128 (z *ℤ pos n)
across_fits z n h k = fits_signed_mul w128 z (pos n) 4000000000000000000 1000000000000 h (omega (arith, k)) (lit< tt)

pub across_whole : (z : ℤ) (n : ℕ) → unsigned_abs z ≤ 4000000000000000000 → n < 1000000000000
    → to_z w128 (of_z w128 (z *ℤ pos n)) ≡ (z *ℤ pos n)
across_whole z n h k = near_all (z *ℤ pos n) (across_small z n h k)
