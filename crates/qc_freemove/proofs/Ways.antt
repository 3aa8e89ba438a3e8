-- Motion one way from one half tick to another.
use Rattle.std.proofs.Common.{◌≡◌, ℕ, ◌+◌, ◌-◌, ◌<◌, ◌≤◌, ℤ, pos, ◌+ℤ◌, ◌-ℤ◌, ◌≤ℤ◌, ◌<ℤ◌, ◌⊎◌, inl, inr, arith}
use Rattle.std.proofs.lemmas.Bool.{cases_order}
use Rattle.std.proofs.lemmas.Int.{by_lt_z, ints}
use Rattle.std.specs.declared.cmp.Ordering.{Ordering}
use Rattle.std.specs.declared.cmp.Ordering.TheVariants.{Less, Equal, Greater}
use Rattle.qc_freemove.specs.declared.hold.Hold.{Hold}
use Rattle.qc_freemove.specs.FreeSweep.{IsOutside, IsUnpassed, held}
use Rattle.qc_motion.specs.Sweep.{moved}

pub way_of : (p q : ℤ) → (p -ℤ pos 1) ≤ℤ q → q ≤ℤ (p +ℤ pos 1) → (o : Ordering) × (q ≡ moved o p 1)
way_of p q low high = by_lt_z p q
    (λ up. (Greater, omega (arith, ints)))
    (λ not. by_lt_z q p (λ down. (Less, omega (arith, ints))) (λ level. (Equal, omega (arith, ints))))

pub same_step : (o : Ordering) (p : ℤ) (x : ℕ) → (moved o p (x + 1) -ℤ moved o p x) ≡ (moved o p 1 -ℤ p)
same_step Less p x = omega (arith, ints)
same_step Equal p x = omega (arith, ints)
same_step Greater p x = omega (arith, ints)

-- a hold that ends no sooner than it starts, and has some time where it has a start
pub record IsLasting (h : Hold) : Type 0 where
  pub order : h.from ≤ h.until
  pub some : 0 < h.from → h.from < h.until

-- a hold goes one way
pub record GoesOn (h : Hold) (m e : ℕ) : Type 0 where
  pub way : Ordering
  pub along : (x : ℕ) → m + x ≤ e → held h (m + x) ≡ moved way (held h m) x

pub goes_on : (h : Hold) (m e : ℕ) → h.from ≤ h.until → IsOutside m e h.from → IsOutside m e h.until
    → GoesOn h m e
goes_on h m e order (inr before) until =
    record { way = Greater; along = λ x low. omega (arith, ints) }
goes_on h m e order (inl begun) (inr going) =
    record { way = Equal; along = λ x low. omega (arith, ints) }
goes_on h m e order (inl begun) (inl over) =
    record { way = Less; along = λ x low. omega (arith, ints) }

-- what lies no higher and is not passed stays no higher
pub stays_below : (o w : Ordering) (p q u v : ℤ) (m e x : ℕ) → q ≡ moved o p 1 → v ≡ moved w u 1 → u ≤ℤ p
    → IsUnpassed m p q u v e → m + x ≤ e → moved w u x ≤ℤ moved o p x
stays_below Less Less p q u v m e x f g low n till = omega (arith, ints)
stays_below Less Equal p q u v m e x f g low n till =
    let h = n.by_one (omega (arith, ints)) in omega (arith, ints)
stays_below Less Greater p q u v m e x f g low n till =
    let h = n.by_two (omega (arith, ints)) in omega (arith, ints)
stays_below Equal Less p q u v m e x f g low n till = omega (arith, ints)
stays_below Equal Equal p q u v m e x f g low n till = omega (arith, ints)
stays_below Equal Greater p q u v m e x f g low n till =
    let h = n.by_one (omega (arith, ints)) in omega (arith, ints)
stays_below Greater Less p q u v m e x f g low n till = omega (arith, ints)
stays_below Greater Equal p q u v m e x f g low n till = omega (arith, ints)
stays_below Greater Greater p q u v m e x f g low n till = omega (arith, ints)

-- what lies no higher, but as high a half tick later, is no lower from then on
pub keeps_up : (o w : Ordering) (p q u : ℤ) (x : ℕ) → q ≡ moved o p 1 → q ≡ moved w u 1 → u ≤ℤ p
    → moved o p (x + 1) ≤ℤ moved w u (x + 1)
keeps_up Less Less p q u x f g low = omega (arith, ints)
keeps_up Less Equal p q u x f g low = omega (arith, ints)
keeps_up Less Greater p q u x f g low = omega (arith, ints)
keeps_up Equal Less p q u x f g low = omega (arith, ints)
keeps_up Equal Equal p q u x f g low = omega (arith, ints)
keeps_up Equal Greater p q u x f g low = omega (arith, ints)
keeps_up Greater Less p q u x f g low = omega (arith, ints)
keeps_up Greater Equal p q u x f g low = omega (arith, ints)
keeps_up Greater Greater p q u x f g low = omega (arith, ints)

pub held_step : (h : Hold) (m : ℕ)
    → ((held h m -ℤ pos 1) ≤ℤ held h (m + 1)) × (held h (m + 1) ≤ℤ (held h m +ℤ pos 1))
held_step h m = (omega (arith, ints), omega (arith, ints))

-- where a hold's step falls it falls by one, just as the hold starts or ends
pub record IsCorner (h : Hold) (m : ℕ) (before after : ℤ) : Type 0 where
  pub by_one : before ≡ (after +ℤ pos 1)
  pub corner : (h.from ≡ m) ⊎ (h.until ≡ m)

pub corner_of : (h : Hold) (m : ℕ) → IsLasting h → 0 < m
    → (held h (m + 1) -ℤ held h m) <ℤ (held h m -ℤ held h (m - 1))
    → IsCorner h m (held h m -ℤ held h (m - 1)) (held h (m + 1) -ℤ held h m)
corner_of h m lasts some falls = by_from (cases_order h.from m)
  where
    by_from : (h.from ≡ m) ⊎ ((h.from < m) ⊎ (m < h.from))
        → IsCorner h m (held h m -ℤ held h (m - 1)) (held h (m + 1) -ℤ held h m)
    by_from (inl e) =
        let long = lasts.some (omega arith) in
        record { by_one = omega (arith, ints); corner = inl e }
    by_from (inr (inr later)) =
        let order = lasts.order in absurd (omega (arith, ints))
    by_from (inr (inl begun)) = elim (cases_order h.until m) [
      | inl e ↦ record { by_one = omega (arith, ints); corner = inr e }
      | inr u ↦ elim u [
        | inl over ↦ absurd (omega (arith, ints))
        | inr going ↦ absurd (omega (arith, ints))
      ]
    ]
