-- Holds that neither start, end nor come past a crane, one more at a time; and numbers as the code reads them.
use Rattle.std.proofs.Common.{◌≡◌, ℕ, ◌+◌, ◌<◌, ◌≤◌, ℤ, ◌≤ℤ◌, inl, inr, to_z, of_z, w64, sym, subst, arith}
use Rattle.std.proofs.lemmas.Bool.{cases_lt}
use Rattle.std.proofs.lemmas.Int.{ints}
use Rattle.qc_freemove.specs.declared.hold.Hold.{Hold}
use Rattle.qc_freemove.specs.FreeSweep.{AreSteady, FreeSwept, IsEven, IsFreeSound, IsHalfPlace, IsOutside, IsSteady, IsUnpassed, floor_place, held, hold_count, hold_of, place_at}
use Rattle.qc_freemove.proofs.Even.{steps}
use Rattle.qc_freemove.proofs.SweptHolds.{lasting}

-- what holds up to a half tick holds up to an earlier one
pub outside_sooner : (m e n t : ℕ) → n ≤ e → IsOutside m e t → IsOutside m n t
outside_sooner m e n t low (inl h) = inl h
outside_sooner m e n t low (inr h) = inr (omega arith)

pub unpassed_sooner : (m e n : ℕ) (p q u v : ℤ) → n ≤ e → IsUnpassed m p q u v e → IsUnpassed m p q u v n
unpassed_sooner m e n p q u v low h = record {
  by_one = λ g. let k = h.by_one g in omega (arith, ints);
  by_two = λ g. let k = h.by_two g in omega (arith, ints);
}

pub steady_sooner : (h : Hold) (m e n : ℕ) (p q : ℤ) → n ≤ e → IsSteady h m p q e → IsSteady h m p q n
steady_sooner h m e n p q low s = record {
  from = outside_sooner m e n h.from low s.from;
  until = outside_sooner m e n h.until low s.until;
  below = unpassed_sooner m e n p q (held h m) (held h (m + 1)) low s.below;
}

-- a place as the code reads it
pub read : (x y : ℤ) → x ≡ y → IsHalfPlace x → to_z w64 (of_z w64 x) ≡ y
read x y e near = omega (arith, ints)

pub below_read : (x y p q : ℤ) → x ≡ p → y ≡ q → IsHalfPlace x → IsHalfPlace y → p ≤ℤ q
    → to_z w64 (of_z w64 x) ≤ℤ to_z w64 (of_z w64 y)
below_read x y p q e f near far h = omega (arith, ints)

pub hold_below : (h k : Hold) (m : ℕ) (y q : ℤ) → h ≡ k → y ≡ q → IsHalfPlace y → held k m ≤ℤ q
    → held h m ≤ℤ to_z w64 (of_z w64 y)
hold_below h k m y q e f near low =
    subst (λ (g : Hold). held g m ≤ℤ to_z w64 (of_z w64 y)) (sym e)
    (subst (λ (z : ℤ). held k m ≤ℤ z) (sym (read y q f near)) low)

pub unpassed_read : (m e : ℕ) (p q a b u v : ℤ) → a ≡ u → b ≡ v
    → IsUnpassed m p q a b e → IsUnpassed m p q u v e
unpassed_read m e p q a b u v f g h = record {
  by_one = λ k. let l = h.by_one (omega (arith, ints)) in omega (arith, ints);
  by_two = λ k. let l = h.by_two (omega (arith, ints)) in omega (arith, ints);
}

pub steady_read : (h k : Hold) (m e : ℕ) (a b p q : ℤ) → h ≡ k → a ≡ p → b ≡ q → IsSteady h m a b e
    → IsSteady k m p q e
steady_read h k m e a b p q f g i s =
    subst (λ (o : Hold). IsSteady o m p q e) f
    (subst (λ (z : ℤ). IsSteady h m z q e) g (subst (λ (z : ℤ). IsSteady h m a z e) i s))

-- one hold more
pub steady_next : (it : FreeSwept) (m n end e f : ℕ) → AreSteady it m n end e → m < f → f ≤ e
    → IsSteady (hold_of it n) m (place_at it m) (place_at it (m + 1)) f → AreSteady it m (n + 1) end f
steady_next it m n end e f h on low last = record {
  onward = on;
  within = let w = h.within in omega arith;
  floor = unpassed_sooner m e f (place_at it m) (place_at it (m + 1)) (floor_place it) (floor_place it) low h.floor;
  holds = λ i l. elim (cases_lt i n) [
    | inl k ↦ steady_sooner (hold_of it i) m e f (place_at it m) (place_at it (m + 1)) low (h.holds i k)
    | inr k ↦
        let same : n ≡ i = omega arith in
        subst (λ (j : ℕ). IsSteady (hold_of it j) m (place_at it m) (place_at it (m + 1)) f) same last
  ];
}

-- where all are steady the crane goes on as it goes
pub even_of : (it : FreeSwept) (m n end e : ℕ) → IsFreeSound it → hold_count it ≤ n → AreSteady it m n end e
    → IsEven it m e end
even_of it m n end e s all h = record {
  onward = h.onward;
  within = h.within;
  steps = steps (hold_of it) (floor_place it) (hold_count it) (lasting it s) m e h.onward h.floor
      (λ i l. h.holds i (omega arith));
}
