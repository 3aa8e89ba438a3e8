-- How the highest of some holds moves.
use Rattle.std.proofs.Common.{◌≡◌, ℕ, zero, suc, ◌+◌, ◌-◌, ◌<◌, ◌≤◌, ℤ, pos, ◌+ℤ◌, ◌-ℤ◌, ◌≤ℤ◌, ◌<ℤ◌, ◌⊎◌, refl, sym, ap, ap₂, subst, ◌∙◌, arith}
use Rattle.std.proofs.lemmas.Int.{ints}
use Rattle.std.specs.declared.cmp.Ordering.{Ordering}
use Rattle.std.specs.declared.cmp.Ordering.TheVariants.{Less, Equal, Greater}
use Rattle.qc_freemove.specs.declared.hold.Hold.{Hold}
use Rattle.qc_freemove.specs.FreeSweep.{IsSteady, IsUnpassed, held, highest}
use Rattle.qc_freemove.proofs.Tops.{IsTaken, highest_first, highest_le, highest_most, taken}
use Rattle.qc_freemove.proofs.Tops.IsTaken.{by_floor, by_hold}
use Rattle.qc_freemove.proofs.Ways.{GoesOn, IsCorner, IsLasting, corner_of, goes_on, held_step, keeps_up, same_step, stays_below, way_of}
use Rattle.qc_motion.specs.Sweep.{moved}

within_one : (a b c : ℤ) → a ≤ℤ (b +ℤ pos 1) → b ≤ℤ c → a ≤ℤ (c +ℤ pos 1)
within_one a b c h k = omega (arith, ints)

under : (a b c : ℤ) → (a -ℤ pos 1) ≤ℤ b → b ≤ℤ c → a ≤ℤ (c +ℤ pos 1)
under a b c h k = omega (arith, ints)

through : (a b d : ℤ) → a ≤ℤ b → b ≤ℤ d → a ≤ℤ d
through a b d k l = omega (arith, ints)

equal : (a b : ℤ) → a ≤ℤ b → b ≤ℤ a → a ≡ b
equal a b k l = omega (arith, ints)

moved_none : (o : Ordering) (p q : ℤ) → q ≡ p → q ≡ moved o p 0
moved_none Less p q e = omega (arith, ints)
moved_none Equal p q e = e
moved_none Greater p q e = omega (arith, ints)

-- a, b, t: the places before, at and after a moment; u, v, w: those of a hold that gives b and is never above
falls_too : (a b t u v w : ℤ) → b ≡ v → u ≤ℤ a → w ≤ℤ t → (t -ℤ b) <ℤ (b -ℤ a) → (w -ℤ v) <ℤ (v -ℤ u)
falls_too a b t u v w e k l less = omega (arith, ints)

by_no_more : (a b t u v w : ℤ) → b ≡ v → u ≤ℤ a → w ≤ℤ t → (t -ℤ b) <ℤ (b -ℤ a) → (v -ℤ u) ≡ ((w -ℤ v) +ℤ pos 1)
    → (b -ℤ a) ≡ ((t -ℤ b) +ℤ pos 1)
by_no_more a b t u v w e k l less is = omega (arith, ints)

module _ (h : ℕ → Hold) (z : ℤ) (c : ℕ) where
  abbrev at : ℕ → ℤ
  at m = highest h z m c

  rise : (m : ℕ) → at (m + 1) ≤ℤ (at m +ℤ pos 1)
  rise m =
      let first = highest_first h z m c in
      highest_le h z (m + 1) c (at m +ℤ pos 1) (omega (arith, ints, first))
      (λ i low. within_one _ _ (at m) (held_step (h i) m).1 (highest_most h z m c i low))

  fall : (m : ℕ) → at m ≤ℤ (at (m + 1) +ℤ pos 1)
  fall m =
      let first = highest_first h z (m + 1) c in
      highest_le h z m c (at (m + 1) +ℤ pos 1) (omega (arith, ints, first))
      (λ i low. under _ _ (at (m + 1)) (held_step (h i) m).0 (highest_most h z (m + 1) c i low))

  -- its step is at most one a half tick
  pub speed : (m : ℕ) → ((at m -ℤ pos 1) ≤ℤ at (m + 1)) × (at (m + 1) ≤ℤ (at m +ℤ pos 1))
  speed m = let f = fall m in (omega (arith, ints, f), rise m)

  module _ (lasts : (i : ℕ) → i < c → IsLasting (h i)) where
    -- ---- where nothing starts, ends or comes past

    module _ (m e : ℕ) (far : m < e) (floor : IsUnpassed m (at m) (at (m + 1)) z z e)
        (steady : (i : ℕ) → i < c → IsSteady (h i) m (at m) (at (m + 1)) e) where
      way : (o : Ordering) × (at (m + 1) ≡ moved o (at m) 1)
      way = let s = speed m in way_of (at m) (at (m + 1)) s.0 s.1

      going : (i : ℕ) → i < c → GoesOn (h i) m e
      going i low = goes_on (h i) m e (lasts i low).order (steady i low).from (steady i low).until

      upper : (x : ℕ) → m + x ≤ e → at (m + x) ≤ℤ moved way.0 (at m) x
      upper x till = highest_le h z (m + x) c (moved way.0 (at m) x)
          (stays_below way.0 Equal (at m) (at (m + 1)) z z m e x way.1 refl (highest_first h z m c) floor till)
          (λ i low.
          let g = going i low in
          subst (λ (y : ℤ). y ≤ℤ moved way.0 (at m) x) (sym (g.along x till))
          (stays_below way.0 g.way (at m) (at (m + 1)) (held (h i) m) (held (h i) (m + 1)) m e x way.1
          (g.along 1 (omega arith)) (highest_most h z m c i low) (steady i low).below till))

      lower : (x : ℕ) → m + (x + 1) ≤ e → moved way.0 (at m) (x + 1) ≤ℤ at (m + (x + 1))
      lower x till = by (taken h z (m + 1) c)
        where
          by : IsTaken h z (m + 1) c → moved way.0 (at m) (x + 1) ≤ℤ at (m + (x + 1))
          by (by_floor f) =
              let first = highest_first h z (m + (x + 1)) c in
              let up =
              keeps_up way.0 Equal (at m) (at (m + 1)) z x way.1 f (highest_first h z m c) in
              omega (arith, ints, first, up)
          by (by_hold i low f) =
              let g = going i low in
              let most = highest_most h z (m + (x + 1)) c i low in
              let along = g.along (x + 1) till in
              let up =
              keeps_up way.0 g.way (at m) (at (m + 1)) (held (h i) m) x way.1 (f ∙ g.along 1 (omega arith))
              (highest_most h z m c i low) in
              through (moved way.0 (at m) (x + 1)) (moved g.way (held (h i) m) (x + 1)) (at (m + (x + 1))) up
              (subst (λ (y : ℤ). y ≤ℤ at (m + (x + 1))) along most)

      there : (x : ℕ) → m + x ≤ e → at (m + x) ≡ moved way.0 (at m) x
      there zero till =
          let same : m + 0 ≡ m = omega arith in moved_none way.0 (at m) (at (m + 0)) (ap at same)
      there (suc x) till =
          let next : x + 1 ≡ suc x = omega arith in
          subst (λ (y : ℕ). at (m + y) ≡ moved way.0 (at m) y) next
          (equal (at (m + (x + 1))) (moved way.0 (at m) (x + 1)) (upper (x + 1) (omega arith))
          (lower x (omega arith)))

      pub steps : (x : ℕ) → m ≤ x → x < e → (at (x + 1) -ℤ at x) ≡ (at (m + 1) -ℤ at m)
      steps x low high =
          let y : ℕ = x - m in
          let here : m + y ≡ x = omega arith in
          let next : m + (y + 1) ≡ x + 1 = omega arith in
          let one = subst (λ (n : ℕ). at n ≡ moved way.0 (at m) y) here (there y (omega arith)) in
          let two = subst (λ (n : ℕ). at n ≡ moved way.0 (at m) (y + 1)) next (there (y + 1) (omega arith)) in
          ap₂ (λ a b. a -ℤ b) two one ∙ same_step way.0 (at m) y ∙ ap (λ a. a -ℤ at m) (sym way.1)

    -- ---- where a step falls

    -- a step falls by one, just as a hold starts or ends
    pub record IsDrop (m : ℕ) : Type 0 where
      pub by_one : (at m -ℤ at (m - 1)) ≡ ((at (m + 1) -ℤ at m) +ℤ pos 1)
      pub hold : ℕ
      pub range : hold < c
      pub corner : ((h hold).from ≡ m) ⊎ ((h hold).until ≡ m)

    pub drop_of : (m : ℕ) → 0 < m → (at (m + 1) -ℤ at m) <ℤ (at m -ℤ at (m - 1)) → IsDrop m
    drop_of m some falls = by (taken h z m c)
      where
        by : IsTaken h z m c → IsDrop m
        by (by_floor f) =
            let before = highest_first h z (m - 1) c in
            let after = highest_first h z (m + 1) c in
            absurd (omega (arith, ints, f, before, after, falls))
        by (by_hold i low f) =
            let before = highest_most h z (m - 1) c i low in
            let after = highest_most h z (m + 1) c i low in
            let k : IsCorner (h i) m (held (h i) m -ℤ held (h i) (m - 1)) (held (h i) (m + 1) -ℤ held (h i) m) =
            corner_of (h i) m (lasts i low) some (falls_too _ _ _ _ _ _ f before after falls) in
            record {
              by_one = by_no_more _ _ _ _ _ _ f before after falls k.by_one;
              hold = i;
              range = low;
              corner = k.corner;
            }
