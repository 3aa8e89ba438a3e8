-- Two cranes that go evenly: what holds of them at two ticks holds at every moment between.
use Rattle.std.proofs.Common.{◌≡◌, ℕ, ◌+◌, ◌-◌, ◌*◌, ◌≤◌, ℤ, pos, negsuc, ◌+ℤ◌, ◌-ℤ◌, ◌*ℤ◌, ◌≤ℤ◌, refl, ap, ◌∙◌, mul-le-mul_left, arith}
use Rattle.std.proofs.lemmas.Int.{ints}
use borrow.Author.Differences.{up, down}
use Rattle.qc_model.proofs.Scaled.{scaled_le, scaled_sum}
use Rattle.qc_watch.specs.declared.place.Place.{Place}
use Rattle.qc_watch.specs.Breach.{IsAhead, reached, wanted}

-- a crane that is at a place at a tick and goes by a slope for each so many ticks
pub record Line : Type 0 where
  pub start : ℕ
  pub width : ℕ
  pub place : ℤ
  pub slope : ℤ

-- where it is at a moment
abbrev pub along : Line → ℕ → ℕ → Place
along l m d = record {
  above = (pos (d * l.width) *ℤ l.place) +ℤ (l.slope *ℤ pos (m - d * l.start));
  below = l.width;
}

-- its place at tick 0
abbrev base : Line → ℤ
base l = (pos l.width *ℤ l.place) -ℤ (l.slope *ℤ pos l.start)

-- products in products
pub times_in : (n m : ℕ) (z : ℤ) → (pos n *ℤ (pos m *ℤ z)) ≡ (pos (n * m) *ℤ z)
times_in n m z =
    let e : up (pos m *ℤ z) + m * down z ≡ down (pos m *ℤ z) + m * up z = omega (arith, ints) in
    omega (arith, ints, ap (λ k. n * k) e)

pub times_in_back : (n m : ℕ) (z : ℤ) → (pos n *ℤ (z *ℤ pos m)) ≡ (pos (n * m) *ℤ z)
times_in_back n m z =
    let e : up (z *ℤ pos m) + down z * m ≡ down (z *ℤ pos m) + up z * m = omega (arith, ints) in
    omega (arith, ints, ap (λ k. n * k) e)

straight : (d a w k : ℕ) (x s : ℤ) → ((pos (d * w) *ℤ x) +ℤ (s *ℤ pos k)) ≡ ((s *ℤ pos (d * a + k)) +ℤ (((pos w *ℤ x) -ℤ (s *ℤ pos a)) *ℤ pos d))
straight d a w k x s =
    let b : ℤ = (pos w *ℤ x) -ℤ (s *ℤ pos a) in
    let parts = scaled_sum d (pos w *ℤ x) b (s *ℤ pos a) (omega (arith, ints)) in
    omega (arith, ints, parts, times_in d w x, times_in_back d a s)

along_is : (l : Line) (m d : ℕ) → d * l.start ≤ m → (along l m d).above ≡ ((l.slope *ℤ pos m) +ℤ (base l *ℤ pos d))
along_is l m d h =
    let e : d * l.start + (m - d * l.start) ≡ m = omega arith in
    straight d l.start l.width (m - d * l.start) l.place l.slope ∙ ap (λ n. (l.slope *ℤ pos n) +ℤ (base l *ℤ pos d)) e

-- how far ahead of what is wanted the second crane is, as one number that goes evenly
abbrev rate : Line → Line → ℤ
rate l h = (h.slope *ℤ pos l.width) -ℤ (l.slope *ℤ pos h.width)

abbrev spare : ℕ → Line → Line → ℤ
spare bays l h = ((base h *ℤ pos l.width) -ℤ (base l *ℤ pos h.width)) -ℤ pos (bays * (l.width * h.width))

-- a number that goes evenly, so many times
often : (n m d : ℕ) (z s b : ℤ) → z ≡ ((s *ℤ pos m) +ℤ (b *ℤ pos d)) → (z *ℤ pos n) ≡ (((s *ℤ pos n) *ℤ pos m) +ℤ ((b *ℤ pos n) *ℤ pos d))
often n m d z s b e =
    let parts = scaled_sum n z (s *ℤ pos m) (b *ℤ pos d) e in
    omega (arith, ints, parts, times_in_back n m s, times_in_back n d b, times_in_back m n s, times_in_back d n b)

-- the difference of two that go evenly
apart : (m d k : ℕ) (x y s b r c : ℤ) → x ≡ ((r *ℤ pos m) +ℤ (c *ℤ pos d)) → y ≡ ((s *ℤ pos m) +ℤ (b *ℤ pos d))
    → (x -ℤ (y +ℤ pos (d * k))) ≡ (((r -ℤ s) *ℤ pos m) +ℤ (((c -ℤ b) -ℤ pos k) *ℤ pos d))
apart m d k x y s b r c e f =
    let slopes = scaled_sum m r (r -ℤ s) s (omega (arith, ints)) in
    let bases = scaled_sum d c ((c -ℤ b) -ℤ pos k) (b +ℤ pos k) (omega (arith, ints)) in
    let more = scaled_sum d (b +ℤ pos k) b (pos k) refl in
    omega (arith, ints, slopes, bases, more, e, f)

-- such a number isn't below 0 at a moment between two ticks at which it isn't
kept : (rate spare : ℤ) (low high m d : ℕ) → d * low ≤ m → m ≤ d * high
    → pos 0 ≤ℤ ((rate *ℤ pos low) +ℤ spare) → pos 0 ≤ℤ ((rate *ℤ pos high) +ℤ spare)
    → pos 0 ≤ℤ ((rate *ℤ pos m) +ℤ (spare *ℤ pos d))
kept (pos n) spare low high m d from to p q =
    let more = mul-le-mul_left n from in
    let scaled = scaled_le d (pos 0) ((pos n *ℤ pos low) +ℤ spare) p in
    let parts = scaled_sum d ((pos n *ℤ pos low) +ℤ spare) (pos n *ℤ pos low) spare refl in
    omega (arith, ints, more, scaled, parts)
kept (negsuc n) spare low high m d from to p q =
    let more = mul-le-mul_left (n + 1) to in
    let scaled = scaled_le d (pos 0) ((negsuc n *ℤ pos high) +ℤ spare) q in
    let parts = scaled_sum d ((negsuc n *ℤ pos high) +ℤ spare) (negsuc n *ℤ pos high) spare refl in
    omega (arith, ints, more, scaled, parts, times_in_back d high (negsuc n))

module _ (bays : ℕ) (l h : Line) where
  over : (m d : ℕ) → d * l.start ≤ m → d * h.start ≤ m
      → (reached (along l m d) (along h m d) -ℤ wanted d bays (along l m d) (along h m d)) ≡ ((rate l h *ℤ pos m) +ℤ (spare bays l h *ℤ pos d))
  over m d p q =
      let k = bays * (l.width * h.width) in
      let e : d * bays * (l.width * h.width) ≡ d * k = omega arith in
      let x = (along h m d).above *ℤ pos l.width in
      let y = (along l m d).above *ℤ pos h.width in
      ap (λ n. x -ℤ (y +ℤ pos n)) e
      ∙ apart m d k x y (l.slope *ℤ pos h.width) (base l *ℤ pos h.width) (h.slope *ℤ pos l.width) (base h *ℤ pos l.width)
      (often l.width m d (along h m d).above h.slope (base h) (along_is h m d q))
      (often h.width m d (along l m d).above l.slope (base l) (along_is l m d p))

  pub ahead_between : (low high m d : ℕ) → l.start ≤ low → h.start ≤ low → low ≤ high → d * low ≤ m → m ≤ d * high
      → IsAhead 1 bays (along l low 1) (along h low 1) → IsAhead 1 bays (along l high 1) (along h high 1)
      → IsAhead d bays (along l m d) (along h m d)
  ahead_between low high m d p q order from to first second =
      let at_low = over low 1 (omega arith) (omega arith) in
      let at_high = over high 1 (omega arith) (omega arith) in
      let lp = mul-le-mul_left d p in
      let lq = mul-le-mul_left d q in
      let here = over m d (omega arith) (omega arith) in
      let all = kept (rate l h) (spare bays l h) low high m d from to (omega (arith, ints, at_low, first)) (omega (arith, ints, at_high, second)) in
      omega (arith, ints, here, all)

-- ---- a place told with other numbers

-- the second fraction is the first, both its numbers so many times as great
pub record IsTimes (p q : Place) : Type 0 where
  pub times : ℕ
  pub above : q.above ≡ (pos times *ℤ p.above)
  pub below : q.below ≡ times * p.below

times_reached : (k l b : ℕ) (x : ℤ) → ((pos l *ℤ x) *ℤ pos (k * b)) ≡ (pos (k * l) *ℤ (x *ℤ pos b))
times_reached k l b x = omega (arith, ints, times_in (k * b) l x, times_in_back (k * l) b x)

times_wanted : (k l d bays b c : ℕ) (x : ℤ) → (((pos k *ℤ x) *ℤ pos (l * c)) +ℤ pos (d * bays * ((k * b) * (l * c)))) ≡ (pos (k * l) *ℤ ((x *ℤ pos c) +ℤ pos (d * bays * (b * c))))
times_wanted k l d bays b c x =
    let parts = scaled_sum (k * l) ((x *ℤ pos c) +ℤ pos (d * bays * (b * c))) (x *ℤ pos c) (pos (d * bays * (b * c))) refl in
    omega (arith, ints, times_in (l * c) k x, times_in_back (k * l) c x, parts)

pub ahead_times : (d bays : ℕ) (p q p' q' : Place) → IsTimes p p' → IsTimes q q' → IsAhead d bays p q → IsAhead d bays p' q'
ahead_times d bays p q p' q' s t h =
    let all = scaled_le (s.times * t.times) (wanted d bays p q) (reached p q) h in
    let r : reached p' q' ≡ (pos (s.times * t.times) *ℤ reached p q) = rw (s.below, t.above) (times_reached s.times t.times p.below q.above) in
    let w : wanted d bays p' q' ≡ (pos (s.times * t.times) *ℤ wanted d bays p q) = rw (s.below, s.above, t.below) (times_wanted s.times t.times d bays p.below q.below p.above) in
    rw (r, w) all
