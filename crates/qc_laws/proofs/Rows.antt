-- Tasks of which each two are clear of each other stand in a row, and take as long together as all of them and the way
-- through their places.
use Rattle.std.proofs.Common.{[], ◌≡◌, ℕ, zero, suc, ◌+◌, ◌*◌, ◌<◌, ◌≤◌, min, ◌⊎◌, inl, inr, Bool, true, List, ◌∷◌, filter, ℤ, refl, ap, sym, ◌∙◌, arith, mul-add, sum_by}
use Rattle.std.proofs.lemmas.Bool.{cond_both}
use Rattle.std.specs.List.{range_with_len}
use Rattle.std.proofs.lemmas.List.Sums.{sum_by-cons}
use Rattle.qc_model.specs.Bays.{bays_between}
use Rattle.qc_model.proofs.Bays.{bays}
use Rattle.qc_close.proofs.Members.{Among, filter_among, range_among}

module _ (start long : ℕ → ℕ) (gap : ℕ → ℕ → ℕ) where
  -- i ends so many ticks before j starts
  abbrev pub IsPast : ℕ → ℕ → Type 0
  IsPast i j = start i + long i + gap i j ≤ start j

  -- one of the two ends before the other starts
  abbrev pub AreClear : ℕ → ℕ → Type 0
  AreClear i j = IsPast i j ⊎ IsPast j i

  -- each two of them
  abbrev pub AllClear : List ℕ → Type 0
  AllClear [] = Unit {0}
  AllClear (i ∷ is) = ((j : ℕ) → Among is j → AreClear i j) × AllClear is

  -- of those that pass a test
  pub clear_from : (p : ℕ → Bool) (a n : ℕ)
      → ((i j : ℕ) → i < j → j < a + n → p i ≡ true → p j ≡ true → AreClear i j)
      → AllClear (filter p (range_with_len a n))
  clear_from p a zero h = tt
  clear_from p a (suc n) h =
      let rest = clear_from p (a + 1) n (λ i j less low. h i j less (omega arith)) in
      cond_both (p a) (a ∷ filter p (range_with_len (a + 1) n)) (filter p (range_with_len (a + 1) n)) AllClear
      (λ t. (
        λ j is.
            let r = filter_among p (range_with_len (a + 1) n) j is in
            let k = range_among j (a + 1) n r.0 in
            h a j (omega (arith, k.0)) (omega (arith, k.1)) t r.1,
        rest,
      ))
      (λ _. rest)

  -- the first starts no earlier than it may, and each other one after the one before it
  abbrev pub Row : (ℕ → ℕ) → List ℕ → Type 0
  Row from [] = Unit {0}
  Row from (j ∷ js) = (from j ≤ start j) × Row (λ k. start j + long j + gap j k) js

  -- the same tasks in a row
  pub record HasRow (from : ℕ → ℕ) (tasks : List ℕ) : Type 0 where
    pub order : List ℕ
    pub row : Row from order
    pub ticks : sum_by long order ≡ sum_by long tasks
    pub has : (j : ℕ) → Among tasks j → Among order j
    pub only : (j : ℕ) → Among order j → Among tasks j

  swapped : (i j k : ℕ) (ks : List ℕ) → Among (i ∷ j ∷ ks) k → Among (j ∷ i ∷ ks) k
  swapped i j k ks (inl e) = inr (inl e)
  swapped i j k ks (inr (inl e)) = inl e
  swapped i j k ks (inr (inr a)) = inr (inr a)

  kept : (j k : ℕ) (is js : List ℕ) → (Among is k → Among js k) → Among (j ∷ is) k → Among (j ∷ js) k
  kept j k is js h (inl e) = inl e
  kept j k is js h (inr a) = inr (h a)

  insert : (from : ℕ → ℕ) (i : ℕ) (js : List ℕ) → from i ≤ start i → ((j : ℕ) → Among js j → AreClear i j)
      → Row from js → HasRow from (i ∷ js)
  insert from i [] first clear row =
      record { order = i ∷ []; row = (first, tt); ticks = refl; has = λ j a. a; only = λ j a. a }
  insert from i (j ∷ js) first clear row = elim (clear j (inl refl)) [
    | inl past ↦
        record { order = i ∷ j ∷ js; row = (first, (past, row.1)); ticks = refl; has = λ k a. a; only = λ k a. a }
    | inr past ↦
        let rest = insert (λ k. start j + long j + gap j k) i js past (λ k a. clear k (inr a)) row.1 in
        record {
          order = j ∷ rest.order;
          row = (row.0, rest.row);
          ticks =
              let one = sum_by-cons long j rest.order in
              let two = sum_by-cons long i (j ∷ js) in
              let three = sum_by-cons long j js in
              let four = sum_by-cons long i js in
              omega (arith, one, two, three, four, rest.ticks);
          has = λ k a. kept j k (i ∷ js) rest.order (rest.has k) (swapped i j k js a);
          only = λ k a. swapped j i k js (kept j k rest.order (i ∷ js) (rest.only k) a);
        }
  ]

  pub row_of : (from : ℕ → ℕ) (tasks : List ℕ) → ((j : ℕ) → Among tasks j → from j ≤ start j) → AllClear tasks
      → HasRow from tasks
  row_of from [] first clear =
      record { order = []; row = tt; ticks = refl; has = λ j a. a; only = λ j a. a }
  row_of from (i ∷ is) first clear =
      let rest = row_of from is (λ j a. first j (inr a)) clear.1 in
      let more = insert from i rest.order (first i (inl refl)) (λ j a. clear.0 j (rest.only j a)) rest.row in
      record {
        order = more.order;
        row = more.row;
        ticks =
            let one = sum_by-cons long i rest.order in
            let two = sum_by-cons long i is in
            omega (arith, one, two, more.ticks, rest.ticks);
        has = λ j a. more.has j (kept i j is rest.order (rest.has j) a);
        only = λ j a. kept i j rest.order is (rest.only j) (more.only j a);
      }

-- ---- the way through their places

module _ (place : ℕ → ℤ) where
  -- the bays from x through the places of the tasks, one after the other
  abbrev pub way : ℤ → List ℕ → ℕ
  way x [] = 0
  way x (j ∷ js) = bays_between x (place j) + way (place j) js

  pub way_to : (x : ℤ) (js : List ℕ) (k : ℕ) → Among js k → bays_between x (place k) ≤ way x js
  way_to x [] k a = absurd a
  way_to x (j ∷ js) k (inl e) = omega (arith, ap (λ i. bays_between x (place i)) e)
  way_to x (j ∷ js) k (inr a) = omega (arith, bays, way_to (place j) js k a)

  -- it comes to both of two places
  pub way_between : (x : ℤ) (js : List ℕ) (i k : ℕ) → Among js i → Among js k
      → bays_between (place i) (place k) + min (bays_between x (place i)) (bays_between x (place k)) ≤ way x js
  way_between x [] i k a b = absurd a
  way_between x (j ∷ js) i k (inl e) (inl f) =
      let same : place i ≡ place k = ap place (sym e ∙ f) in
      let here : bays_between x (place j) ≡ bays_between x (place i) = ap (λ l. bays_between x (place l)) e in
      omega (arith, bays, same, here)
  way_between x (j ∷ js) i k (inl e) (inr b) =
      let far = way_to (place j) js k b in
      let here : place j ≡ place i = ap place e in
      omega (arith, bays, far, here)
  way_between x (j ∷ js) i k (inr a) (inl f) =
      let far = way_to (place j) js i a in
      let here : place j ≡ place k = ap place f in
      omega (arith, bays, far, here)
  way_between x (j ∷ js) i k (inr a) (inr b) =
      let far = way_between (place j) js i k a b in
      omega (arith, bays, far)

  module _ (start long : ℕ → ℕ) (travel to : ℕ) where
    -- the ticks between two tasks
    abbrev pub apart : ℕ → ℕ → ℕ
    apart i j = travel * bays_between (place i) (place j)

    -- tasks in a row that begin at x and all end by a tick have had the time for themselves and their way
    pub row_fits : (at : ℕ) (x : ℤ) (js : List ℕ) → at ≤ to
        → Row start long apart (λ k. at + travel * bays_between x (place k)) js
        → ((j : ℕ) → Among js j → start j + long j ≤ to)
        → at + sum_by long js + travel * way x js ≤ to
    row_fits at x [] soon row ends = omega arith
    row_fits at x (j ∷ js) soon row ends =
        let rest = row_fits (start j + long j) (place j) js (ends j (inl refl)) row.1 (λ k a. ends k (inr a)) in
        let parts = mul-add travel (bays_between x (place j)) (way (place j) js) in
        omega (arith, sum_by-cons long j js, parts, rest, row.0)

    -- each starts no earlier than the first of them could
    pub row_after : (at : ℕ) (x : ℤ) (js : List ℕ) → Row start long apart (λ k. at + travel * bays_between x (place k)) js
        → (k : ℕ) → Among js k → at ≤ start k
    row_after at x [] row k a = absurd a
    row_after at x (j ∷ js) row k (inl e) = omega (arith, row.0, ap start e)
    row_after at x (j ∷ js) row k (inr a) =
        let later = row_after (start j + long j) (place j) js row.1 k a in
        omega (arith, later, row.0)
