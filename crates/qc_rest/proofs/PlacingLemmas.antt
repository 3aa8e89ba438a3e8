-- Places found crane by crane.
use Rattle.std.proofs.Common.{◌≡◌, ◌≢◌, ℕ, ◌+◌, ◌-◌, ◌*◌, ◌<◌, ◌≤◌, ◌↔◌, ℤ, pos, negsuc, ◌+ℤ◌, ◌-ℤ◌, ◌≤ℤ◌, ◌⊎◌, inl, inr, List, length, Option, None, Some, IfSome, slice_set, refl, ap, sym, subst, ◌∙◌, arith}
use Rattle.std.proofs.lemmas.Bool.{cases_eq}
use Rattle.std.proofs.lemmas.Grind.{get_or-set_at}
use Rattle.std.proofs.lemmas.List.{get_or-set_other, length-set}
use Rattle.std.proofs.Math.Nat.{div-le_self, mul-le-mul_left}
use Rattle.qc_dispatch.specs.Course.{past_moments}
use Rattle.qc_model.specs.Instance.{IsOnRail, Valid, bay_of}
use Rattle.qc_model.proofs.Bays.{bays}
use Rattle.qc_model.proofs.LimitsOf.{limits_of}
use Rattle.qc_rest.specs.declared.places.Outlook as code
use Rattle.qc_rest.specs.Limits.{AreTops, HasOwnRoom, IsLower, IsOff, IsPlace, IsPlaced, IsReady, IsUpper, place_at, view_of}
use Rattle.qc_rest.specs.Places.{ArePlaces, IsHighEnough, IsNextOf, IsTop, LeavesRoom, Outlook, far_of, off_of}
use Rattle.qc_rest.specs.Stands.{stand_of}

through : (x y z : ℤ) → x ≤ℤ y → y ≤ℤ z → x ≤ℤ z
through x y z one other = omega (arith, bays)

itself : (x : ℤ) → x ≤ℤ x
itself x = omega (arith, bays)

-- ---- what its stand and its tasks ask of a crane's place, one task after the other

module _ (o : Outlook) (k : ℕ) (stand : ℤ → Type 0) (near : (j off : ℕ) → ℤ → Type 0) where
  -- a place is as the stand and the first n tasks ask
  pub record IsAsked (n : ℕ) (z : ℤ) : Type 0 where
    pub first : stand z
    pub tasks : (j : ℕ) → j < n → IsNextOf o k j → near j (off_of o j) z

  front : (n : ℕ) (z : ℤ) → IsAsked (n + 1) z → IsAsked n z
  front n z is = record { first = is.first; tasks = λ j low. is.tasks j (omega arith) }

  longer : (n : ℕ) (z : ℤ) → IsAsked n z → (IsNextOf o k n → near n (off_of o n) z) → IsAsked (n + 1) z
  longer n z is last = record {
    first = is.first;
    tasks = λ j low next. elim (cases_eq j n) [
      | inl same ↦ subst (λ (i : ℕ). near i (off_of o i) z) (sym same) (last (subst (IsNextOf o k) same next))
      | inr other ↦ is.tasks j (omega arith) next
    ];
  }

  -- exactly the places that pass are so
  abbrev pub AreAsked : ℕ → (ℤ → Type 0) → Type 0
  AreAsked n passes = (z : ℤ) → passes z ↔ IsAsked n z

  asked_first : (passes : ℤ → Type 0) → ((z : ℤ) → passes z ↔ stand z) → AreAsked 0 passes
  asked_first passes is z = (λ pass. record { first = (is z).0 pass; tasks = λ j low. absurd (omega arith) }, λ asked. (is z).1 asked.first)

  asked_more : (n : ℕ) (passes after : ℤ → Type 0) (off : Option ℕ) → IsOff o k n off
      → ((z : ℤ) → after z ↔ (passes z × IfSome off (λ m. near n m z))) → AreAsked n passes → AreAsked (n + 1) after
  asked_more n passes after None not both are z = (
    λ pass. longer n z ((are z).0 ((both z).0 pass).0) (λ next. absurd (not next)),
    λ asked. (both z).1 ((are z).1 (front n z asked), tt),
  )
  asked_more n passes after (Some m) off both are z = (
    λ pass. longer n z ((are z).0 ((both z).0 pass).0) (λ next. subst (λ (i : ℕ). near n i z) off.1 ((both z).0 pass).1),
    λ asked. (both z).1 ((are z).1 (front n z asked), subst (λ (i : ℕ). near n i z) (sym off.1) (asked.tasks n (omega arith) off.0)),
  )

  asked_all : (n : ℕ) (passes : ℤ → Type 0) → length o.course.inst.tasks ≤ n → AreAsked n passes
      → (z : ℤ) → passes z ↔ (stand z × ((j : ℕ) → IsNextOf o k j → near j (off_of o j) z))
  asked_all n passes all are z = (
    λ pass. let asked : IsAsked n z = (are z).0 pass in (asked.first, λ j next. asked.tasks j (omega (arith, all, next.left.task)) next),
    λ asked. (are z).1 (record { first = asked.0; tasks = λ j low. asked.1 j }),
  )

-- ---- the highest place of one crane

module _ (o : Outlook) (w : ℕ) where
  abbrev IsReached : ℤ → Type 0
  IsReached z = z ≤ℤ ((stand_of o.stands w).bay +ℤ pos (far_of o w))

  abbrev IsUnder : (j off : ℕ) → ℤ → Type 0
  IsUnder j off z = z ≤ℤ (bay_of o.course.inst j +ℤ pos off)

  -- the same for the first n tasks
  abbrev pub IsUpperFor : ℕ → ℤ → Type 0
  IsUpperFor n upper = AreAsked o w IsReached IsUnder n (λ z. z ≤ℤ upper)

  pub upper_first : (upper : ℤ) → upper ≡ (stand_of o.stands w).bay +ℤ pos (far_of o w) → IsUpperFor 0 upper
  upper_first upper e = asked_first o w IsReached IsUnder (λ z. z ≤ℤ upper)
      (λ z. (λ le. subst (λ (y : ℤ). z ≤ℤ y) e le, λ le. subst (λ (y : ℤ). z ≤ℤ y) (sym e) le))

  pub upper_more : (n : ℕ) (upper after : ℤ) (off : Option ℕ) → IsOff o w n off
      → ((z : ℤ) → (z ≤ℤ after) ↔ ((z ≤ℤ upper) × IfSome off (λ k. z ≤ℤ (bay_of o.course.inst n +ℤ pos k)))) → IsUpperFor n upper → IsUpperFor (n + 1) after
  upper_more n upper after off is both = asked_more o w IsReached IsUnder n (λ z. z ≤ℤ upper) (λ z. z ≤ℤ after) off is both

  pub upper_all : (n : ℕ) (upper : ℤ) → length o.course.inst.tasks ≤ n → IsUpperFor n upper → IsUpper o w upper
  upper_all n upper all is z =
      let asked = asked_all o w IsReached IsUnder n (λ z. z ≤ℤ upper) all is z in (
        λ le. record { stand = (asked.0 le).0; tasks = (asked.0 le).1 },
        λ room. asked.1 (room.stand, room.tasks),
      )

-- ---- the lowest place of one crane

module _ (o : Outlook) (tops : ℕ → ℤ) (k : ℕ) where
  abbrev IsHeld : ℤ → Type 0
  IsHeld z = ((stand_of o.stands k).bay ≤ℤ z) ⊎ (tops k ≤ℤ z)

  abbrev IsOver : (j off : ℕ) → ℤ → Type 0
  IsOver j off z = bay_of o.course.inst j ≤ℤ (z +ℤ pos off)

  abbrev pub IsLowerFor : ℕ → ℤ → Type 0
  IsLowerFor n lower = AreAsked o k IsHeld IsOver n (λ z. lower ≤ℤ z)

  pub lower_first : (lower : ℤ) → ((z : ℤ) → (lower ≤ℤ z) ↔ (((stand_of o.stands k).bay ≤ℤ z) ⊎ (tops k ≤ℤ z))) → IsLowerFor 0 lower
  lower_first lower under = asked_first o k IsHeld IsOver (λ z. lower ≤ℤ z) under

  pub lower_more : (n : ℕ) (lower after : ℤ) (off : Option ℕ) → IsOff o k n off
      → ((z : ℤ) → (after ≤ℤ z) ↔ ((lower ≤ℤ z) × IfSome off (λ m. bay_of o.course.inst n ≤ℤ (z +ℤ pos m)))) → IsLowerFor n lower → IsLowerFor (n + 1) after
  lower_more n lower after off is both = asked_more o k IsHeld IsOver n (λ z. lower ≤ℤ z) (λ z. after ≤ℤ z) off is both

  pub lower_all : (n : ℕ) (lower : ℤ) → length o.course.inst.tasks ≤ n → IsLowerFor n lower → IsLower o tops k lower
  lower_all n lower all is z =
      let asked = asked_all o k IsHeld IsOver n (λ z. lower ≤ℤ z) all is z in (
        λ le. record { stand = (asked.0 le).0; tasks = (asked.0 le).1 },
        λ room. asked.1 (room.stand, room.tasks),
      )

-- ---- tops

no_gap : (g k : ℕ) (z y : ℤ) → z ≤ℤ y → (z +ℤ pos (g * (k - k))) ≤ℤ y
no_gap g k z y le =
    let none : k - k ≡ 0 = omega arith in
    let e : g * (k - k) ≡ 0 = ap (λ (n : ℕ). g * n) none ∙ omega arith in
    omega (arith, bays, e)

self_gap : (g k : ℕ) (z y : ℤ) → (z +ℤ pos (g * (k - k))) ≤ℤ y → z ≤ℤ y
self_gap g k z y le =
    let none : k - k ≡ 0 = omega arith in
    let e : g * (k - k) ≡ 0 = ap (λ (n : ℕ). g * n) none ∙ omega arith in
    omega (arith, bays, e)

one_gap : (g k w : ℕ) → k + 1 ≤ w → g * (w - k) ≡ g + g * (w - (k + 1))
one_gap g k w order =
    let e : w - k ≡ 1 + (w - (k + 1)) = omega arith in
    ap (λ (n : ℕ). g * n) e ∙ omega arith

moved_up : (g h n : ℕ) (x y : ℤ) → n ≡ g + h → (x +ℤ pos n) ≤ℤ y → ((x +ℤ pos g) +ℤ pos h) ≤ℤ y
moved_up g h n x y e low = omega (arith, bays)

moved_down : (g h n : ℕ) (x y : ℤ) → n ≡ g + h → ((x +ℤ pos g) +ℤ pos h) ≤ℤ y → (x +ℤ pos n) ≤ℤ y
moved_down g h n x y e low = omega (arith, bays)

forth : (x y : ℤ) (g : ℕ) → x ≤ℤ (y -ℤ pos g) → (x +ℤ pos g) ≤ℤ y
forth x y g le = omega (arith, bays)

back : (x y : ℤ) (g : ℕ) → (x +ℤ pos g) ≤ℤ y → x ≤ℤ (y -ℤ pos g)
back x y g le = omega (arith, bays)

module _ (o : Outlook) where
  leaves_own : (k : ℕ) (z : ℤ) → HasOwnRoom o k z → LeavesRoom o k k z
  leaves_own k z room = record {
    stand = no_gap o.course.inst.gap k z _ room.stand;
    tasks = λ j next. no_gap o.course.inst.gap k z _ (room.tasks j next);
  }

  own_left : (k : ℕ) (z : ℤ) → LeavesRoom o k k z → HasOwnRoom o k z
  own_left k z leaves = record {
    stand = self_gap o.course.inst.gap k z _ leaves.stand;
    tasks = λ j next. self_gap o.course.inst.gap k z _ (leaves.tasks j next);
  }

  leaves_next : (k w : ℕ) (z : ℤ) → k + 1 ≤ w → LeavesRoom o (k + 1) w (z +ℤ pos o.course.inst.gap) → LeavesRoom o k w z
  leaves_next k w z order leaves =
      let e = one_gap o.course.inst.gap k w order in record {
        stand = moved_down o.course.inst.gap (o.course.inst.gap * (w - (k + 1))) (o.course.inst.gap * (w - k)) z _ e leaves.stand;
        tasks = λ j next. moved_down o.course.inst.gap (o.course.inst.gap * (w - (k + 1))) (o.course.inst.gap * (w - k)) z _ e (leaves.tasks j next);
      }

  next_left : (k w : ℕ) (z : ℤ) → k + 1 ≤ w → LeavesRoom o k w z → LeavesRoom o (k + 1) w (z +ℤ pos o.course.inst.gap)
  next_left k w z order leaves =
      let e = one_gap o.course.inst.gap k w order in record {
        stand = moved_up o.course.inst.gap (o.course.inst.gap * (w - (k + 1))) (o.course.inst.gap * (w - k)) z _ e leaves.stand;
        tasks = λ j next. moved_up o.course.inst.gap (o.course.inst.gap * (w - (k + 1))) (o.course.inst.gap * (w - k)) z _ e (leaves.tasks j next);
      }

  pub top_last : (k : ℕ) (own : ℤ) → k + 1 ≡ length o.course.inst.cranes → IsUpper o k own → IsTop o k own
  top_last k own last is z = (
    λ le w order high.
        let same : k ≡ w = omega (arith, order, high, last) in
        subst (λ (v : ℕ). LeavesRoom o k v z) same (leaves_own k z ((is z).0 le)),
    λ all. (is z).1 (own_left k z (all k (omega arith) (omega (arith, last)))),
  )

  pub top_next : (k : ℕ) (own above top : ℤ) → k + 1 < length o.course.inst.cranes → IsUpper o k own → IsTop o (k + 1) above
      → ((z : ℤ) → (z ≤ℤ top) ↔ ((z ≤ℤ own) × (z ≤ℤ (above -ℤ pos o.course.inst.gap)))) → IsTop o k top
  top_next k own above top more is next both z = (
    λ le w order high.
        let parts = (both z).0 le in
        elim (cases_eq k w) [
          | inl same ↦ subst (λ (v : ℕ). LeavesRoom o k v z) same (leaves_own k z ((is z).0 parts.0))
          | inr other ↦ leaves_next k w z (omega arith)
              ((next (z +ℤ pos o.course.inst.gap)).0 (forth z above o.course.inst.gap parts.1) w (omega arith) high)
        ],
    λ all. (both z).1 (
      (is z).1 (own_left k z (all k (omega arith) (omega (arith, more)))),
      back z above o.course.inst.gap ((next (z +ℤ pos o.course.inst.gap)).1 (λ w order high.
          next_left k w z order (all w (omega (arith, order)) high))),
    ),
  )

  -- a top is no higher than its own crane can be by now, and where stands are on the rail none is far below it
  pub top_high : (k : ℕ) (top : ℤ) → k < length o.course.inst.cranes → IsTop o k top → top ≤ℤ ((stand_of o.stands k).bay +ℤ pos (far_of o k))
  top_high k top low is = (own_left k top ((is top).0 (itself top) k (omega arith) low)).stand

  deep : (z x : ℤ) (n m : ℕ) → n ≤ 16000 → z ≤ℤ negsuc 39999 → negsuc 16999 ≤ℤ x → (z +ℤ pos n) ≤ℤ (x +ℤ pos m)
  deep z x n m few low rail = omega (arith, bays)

  few_gaps : (g n : ℕ) → g ≤ 2000 → n ≤ 8 → g * n ≤ 16000
  few_gaps g n small few = omega (arith, mul-le-mul_left g few)

  on_deck : (x : ℤ) → pos 1 ≤ℤ x → negsuc 16999 ≤ℤ x
  on_deck x le = omega (arith, bays)

  pub top_low : Valid o.course.inst → ((k : ℕ) → IsOnRail (stand_of o.stands k).bay) → (k : ℕ) (top : ℤ) → k < length o.course.inst.cranes → IsTop o k top
      → negsuc 39999 ≤ℤ top
  top_low valid rail k top low is = (is (negsuc 39999)).1 (λ w order high.
      let limits = limits_of o.course.inst valid in
      let few = few_gaps o.course.inst.gap (w - k) limits.gap.1 (omega (arith, high, limits.cranes)) in record {
        stand = deep (negsuc 39999) (stand_of o.stands w).bay (o.course.inst.gap * (w - k)) (far_of o w) few (itself (negsuc 39999)) (rail w).0;
        tasks = λ j next. deep (negsuc 39999) (bay_of o.course.inst j) (o.course.inst.gap * (w - k)) (off_of o j) few (itself (negsuc 39999))
            (on_deck (bay_of o.course.inst j) (valid.tasks.bays j next.left.task).0);
      })

  far_soon : (k : ℕ) → o.course.clock < past_moments → far_of o k ≤ past_moments
  far_soon k early = omega (arith, early, div-le_self (o.course.clock - (stand_of o.stands k).until) o.course.inst.travel)

  not_far : (x y : ℤ) (n : ℕ) → x ≤ℤ (y +ℤ pos n) → y ≤ℤ pos 17000 → n ≤ past_moments → x ≤ℤ pos 2000000000000000
  not_far x y n le rail soon = omega (arith, bays)

  -- ---- one top more, from the last crane down

  pub no_tops : (tops : List ℤ) → length tops ≡ 8 → AreTops o (length o.course.inst.cranes) tops
  no_tops tops count = record { count = count; each_one = λ k from low. absurd (omega arith) }

  pub more_tops : (from k : ℕ) (tops : List ℤ) (top : ℤ) → k + 1 ≡ from → from ≤ 8 → AreTops o from tops → IsTop o k top → AreTops o k (slice_set tops k top)
  more_tops from k tops top next few are is = record {
    count = length-set tops k top ∙ are.count;
    each_one = λ v order low. elim (cases_eq v k) [
      | inl same ↦
          let at : place_at (slice_set tops k top) v ≡ top = get_or-set_at tops k v top (pos 0) same (omega (arith, next, few, are.count)) in
          subst (IsTop o v) (sym at) (subst (λ (u : ℕ). IsTop o u top) (sym same) is)
      | inr other ↦
          let at : place_at (slice_set tops k top) v ≡ place_at tops v = get_or-set_other tops k v top (pos 0) other in
          subst (IsTop o v) (sym at) (are.each_one v (omega arith) low)
    ];
  }

  -- ---- places

  -- the places of the first n cranes
  pub record ArePlacesFor (tops : ℕ → ℤ) (n : ℕ) (places : List ℤ) : Type 0 where
    pub count : length places ≡ 8
    pub each_one : (k : ℕ) → k < n → IsPlaced o tops (place_at places) k (place_at places k)

  pub no_places : (tops : ℕ → ℤ) (places : List ℤ) → length places ≡ 8 → ArePlacesFor tops 0 places
  no_places tops places count = record { count = count; each_one = λ k low. absurd (omega arith) }

  high_same : (tops one other : ℕ → ℤ) (k : ℕ) (z : ℤ) → ((v : ℕ) → v < k → one v ≡ other v) → IsHighEnough o tops one k z → IsHighEnough o tops other k z
  high_same tops one other k z same is = record {
    stand = is.stand;
    tasks = is.tasks;
    next = λ v e. subst (λ (x : ℤ). (x +ℤ pos o.course.inst.gap) ≤ℤ z) (same v (omega (arith, e))) (is.next v e);
  }

  placed_same : (tops one other : ℕ → ℤ) (k : ℕ) (x y : ℤ) → ((v : ℕ) → v < k → one v ≡ other v) → x ≡ y → IsPlaced o tops one k x → IsPlaced o tops other k y
  placed_same tops one other k x y same e is = record {
    lowest = λ z. (
      λ le. high_same tops one other k z same ((is.lowest z).0 (subst (λ (w : ℤ). w ≤ℤ z) (sym e) le)),
      λ high. subst (λ (w : ℤ). w ≤ℤ z) e ((is.lowest z).1 (high_same tops other one k z (λ v less. sym (same v less)) high)),
    );
    near = subst (IsPlace k) e is.near;
  }

  pub more_places : (tops : ℕ → ℤ) (n : ℕ) (places : List ℤ) (x : ℤ) → n < 8 → ArePlacesFor tops n places → IsPlaced o tops (place_at places) n x
      → ArePlacesFor tops (n + 1) (slice_set places n x)
  more_places tops n places x few are is = let after = place_at (slice_set places n x) in record {
    count = length-set places n x ∙ are.count;
    each_one = λ k low. elim (cases_eq k n) [
      | inl same ↦ subst (λ (u : ℕ). IsPlaced o tops after u (after u)) (sym same)
          (placed_same tops (place_at places) after n x (after n) (λ v less. sym (others v (omega arith))) (sym here) is)
      | inr other ↦ placed_same tops (place_at places) after k (place_at places k) (after k) (λ v less. sym (others v (omega arith))) (sym (others k (omega arith)))
          (are.each_one k (omega arith))
    ];
  }
    where
      here : place_at (slice_set places n x) n ≡ x
      here = get_or-set_at places n n x (pos 0) refl (omega (arith, few, are.count))

      others : (v : ℕ) → v ≢ n → place_at (slice_set places n x) v ≡ place_at places v
      others v differ = get_or-set_other places n v x (pos 0) differ

  pub all_places : (n : ℕ) (tops places : List ℤ) → length o.course.inst.cranes ≤ n → AreTops o 0 tops → ArePlacesFor (place_at tops) n places
      → ArePlaces o (place_at tops) (place_at places)
  all_places n tops places all are_tops are = record {
    highest = λ k low. are_tops.each_one k (omega arith) low;
    each_one = λ k low. (are.each_one k (omega arith)).lowest;
  }

  -- ---- one place

  on_rail : (x : ℤ) (n m : ℕ) → x ≤ℤ pos n → n ≤ 6000 → x ≤ℤ (pos 17000 +ℤ pos m)
  on_rail x n m le few = omega (arith, bays)

  -- it is near where stands are on the rail
  pub lower_near : (tops : ℕ → ℤ) (k : ℕ) (own : ℤ) → Valid o.course.inst → IsOnRail (stand_of o.stands k).bay → negsuc 39999 ≤ℤ tops k
      → IsLower o tops k own → IsPlace 0 own
  lower_near tops k own valid rail deep is = record {
    low = elim ((is own).0 (itself own)).stand [ inl le ↦ omega (arith, bays, le, rail.0) | inr le ↦ omega (arith, bays, le, deep) ];
    high = (is (pos 17000)).1 (record {
      stand = inl rail.1;
      tasks = λ j next. on_rail (bay_of o.course.inst j) o.course.inst.bays (off_of o j) (valid.tasks.bays j next.left.task).1 (limits_of o.course.inst valid).bays.1;
    });
  }

  pub placed_first : (tops places : ℕ → ℤ) (k : ℕ) (own : ℤ) → IsLower o tops k own → IsPlace 0 own → k ≡ 0 → IsPlaced o tops places k own
  placed_first tops places k own is near first = record {
    lowest = λ z. (
      λ le. let room = (is z).0 le in record { stand = room.stand; tasks = room.tasks; next = λ v e. absurd (omega (arith, first, e)) },
      λ high. (is z).1 (record { stand = high.stand; tasks = high.tasks }),
    );
    near = subst (λ (n : ℕ). IsPlace n own) (sym first) near;
  }

  further : (own below : ℤ) (v g : ℕ) → g ≤ 2000 → own ≤ℤ pos 17000 → below ≤ℤ pos (17000 + 2000 * v)
      → (own ≤ℤ pos (17000 + 2000 * (v + 1))) × ((below +ℤ pos g) ≤ℤ pos (17000 + 2000 * (v + 1)))
  further own below v g small high near = (omega (arith, bays), omega (arith, bays))

  pub placed_next : (tops places : ℕ → ℤ) (v k : ℕ) (own after : ℤ) → Valid o.course.inst → IsLower o tops k own → IsPlace 0 own → v + 1 ≡ k → IsPlace v (places v)
      → ((z : ℤ) → (after ≤ℤ z) ↔ ((own ≤ℤ z) × ((places v +ℤ pos o.course.inst.gap) ≤ℤ z))) → IsPlaced o tops places k after
  placed_next tops places v k own after valid is near next below both = record {
    lowest = λ z. (
      λ le.
          let parts = (both z).0 le in
          let room = (is z).0 parts.0 in record {
            stand = room.stand;
            tasks = room.tasks;
            next = λ u e.
                let same : v ≡ u = omega (arith, next, e) in
                subst (λ (w : ℕ). (places w +ℤ pos o.course.inst.gap) ≤ℤ z) same parts.1;
          },
      λ high. (both z).1 ((is z).1 (record { stand = high.stand; tasks = high.tasks }), high.next v next),
    );
    near = subst (λ (n : ℕ). IsPlace n after) next (record {
      low = through (negsuc 99999) own after near.low ((both after).0 (itself after)).0;
      high = (both (pos (17000 + 2000 * (v + 1)))).1 (further own (places v) v o.course.inst.gap (limits_of o.course.inst valid).gap.1 near.high below.high);
    });
  }

-- a top fits into a number
pub top_range : {w : code.Outlook} {from : ℕ} {tops : List ℤ} → IsReady w → AreTops (view_of w) from tops → (k : ℕ) → from ≤ k
    → k < length w.journal.now.dispatch.inst.cranes → (negsuc 39999 ≤ℤ place_at tops k) × (place_at tops k ≤ℤ pos 2000000000000000)
top_range {w = w} {tops = tops} ready are k order low =
    let o = view_of w in
    let is : IsTop o k (place_at tops k) = are.each_one k order low in (
      top_low o ready.known.valid ready.limited.rail k _ low is,
      not_far o _ (stand_of o.stands k).bay (far_of o k) (top_high o k _ low is) (ready.limited.rail k).1 (far_soon o k ready.known.early),
    )
