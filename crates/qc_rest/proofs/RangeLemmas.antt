-- How far along the rail the cranes of the rest may begin: no further than there are tasks and start bays, with room for
-- the cranes between.
use Rattle.std.proofs.Common.{◌≡◌, ℕ, zero, suc, ◌+◌, ◌-◌, ◌*◌, ◌<◌, ◌≤◌, ℤ, pos, negsuc, ◌+ℤ◌, ◌-ℤ◌, ◌≤ℤ◌, inl, inr, List, length, ap, sym, subst, ◌∙◌, arith}
use Rattle.std.proofs.lemmas.List.FromFn.{length-map-range_with_len}
use Rattle.std.proofs.Math.Nat.{mul-le-mul_left}
use Rattle.qc_dispatch.specs.Course.{Course}
use Rattle.qc_dispatch.specs.Promises.{Keeps}
use Rattle.qc_model.specs.declared.crane.Crane.{Crane}
use Rattle.qc_model.specs.Instance.{HasBayLimits, HasBerths, HasPlaceLimits, InstanceView, IsFrom, IsOnRail, Valid, bay_of, crane, mirror_bay}
use Rattle.qc_model.proofs.Bays.{bays}
use Rattle.qc_rest.specs.declared.stand.Stand.{Stand}
use Rattle.qc_rest.specs.Places.{ArePlaces, Outlook, far_of, off_of}
use Rattle.qc_rest.specs.RestOf.{crane_in, rest_of}
use Rattle.qc_rest.specs.Stands.{AreStands, IsStand, stand_of}
use Rattle.qc_rest.specs.Fit.{IsBerth}
use Rattle.qc_rest.proofs.RestLemmas.{crane_is}

-- ---- places

through : (x y z : ℤ) → x ≤ℤ y → y ≤ℤ z → x ≤ℤ z
through x y z one other = omega (arith, bays)

and_more : (x y z : ℤ) (n : ℕ) → x ≤ℤ y → y ≤ℤ z → x ≤ℤ (z +ℤ pos n)
and_more x y z n one other = omega (arith, bays)

nought_more : (x y : ℤ) (g n : ℕ) → n ≡ 0 → x ≤ℤ y → (x +ℤ pos (g * n)) ≤ℤ y
nought_more x y g n none less =
    let e : g * n ≡ 0 = ap (λ (k : ℕ). g * k) none ∙ omega arith in
    omega (arith, bays, e)

one_more : (g n : ℕ) (x y z : ℤ) → (x +ℤ pos (g * n)) ≤ℤ y → (y +ℤ pos g) ≤ℤ z → (x +ℤ pos (g * suc n)) ≤ℤ z
one_more g n x y z one next = omega (arith, bays)

fewer_gaps : (g m n : ℕ) (x y : ℤ) → m ≤ n → (x +ℤ pos (g * n)) ≤ℤ y → (x +ℤ pos (g * m)) ≤ℤ y
fewer_gaps g m n x y few less =
    let e = mul-le-mul_left g few in
    omega (arith, bays, e)

moved : (x y z : ℤ) (n : ℕ) → x ≤ℤ y → (y +ℤ pos n) ≤ℤ z → (x +ℤ pos n) ≤ℤ z
moved x y z n one other = omega (arith, bays)

-- places that are the gap apart, one after the other, are as many gaps apart as there are steps
many_apart : (f : ℕ → ℤ) (g m v n : ℕ) → ((k : ℕ) → k + 1 < m → (f k +ℤ pos g) ≤ℤ f (k + 1)) → v + n < m
    → (f v +ℤ pos (g * n)) ≤ℤ f (v + n)
many_apart f g m v zero step low =
    let e : v ≡ v + 0 = omega arith in
    subst (λ (u : ℕ). (f v +ℤ pos (g * 0)) ≤ℤ f u) e (omega (arith, bays))
many_apart f g m v (suc n) step low =
    let e : v + n + 1 ≡ v + suc n = omega arith in
    subst (λ (u : ℕ). (f v +ℤ pos (g * suc n)) ≤ℤ f u) e
    (one_more g n (f v) (f (v + n)) (f (v + n + 1)) (many_apart f g m v n step (omega arith)) (step (v + n) (omega arith)))

module _ (o : Outlook) (valid : Valid o.course.inst) (stand : AreStands o.course o.over o.stands) (tops places : ℕ → ℤ)
    (are : ArePlaces o tops places) where
  abbrev inst : InstanceView
  inst = o.course.inst

  -- a crane stands at a task or at its start bay
  stands_above : (k : ℕ) → k < length inst.cranes → (low : ℤ) → low ≤ℤ pos 1 → low ≤ℤ (crane inst k).bay → low ≤ℤ (stand_of o.stands k).bay
  stands_above k inside low bow berth = by (stand k inside)
    where
      by : IsStand o.course o.over k (stand_of o.stands k) → low ≤ℤ (stand_of o.stands k).bay
      by (inl idle) = subst (λ (p : Stand). low ≤ℤ p.bay) (sym idle.1) berth
      by (inr last) =
          subst (λ (p : Stand). low ≤ℤ p.bay) (sym last.2) (through low (pos 1) (bay_of inst last.0) bow (valid.tasks.bays last.0 last.1.task).0)

  stands_below : (k : ℕ) → k < length inst.cranes → (high : ℤ) → pos inst.bays ≤ℤ high → (crane inst k).bay ≤ℤ high → (stand_of o.stands k).bay ≤ℤ high
  stands_below k inside high stern berth = by (stand k inside)
    where
      by : IsStand o.course o.over k (stand_of o.stands k) → (stand_of o.stands k).bay ≤ℤ high
      by (inl idle) = subst (λ (p : Stand). p.bay ≤ℤ high) (sym idle.1) berth
      by (inr last) =
          subst (λ (p : Stand). p.bay ≤ℤ high) (sym last.2) (through (bay_of inst last.0) (pos inst.bays) high (valid.tasks.bays last.0 last.1.task).1 stern)

  no_gaps : (x high : ℤ) (n : ℕ) → (x +ℤ pos n) ≤ℤ high → x ≤ℤ high
  no_gaps x high n less = omega (arith, bays)

  -- no crane stands higher than the last bay, its start bay and those below it ask for
  below_at : (k : ℕ) (high : ℤ) → k < length inst.cranes → (pos inst.bays +ℤ pos (inst.gap * k)) ≤ℤ high → (crane inst k).bay ≤ℤ high
      → ((v : ℕ) → v + 1 ≡ k → (places v +ℤ pos inst.gap) ≤ℤ high) → places k ≤ℤ high
  below_at k high inside stern berth next =
      let last = no_gaps (pos inst.bays) high (inst.gap * k) stern in
      (are.each_one k inside high).1 (record {
        stand = inl (stands_below k inside high last berth);
        tasks = λ j is. and_more (bay_of inst j) (pos inst.bays) high (off_of o j) (valid.tasks.bays j is.left.task).1 last;
        next = next;
      })

  back : (x high : ℤ) (n : ℕ) → (x +ℤ pos n) ≤ℤ high → x ≤ℤ (high -ℤ pos n)
  back x high n less = omega (arith, bays)

  forth : (x high : ℤ) (n : ℕ) → x ≤ℤ (high -ℤ pos n) → (x +ℤ pos n) ≤ℤ high
  forth x high n less = omega (arith, bays)

  one_back : (g v : ℕ) (x high : ℤ) → (x +ℤ pos (g * suc v)) ≤ℤ high → (x +ℤ pos (g * v)) ≤ℤ (high -ℤ pos g)
  one_back g v x high less = omega (arith, bays)

  -- each stands no higher than the last bay with room for those below it, or its start bay
  pub places_below : (k : ℕ) (high : ℤ) → k < length inst.cranes → (pos inst.bays +ℤ pos (inst.gap * k)) ≤ℤ high
      → (crane inst k).bay ≤ℤ high → places k ≤ℤ high
  places_below zero high inside stern berth = below_at zero high inside stern berth (λ v next. absurd (omega arith))
  places_below (suc k) high inside stern berth = below_at (suc k) high inside stern berth (λ v next.
      let e : k ≡ v = omega arith in
      let order : ((crane inst k).bay +ℤ pos inst.gap) ≤ℤ (crane inst (suc k)).bay =
      subst (λ (n : ℕ). ((crane inst k).bay +ℤ pos inst.gap) ≤ℤ (crane inst n).bay) (omega arith) (valid.cranes.order k (omega arith)) in
      subst (λ (u : ℕ). (places u +ℤ pos inst.gap) ≤ℤ high) e
      (forth (places k) high inst.gap
      (places_below k (high -ℤ pos inst.gap) (omega arith) (one_back inst.gap k (pos inst.bays) high stern)
      (back (crane inst k).bay high inst.gap (through _ (crane inst (suc k)).bay high order berth)))))

  berths_apart : (v w : ℕ) → v ≤ w → w < length inst.cranes → ((crane inst v).bay +ℤ pos (inst.gap * (w - v))) ≤ℤ (crane inst w).bay
  berths_apart v w order inside =
      let e : v + (w - v) ≡ w = omega arith in
      subst (λ (u : ℕ). ((crane inst v).bay +ℤ pos (inst.gap * (w - v))) ≤ℤ (crane inst u).bay) e
      (many_apart (λ k. (crane inst k).bay) inst.gap (length inst.cranes) v (w - v) valid.cranes.order (omega arith))

  -- and none lower than the first bay with room for those above it, or its start bay
  pub places_above : (k n : ℕ) (low : ℤ) → k + n < length inst.cranes → length inst.cranes ≤ k + n + 1 → (low +ℤ pos (inst.gap * n)) ≤ℤ pos 1
      → low ≤ℤ (crane inst k).bay → low ≤ℤ places k
  places_above k n low within all bow berth = elim ((are.each_one k inside (places k)).0 (at_itself (places k))).stand [
    | inl stays ↦ through low (stand_of o.stands k).bay (places k) (stands_above k inside low (no_gaps low (pos 1) (inst.gap * n) bow) berth) stays
    | inr top ↦ through low (tops k) (places k) leaves top
  ]
    where
      at_itself : (x : ℤ) → x ≤ℤ x
      at_itself x = omega (arith, bays)

      inside : k < length inst.cranes
      inside = omega arith

      leaves : low ≤ℤ tops k
      leaves = (are.highest k inside low).1 (λ w order high.
          let first = fewer_gaps inst.gap (w - k) n low (pos 1) (omega arith) bow in
          record {
            stand = and_more (low +ℤ pos (inst.gap * (w - k))) (stand_of o.stands w).bay (stand_of o.stands w).bay (far_of o w)
                (stands_above w high (low +ℤ pos (inst.gap * (w - k))) first
                (moved low (crane inst k).bay (crane inst w).bay (inst.gap * (w - k)) berth (berths_apart k w order high)))
                (at_itself (stand_of o.stands w).bay);
            tasks = λ j is. and_more (low +ℤ pos (inst.gap * (w - k))) (pos 1) (bay_of inst j) (off_of o j) first (valid.tasks.bays j is.left.task).0;
          })

-- ---- the limits of an instance

high_bays : (n g k : ℕ) → n ≤ 60 → g ≤ 21 → k ≤ 7 → (pos n +ℤ pos (g * k)) ≤ℤ pos 300
high_bays n g k few small low =
    let e = mul-le-mul_left g low in
    omega (arith, bays, e)

low_bays : (n g k : ℕ) → n ≤ 60 → g ≤ 21 → k ≤ 7 → ((pos n -ℤ pos 299) +ℤ pos (g * k)) ≤ℤ pos 1
low_bays n g k few small low =
    let e = mul-le-mul_left g low in
    omega (arith, bays, e)

far_down : (n : ℕ) (b : ℤ) → (pos (n + 1) -ℤ b) ≤ℤ pos 300 → (pos n -ℤ pos 299) ≤ℤ b
far_down n b less = omega (arith, bays)

bay_range : (n : ℕ) (x : ℤ) → 1 ≤ n → (pos n -ℤ pos 299) ≤ℤ x → x ≤ℤ pos 300
    → IsFrom (negsuc 299) (pos 300) x × IsFrom (negsuc 299) (pos 300) (pos (n + 1) -ℤ x)
bay_range n x some low high = ((omega (arith, bays), omega (arith, bays)), (omega (arith, bays), omega (arith, bays)))

place_range : (n : ℕ) (x : ℤ) → n ≤ 6000 → IsBerth x → IsOnRail x × IsOnRail (pos (n + 1) -ℤ x)
place_range n x few is =
    let low = is.0 in
    let high = is.1 in
    ((omega (arith, bays, low), omega (arith, bays, high)), (omega (arith, bays, high), omega (arith, bays, low)))

module _ (c : Course) (over : ℕ → ℕ) (stands : List Stand) (places : ℕ → ℤ) (valid : Valid c.inst) (keeps : Keeps c) where
  abbrev rest : InstanceView
  rest = rest_of c over stands places

  -- what holds of each place, seen from either end, holds of each start bay of the rest
  berths_of : (P : ℤ → Type 0) → ((k : ℕ) → k < length c.inst.cranes → P (places k) × P (mirror_bay c.inst (places k))) → HasBerths rest P
  berths_of P each k low =
      let inside : k < length c.inst.cranes = omega (arith, low, length-map-range_with_len (crane_in c stands places) 0 (length c.inst.cranes)) in
      let e : (crane rest k).bay ≡ places k = ap (λ (k : Crane). k.bay) (crane_is c over stands places valid keeps k inside) in
      subst (λ (x : ℤ). P x × P (mirror_bay c.inst x)) (sym e) (each k inside)

  pub by_places : HasPlaceLimits c.inst → ((k : ℕ) → k < length c.inst.cranes → IsBerth (places k)) → HasBerths rest IsOnRail
  by_places limits fit = berths_of IsOnRail (λ k low. place_range c.inst.bays (places k) limits.bays.1 (fit k low))

  pub by_bays : (o : Outlook) → o.course ≡ c → AreStands o.course o.over o.stands → (tops : ℕ → ℤ) → ArePlaces o tops places
      → HasBayLimits c.inst → HasBerths rest (IsFrom (negsuc 299) (pos 300))
  by_bays o same stand tops are limits = berths_of (IsFrom (negsuc 299) (pos 300)) (λ k low.
      let holds = subst (λ (d : Course). Valid d.inst) (sym same) valid in
      let berth = limits.berths k low in
      let few : length c.inst.cranes ≤ 8 = valid.cranes.count.1 in
      bay_range c.inst.bays (places k) limits.bays.0
      (lower k low few (far_down c.inst.bays (crane c.inst k).bay berth.1.1) holds)
      (upper k low few berth.0.1 holds))
    where
      upper : (k : ℕ) → k < length c.inst.cranes → length c.inst.cranes ≤ 8 → (crane c.inst k).bay ≤ℤ pos 300 → Valid o.course.inst → places k ≤ℤ pos 300
      upper k low few berth holds =
          let high = high_bays c.inst.bays c.inst.gap k limits.bays.1 limits.gap.1 (omega arith) in
          subst (λ (d : Course). k < length d.inst.cranes → (pos d.inst.bays +ℤ pos (d.inst.gap * k)) ≤ℤ pos 300 → (crane d.inst k).bay ≤ℤ pos 300 → places k ≤ℤ pos 300) same
          (λ inside stern at. places_below o holds stand tops places are k (pos 300) inside stern at) low high berth

      lower : (k : ℕ) → k < length c.inst.cranes → length c.inst.cranes ≤ 8 → (pos c.inst.bays -ℤ pos 299) ≤ℤ (crane c.inst k).bay → Valid o.course.inst
          → (pos c.inst.bays -ℤ pos 299) ≤ℤ places k
      lower k low few berth holds =
          let bow = low_bays c.inst.bays c.inst.gap (length c.inst.cranes - 1 - k) limits.bays.1 limits.gap.1 (omega arith) in
          subst (λ (d : Course). k + (length c.inst.cranes - 1 - k) < length d.inst.cranes → length d.inst.cranes ≤ k + (length c.inst.cranes - 1 - k) + 1
          → ((pos c.inst.bays -ℤ pos 299) +ℤ pos (d.inst.gap * (length c.inst.cranes - 1 - k))) ≤ℤ pos 1
          → (pos c.inst.bays -ℤ pos 299) ≤ℤ (crane d.inst k).bay → (pos c.inst.bays -ℤ pos 299) ≤ℤ places k) same
          (places_above o holds stand tops places are k (length c.inst.cranes - 1 - k) (pos c.inst.bays -ℤ pos 299))
          (omega arith) (omega arith) bow berth
