-- Tasks that are placed one after another: what a task more keeps, and that all are placed at the end.
use Rattle.std.proofs.Common.{◌≡◌, ◌≢◌, ℕ, zero, suc, ◌+◌, ◌-◌, ◌*◌, ◌<◌, ◌≤◌, ◌⊎◌, inl, inr, Bool, true, false, ◌||◌, eqb, List, [], ◌∷◌, length, Option, None, Some, sym, ap, subst, ◌∙◌, arith, slice_set}
use Rattle.std.proofs.lemmas.Bool.{cases_Bool, cases_eq, eqb-true, or_cases, false≢true}
use Rattle.std.proofs.lemmas.List.{get_or-set_other, get_or-set_same}
use Rattle.std.proofs.lemmas.List.Sums.{count_by-le-length}
use Rattle.std.proofs.lemmas.Map.Steps.{length-le_from_distinct_below}
use Rattle.std.proofs.Math.ListN.{length-set}
use Rattle.std.specs.List.{AllByRecursion, IsDistinct, list_any}
use Rattle.qc_arena.specs.declared.edge.Edge.{Edge}
use Rattle.qc_model.specs.declared.decision.Decision.{Decision}
use Rattle.qc_model.specs.Instance.{InstanceView, IsBefore, IsPath, Valid}
use Rattle.qc_model.specs.Nodes.{forced}
use Rattle.qc_model.proofs.NodeLemmas.{before_found}
use Rattle.qc_starts.specs.Arcs.{IsArc}
use Rattle.qc_starts.specs.NodeArcs.{IsSound, NodeArcs}
use Rattle.qc_starts.specs.Noting.{marks}
use Rattle.qc_starts.specs.Place.{ArePlaced, IsPlace, IsReady, IsReadyPick, IsReasonBy, IsSoonest}
use Rattle.qc_starts.specs.Spread.{IsIn, is_pending}
use Rattle.qc_starts.specs.Values.{AreRest, IsReason, raised, raiser_at, start_at}
use Rattle.qc_starts.proofs.ArcLemmas.{arc_of, before_true, newest_in}
use Rattle.qc_starts.proofs.NotingLemmas.{marks_less}
use Rattle.qc_starts.proofs.RaisedLemmas.{raised_count, raised_here, raised_other, reason_of_here, reason_of_other}
use Rattle.qc_starts.proofs.WayLemmas.{any_inside}

-- ---- a task is placed

-- all that a ready task waits for is placed
pub place_firm : (net : NodeArcs) (cells : List ℕ) (pending : List Bool) (j : ℕ) → IsSound net
    → IsReady net pending j true → ArePlaced net cells pending
    → (arc : Edge) → IsIn net.arcs arc → arc.to ≡ j → IsPlace net cells pending arc.from
place_firm net cells pending j sound ready placed arc in_ same =
    let asks = arc_of (IsArc net.inst net.decisions) net.arcs sound.all.each arc in_ in
    placed.each arc.from asks.from (ready arc in_ same)

module _ (net : NodeArcs) (cells : List ℕ) (pending : List Bool) (j s : ℕ) (why : Option ℕ) (sound : IsSound net)
    (low : j < length net.inst.tasks) (pends : is_pending pending j ≡ true)
    (ready : IsReady net pending j true) (placed : ArePlaced net cells pending)
    (is : IsSoonest net cells j s why []) where
  abbrev n : ℕ
  n = length net.inst.tasks

  firm : (arc : Edge) → IsIn net.arcs arc → arc.to ≡ j → IsPlace net cells pending arc.from
  firm = place_firm net cells pending j sound ready placed

  abbrev news : List ℕ
  news = raised n cells j s why

  abbrev marked : List Bool
  marked = slice_set pending j false

  fewer : marks marked + 1 ≡ marks pending
  fewer = marks_less pending j (omega (arith, placed.size)) pends

  here : start_at news j ≡ s
  here = raised_here n cells j s why low placed.count

  other : (k : ℕ) → k < n → k ≢ j → start_at news k ≡ start_at cells k
  other = raised_other n cells j s why low placed.count

  still : (k : ℕ) → is_pending pending k ≡ false → is_pending marked k ≡ false
  still k off = elim (cases_eq k j) [
    | inl same ↦ ap (is_pending marked) same ∙ get_or-set_same pending j false false (omega (arith, placed.size))
    | inr differ ↦ get_or-set_other pending j k false false differ ∙ off
  ]

  apart : (k : ℕ) → is_pending pending k ≡ false → k ≢ j
  apart k off same = absurd (false≢true (sym off ∙ ap (is_pending pending) same ∙ pends))

  -- all that the task waits for is placed
  waits : (i len : ℕ) → i < n → forced net.inst net.decisions i j ≡ Some len
      → (is_pending pending i ≡ false) × (start_at cells i + len ≤ s)
  waits i len under asks =
      let found = newest_in i j len net.arcs (sound.all.newest i j under low ∙ asks) in
      let from = ready found.0 found.1 found.3 in (
        ap (is_pending pending) (sym found.2) ∙ from,
        elim (is.met found.0 found.1 found.3) [
          | inl met ↦ omega (arith, met, found.4, ap (start_at cells) found.2)
          | inr never ↦ absurd never
        ],
      )

  reason_new : (o : Option ℕ) → IsReasonBy net cells j s o → IsReason net.inst net.decisions news j o
  reason_new None w = omega (arith, here)
  reason_new (Some i) w =
      let off = apart i (waits i w.1 w.0 w.2).0 in
      (w.0, w.1, w.2, omega (arith, here, w.3, other i w.0 off))

  reason_old : (k : ℕ) (o : Option ℕ) → k < n → k ≢ j → IsPlace net cells pending k
      → IsReason net.inst net.decisions cells k o → IsReason net.inst net.decisions news k o
  reason_old k None under off place w = omega (arith, other k under off)
  reason_old k (Some i) under off place w =
      let from = apart i (place.steps i w.1 w.0 w.2).0 in
      (w.0, w.1, w.2, omega (arith, other k under off, other i w.0 from, w.3))

  pub place_done : ArePlaced net news marked
  place_done = record {
    count = raised_count n cells j s why low placed.count ∙ placed.count;
    size = length-set pending j false ∙ placed.size;
    each = λ k under done. elim (cases_eq k j) [
      | inl same ↦ subst (IsPlace net news marked) (sym same) (record {
        above = omega (arith, is.above, here);
        low = is.low;
        reason = subst (IsReason net.inst net.decisions news j) (sym (reason_of_here n cells j s why low placed.count))
            (reason_new why is.reason);
        least = λ others meets.
            omega (arith, here, is.least others meets (λ arc in_ same. (firm arc in_ same).least others meets));
        steps = λ i len i_low asks.
            let by = waits i len i_low asks in
            (still i by.0, omega (arith, here, by.1, other i i_low (apart i by.0)));
        bound =
            let limit = 2147483648 * (n + 1) - 2147483648 * marks pending in
            let by = is.bound limit (λ arc in_ same. omega (arith, (firm arc in_ same).bound)) in
            omega (arith, here, by, fewer, count_by-le-length (λ b. b) pending, placed.size);
      })
      | inr off ↦
          let place = placed.each k under (sym (get_or-set_other pending j k false false off) ∙ done) in
          record {
            above = omega (arith, place.above, other k under off);
            low = place.low;
            reason = subst (IsReason net.inst net.decisions news k)
                (sym (reason_of_other n cells j s why low placed.count k under off))
                (reason_old k (raiser_at n cells k) under off place place.reason);
            least = λ others meets. omega (arith, other k under off, place.least others meets);
            steps = λ i len i_low asks.
                let by = place.steps i len i_low asks in
                (still i by.0, omega (arith, other k under off, by.1, other i i_low (apart i by.0)));
            bound = omega (arith, other k under off, place.bound, fewer);
          }
    ];
  }

-- ---- at the end all are placed

-- from i one leads to each of the tasks behind it
abbrev IsChain : InstanceView → ℕ → List ℕ → Type 0
IsChain inst i [] = Unit {0}
IsChain inst i (k ∷ ks) = IsBefore inst i k × IsChain inst k ks

leads_to : (inst : InstanceView) (i : ℕ) (ks : List ℕ) (q : ℕ) → IsChain inst i ks
    → list_any (eqb q) (i ∷ ks) ≡ true → (i ≡ q) ⊎ ((via : List ℕ) × IsPath inst.before i via q)
leads_to inst i [] q chain has = elim (or_cases (eqb q i) false has) [
  | inl e ↦ inl (sym (eqb-true q i e))
  | inr never ↦ absurd (false≢true never)
]
leads_to inst i (k ∷ ks) q chain has = go (or_cases (eqb q i) (list_any (eqb q) (k ∷ ks)) has)
    (λ more. leads_to inst k ks q chain.1 more)
  where
    go : (eqb q i ≡ true) ⊎ (list_any (eqb q) (k ∷ ks) ≡ true)
        → (list_any (eqb q) (k ∷ ks) ≡ true → (k ≡ q) ⊎ ((via : List ℕ) × IsPath inst.before k via q))
        → (i ≡ q) ⊎ ((via : List ℕ) × IsPath inst.before i via q)
    go (inl e) more = inl (sym (eqb-true q i e))
    go (inr t) more = elim (more t) [
      | inl same ↦ inr ([], subst (IsBefore inst i) same chain.0)
      | inr on ↦ inr (k ∷ on.0, (chain.0, on.1))
    ]

none_of : (q : ℕ) (ks : List ℕ) → list_any (eqb q) ks ≡ false → AllByRecursion (λ k. eqb q k ≡ false) ks
none_of q [] e = tt
none_of q (k ∷ ks) e = elim (cases_Bool (eqb q k)) [
  | inl holds ↦ absurd (false≢true (sym e ∙ ap (λ (b : Bool). b || list_any (eqb q) ks) holds))
  | inr fails ↦ (fails, none_of q ks (sym (ap (λ (b : Bool). b || list_any (eqb q) ks) fails) ∙ e))
]

-- tasks that each come after another of them are none
module _ (inst : InstanceView) (valid : Valid inst) (P : ℕ → Type 0)
    (back : (j : ℕ) → P j → (i : ℕ) × P i × (i < length inst.tasks) × IsBefore inst i j) where
  no_more : (fuel i : ℕ) (ks : List ℕ) → P i → IsChain inst i ks → IsDistinct eqb (i ∷ ks)
      → AllByRecursion (λ k. k < length inst.tasks) (i ∷ ks) → length inst.tasks ≤ fuel + length ks → ⊥
  unfolding IsDistinct
  no_more zero i ks has chain distinct all room =
      let fits = length-le_from_distinct_below (i ∷ ks) (length inst.tasks) distinct (any_inside (length inst.tasks) (i ∷ ks) all) in
      omega (arith, fits)
  no_more (suc fuel) i ks has chain distinct all room =
      let by = back i has in
      elim (cases_Bool (list_any (eqb by.0) (i ∷ ks))) [
        | inl on ↦ elim (leads_to inst i ks by.0 chain on) [
          | inl same ↦ valid.before.no_ring i [] (subst (λ (h : ℕ). IsBefore inst h i) (sym same) by.3)
          | inr path ↦ valid.before.no_ring by.0 (i ∷ path.0) (by.3, path.1)
        ]
        | inr off ↦ no_more fuel by.0 (i ∷ ks) by.1 (by.3, chain) (none_of by.0 (i ∷ ks) off, distinct) (by.2, all) (omega arith)
      ]

  pub none_left : (j : ℕ) → j < length inst.tasks → P j → ⊥
  unfolding IsDistinct
  none_left j low has = no_more (length inst.tasks) j [] has tt (tt, tt) (low, tt) (omega arith)

pub place_ends : (net : NodeArcs) (cells : List ℕ) (pending : List Bool) → IsSound net → net.decisions ≡ []
    → IsReadyPick net pending (length net.inst.tasks) None → ArePlaced net cells pending
    → AreRest net.inst net.decisions cells
place_ends net cells pending sound none stuck placed = record {
  count = placed.count;
  heads = λ j low. (each j low).above;
  steps = λ i j len first second asks. ((each j second).steps i len first asks).1;
  reasons = λ j low. (each j low).reason;
  least = λ others meets j low. (each j low).least others meets;
  low = λ j low. (each j low).low;
}
  where
    waits : (j : ℕ) → (j < length net.inst.tasks) × (is_pending pending j ≡ true)
        → (i : ℕ) × ((i < length net.inst.tasks) × (is_pending pending i ≡ true))
        × (i < length net.inst.tasks) × IsBefore net.inst i j
    waits j has =
        let found = stuck j has.0 has.1 in
        let asks = arc_of (IsArc net.inst net.decisions) net.arcs sound.all.each found.0 found.1 in
        let is = subst (λ (ds : List Decision). forced net.inst ds found.0.from found.0.to ≡ Some asks.ticks) none asks.is in
        let before = before_found found.0.from found.0.to net.inst.before
        (before_true net.inst sound.valid found.0.from found.0.to asks.ticks is) in
        (found.0.from, (asks.from, found.3), asks.from, subst (IsBefore net.inst found.0.from) found.2 before)

    each : (j : ℕ) → j < length net.inst.tasks → IsPlace net cells pending j
    each j low = elim (cases_Bool (is_pending pending j)) [
      | inl on ↦ absurd (none_left net.inst sound.valid
          (λ k. (k < length net.inst.tasks) × (is_pending pending k ≡ true)) waits j low (low, on))
      | inr off ↦ placed.each j low off
    ]
