-- Starts that are raised behind a root: what a raise keeps, and what is left at the end.
use Rattle.std.proofs.Common.{◌≡◌, ◌≢◌, ℕ, ◌+◌, ◌<◌, ◌≤◌, ◌⊎◌, inl, inr, Bool, true, false, ◌&&◌, eqb, cond, List, [], ◌∷◌, length, Option, None, Some, refl, sym, ap, subst, subst₂, ◌∙◌, arith, filter, slice_index, slice_set}
use Rattle.std.proofs.lemmas.Bool.{and_parts, cases_Bool, cases_eq, cases_lt, cond-false, cond-true, cond_both, eq-eqb, eqb-true, ltb-false, ltb-true, false≢true}
use Rattle.std.proofs.lemmas.List.{get_or-set_other, get_or-set_same}
use Rattle.std.proofs.Math.ListN.{get_or-eq_default, length-set}
use Rattle.qc_arena.specs.declared.edge.Edge.{Edge}
use Rattle.qc_model.specs.Nodes.{Meets, forced, head}
use Rattle.qc_starts.specs.Arcs.{IsArc}
use Rattle.qc_starts.specs.NodeArcs.{IsSound, NodeArcs}
use Rattle.qc_starts.specs.Place.{IsReasonBy, IsSoonest}
use Rattle.qc_starts.specs.Spread.{IsBackAtRoot, IsIn, IsLifted, IsMet, IsOnly, IsRaisedBy, IsRaising, IsRooting, IsSpreading, from_task, is_late, is_pending, left, left_of, one_of}
use Rattle.qc_starts.specs.Values.{AreRest, IsReason, raised, raiser_at, start_at}
use Rattle.qc_starts.proofs.ArcLemmas.{arc_of, newest_in}
use Rattle.qc_model.proofs.Sums.{sum_le, sum_raised}
use Rattle.qc_starts.proofs.RaisedLemmas.{raised_count, raised_here, raised_other, reason_of_here, reason_of_other}
use Rattle.qc_starts.proofs.SelfLemmas.{self_free}

-- ---- a raise

pub record IsRaise (net : NodeArcs) (root : ℕ) (olds cells : List ℕ) (z s : ℕ) (why : Option ℕ) : Type 0 where
  pub task : z < length net.inst.tasks
  pub late : start_at cells z < s
  pub reason : IsReasonBy net cells z s why
  pub least : (others : List ℕ) → Meets net.inst net.decisions others → s ≤ slice_index others z
  pub bound : z ≢ root → s ≤ start_at olds z + (start_at cells root + 2147483648)
  pub by : z ≢ root → (i : ℕ) × (why ≡ Some i) × (i < length net.inst.tasks) × IsLifted root olds cells i

module _ (net : NodeArcs) (root : ℕ) (olds cells : List ℕ) (z s : ℕ) (why : Option ℕ)
    (is : IsRaising net root olds cells) (r : IsRaise net root olds cells z s why) where
  abbrev n : ℕ
  n = length net.inst.tasks

  abbrev news : List ℕ
  news = raised n cells z s why

  pub start_here : start_at news z ≡ s
  start_here = raised_here n cells z s why r.task is.count

  pub start_other : (j : ℕ) → j < n → j ≢ z → start_at news j ≡ start_at cells j
  start_other = raised_other n cells z s why r.task is.count

  pub raiser_here : raiser_at n news z ≡ why
  raiser_here = reason_of_here n cells z s why r.task is.count

  raiser_other : (j : ℕ) → j < n → j ≢ z → raiser_at n news j ≡ raiser_at n cells j
  raiser_other = reason_of_other n cells z s why r.task is.count

  pub starts_up : (j : ℕ) → j < n → start_at cells j ≤ start_at news j
  starts_up j low = elim (cases_eq j z) [
    | inl same ↦ omega (arith, ap (start_at news) same, ap (start_at cells) same, start_here, r.late)
    | inr other ↦ omega (arith, start_other j low other)
  ]

  pub lifted_up : (j : ℕ) → j < n → IsLifted root olds cells j → IsLifted root olds news j
  lifted_up j low (inl same) = inl same
  lifted_up j low (inr less) = inr (omega (arith, starts_up j low))

  reason_up : (j : ℕ) (o : Option ℕ) → start_at news j ≡ start_at cells j
      → IsReason net.inst net.decisions cells j o → IsReason net.inst net.decisions news j o
  reason_up j None same w = omega arith
  reason_up j (Some i) same w = (w.0, w.1, w.2, omega (arith, same, w.3, starts_up i w.0))

  reason_here : (o : Option ℕ) → IsReasonBy net cells z s o → IsReason net.inst net.decisions news z o
  reason_here None w = omega (arith, start_here)
  reason_here (Some i) w = (w.0, w.1, w.2, omega (arith, start_here, w.3, starts_up i w.0))

  raised_up : (j : ℕ) → IsRaisedBy net root olds cells j → raiser_at n news j ≡ raiser_at n cells j
      → IsRaisedBy net root olds news j
  raised_up j by same = record {
    by = by.by;
    is = same ∙ by.is;
    task = by.task;
    lifted = lifted_up by.by by.task by.lifted;
  }

  pub raise_keeps : IsRaising net root olds news
  raise_keeps = record {
    count = raised_count n cells z s why r.task is.count ∙ is.count;
    inside = is.inside;
    heads = λ j low other. omega (arith, is.heads j low other, starts_up j low);
    low = is.low;
    reasons = λ j low. elim (cases_eq j z) [
      | inl same ↦ subst (λ (x : ℕ). IsReason net.inst net.decisions news x (raiser_at n news x)) (sym same)
          (subst (IsReason net.inst net.decisions news z) (sym raiser_here) (reason_here why r.reason))
      | inr other ↦ subst (IsReason net.inst net.decisions news j) (sym (raiser_other j low other))
          (reason_up j (raiser_at n cells j) (start_other j low other) (is.reasons j low))
    ];
    least = λ others meets j low. elim (cases_eq j z) [
      | inl same ↦ omega (arith, ap (start_at news) same, start_here, r.least others meets, ap (slice_index others) same)
      | inr other ↦ omega (arith, start_other j low other, is.least others meets j low)
    ];
    rise = λ j low. omega (arith, is.rise j low, starts_up j low);
    lifted = λ j low other more. elim (cases_eq j z) [
      | inl same ↦
          let by = r.by (λ e. other (same ∙ e)) in
          subst (IsRaisedBy net root olds news) (sym same) (record {
            by = by.0;
            is = raiser_here ∙ by.1;
            task = by.2;
            lifted = lifted_up by.0 by.2 by.3;
          })
      | inr off ↦
          let less : start_at olds j < start_at cells j = omega (arith, start_other j low off) in
          raised_up j (is.lifted j low other less) (raiser_other j low off)
    ];
    soon = is.soon;
    bound = λ j low other. elim (cases_eq j z) [
      | inl same ↦
          omega (
            arith,
            ap (start_at news) same,
            start_here,
            r.bound (λ e. other (same ∙ e)),
            starts_up root is.inside,
            ap (start_at olds) same,
          )
      | inr off ↦ omega (arith, start_other j low off, is.bound j low other, starts_up root is.inside)
    ];
    settled = is.settled;
  }

-- ---- an arc that asks for a later start

pub ends_apart : (net : NodeArcs) → IsSound net → (arc : Edge) → IsIn net.arcs arc → arc.from ≢ arc.to
ends_apart net sound arc in_ same =
    let asks = arc_of (IsArc net.inst net.decisions) net.arcs sound.all.each arc in_ in
    let loop : forced net.inst net.decisions arc.from arc.from ≡ Some asks.ticks =
    subst (λ (j : ℕ). forced net.inst net.decisions arc.from j ≡ Some asks.ticks) (sym same) asks.is in
    let clash : None ≡ Some asks.ticks = sym (self_free net.inst net.decisions sound.valid sound.fits arc.from) ∙ loop in
    cc

module _ (net : NodeArcs) (root : ℕ) (olds cells : List ℕ) (sound : IsSound net) (arc : Edge)
    (in_ : IsIn net.arcs arc) (late : is_late cells arc ≡ true) (is : IsRaising net root olds cells) where
  abbrev asks : IsArc net.inst net.decisions arc
  asks = arc_of (IsArc net.inst net.decisions) net.arcs sound.all.each arc in_

  abbrev until : ℕ
  until = start_at cells arc.from + arc.len

  length_low : arc.len ≤ 2147483648
  length_low = arc_of (λ arc. arc.len ≤ 2147483648) net.arcs sound.low arc in_

  pub arc_raise : (arc.to ≢ root → IsLifted root olds cells arc.from) → IsRaise net root olds cells arc.to until (Some arc.from)
  arc_raise lifted = record {
    task = asks.to;
    late = ltb-true (start_at cells arc.to) until late;
    reason = (asks.from, asks.ticks, asks.is, omega (arith, asks.within));
    least = λ others meets.
        let from = is.least others meets arc.from asks.from in
        let step = meets.steps arc.from arc.to asks.ticks asks.from asks.to asks.is in
        omega (arith, from, step, asks.within);
    bound = λ other. elim (cases_eq arc.from root) [
      | inl same ↦ omega (arith, ap (start_at cells) same, length_low)
      | inr off ↦ omega (arith, is.bound arc.from asks.from off, is.settled arc in_ off other)
    ];
    by = λ other. (arc.from, refl, asks.from, lifted other);
  }

-- ---- only the root is raised

module _ (net : NodeArcs) (root : ℕ) (olds cells : List ℕ) (is : IsRooting net root olds cells) where
  rooting_by : (s : ℕ) (why : Option ℕ) → IsRaise net root olds cells root s why → s ≤ 2199023255552
      → IsRooting net root olds (raised (length net.inst.tasks) cells root s why)
  rooting_by s why r top = record {
    raising = raise_keeps net root olds cells root s why is.raising r;
    still = λ j low other. start_other net root olds cells root s why is.raising r j low other ∙ is.still j low other;
    top = omega (arith, start_here net root olds cells root s why is.raising r);
  }

  -- the root is the first to be looked at
  pub spread_begins : IsSound net → head net.inst net.decisions root ≤ start_at cells root
      → head net.inst net.decisions root ≤ 2147483648
      → ((arc : Edge) → IsIn net.arcs arc → arc.to ≡ root → IsMet cells arc)
      → (pending : List Bool) → IsOnly pending (length net.inst.tasks) root
      → IsSpreading net root olds cells pending []
  spread_begins sound heads low into pending only = record {
    raising = is.raising;
    above = heads;
    low = low;
    top = is.top;
    size = only.size;
    pended = λ j t. elim (cases_eq j root) [
      | inl same ↦ inl same
      | inr other ↦ absurd (false≢true (sym (only.others j other) ∙ t))
    ];
    met = λ arc in_ done.
        let asks = arc_of (IsArc net.inst net.decisions) net.arcs sound.all.each arc in_ in
        elim (cases_eq arc.to root) [
          | inl same ↦ inl (into arc in_ same)
          | inr other ↦ elim (cases_eq arc.from root) [
            | inl same ↦ absurd (false≢true (sym done ∙ ap (is_pending pending) same ∙ only.first))
            | inr off ↦ inl (omega (
              arith,
              is.still arc.from asks.from off,
              is.still arc.to asks.to other,
              is.raising.settled arc in_ off other,
            ))
          ]
        ];
  }

module _ (net : NodeArcs) (root : ℕ) (olds cells : List ℕ) (sound : IsSound net)
    (is : IsRooting net root olds cells) (pending : List Bool) (only : IsOnly pending (length net.inst.tasks) root)
    (s : ℕ) (why : Option ℕ) (soonest : IsSoonest net cells root s why []) where
  from_task_of : (arc : Edge) → IsIn net.arcs arc → arc.to ≡ root → (arc.from < length net.inst.tasks) × (arc.from ≢ root)
  from_task_of arc in_ same =
      let asks = arc_of (IsArc net.inst net.decisions) net.arcs sound.all.each arc in_ in
      (asks.from, λ loop. ends_apart net sound arc in_ (loop ∙ sym same))

  -- the arcs into the root come from tasks that start as before
  pub root_soon : (arc : Edge) → IsIn net.arcs arc → arc.to ≡ root → start_at cells arc.from ≤ 999999999999
  root_soon arc in_ same =
      let from = from_task_of arc in_ same in
      omega (arith, is.still arc.from from.0 from.1, is.raising.soon arc.from from.0)

  met_by : (arc : Edge) → IsIn net.arcs arc → arc.to ≡ root → start_at cells arc.from + arc.len ≤ s
  met_by arc in_ same = elim (soonest.met arc in_ same) [ inl met ↦ met | inr never ↦ absurd never ]

  pub root_stays : s ≤ start_at cells root → IsSpreading net root olds cells pending []
  root_stays early =
      spread_begins net root olds cells is sound (omega (arith, soonest.above)) soonest.low
      (λ arc in_ same. omega (arith, met_by arc in_ same, ap (start_at cells) same)) pending only

  pub root_rises : start_at cells root < s
      → IsSpreading net root olds (raised (length net.inst.tasks) cells root s why) pending []
  root_rises late =
      let r : IsRaise net root olds cells root s why = record {
        task = is.raising.inside;
        late = late;
        reason = soonest.reason;
        least = λ others meets. soonest.least others meets
            (λ arc in_ same. is.raising.least others meets arc.from (from_task_of arc in_ same).0);
        bound = λ other. absurd (other refl);
        by = λ other. absurd (other refl);
      } in
      let news = raised (length net.inst.tasks) cells root s why in
      let rooted = rooting_by net root olds cells is s why r (omega (arith, soonest.bound 999999999999 root_soon)) in
      let here = start_here net root olds cells root s why is.raising r in
      spread_begins net root olds news rooted sound (omega (arith, here, soonest.above)) soonest.low
      (λ arc in_ same.
      let from = from_task_of arc in_ same in
      let still = start_other net root olds cells root s why is.raising r arc.from from.0 from.1 in
      omega (arith, here, still, met_by arc in_ same, ap (start_at news) same))
      pending only

-- ---- starts are raised behind the root

module _ (net : NodeArcs) (root : ℕ) (olds cells : List ℕ) (pending : List Bool) (rest : List Edge) (arc : Edge) where
  -- an arc that asks for nothing
  pub spread_on : is_late cells arc ≡ false → IsSpreading net root olds cells pending (arc ∷ rest)
      → IsSpreading net root olds cells pending rest
  spread_on early is = record {
    raising = is.raising;
    above = is.above;
    low = is.low;
    top = is.top;
    size = is.size;
    pended = is.pended;
    met = λ other in_ done. elim (is.met other in_ done) [
      | inl met ↦ inl met
      | inr among ↦ elim among [
        | inl same ↦ inl (subst (IsMet cells) same (ltb-false (start_at cells arc.to) (start_at cells arc.from + arc.len) early))
        | inr more ↦ inr more
      ]
    ];
  }

  module _ (sound : IsSound net) (in_ : IsIn net.arcs arc) (late : is_late cells arc ≡ true) (lifted : IsLifted root olds cells arc.from)
      (is : IsSpreading net root olds cells pending (arc ∷ rest)) where
    abbrev later : List ℕ
    later = raised (length net.inst.tasks) cells arc.to (start_at cells arc.from + arc.len) (Some arc.from)

    raise_is : IsRaise net root olds cells arc.to (start_at cells arc.from + arc.len) (Some arc.from)
    raise_is = arc_raise net root olds cells sound arc in_ late is.raising (λ _. lifted)

    up : (j : ℕ) → j < length net.inst.tasks → start_at cells j ≤ start_at later j
    up = starts_up net root olds cells arc.to (start_at cells arc.from + arc.len) (Some arc.from) is.raising raise_is

    same_start : (j : ℕ) → j < length net.inst.tasks → j ≢ arc.to → start_at later j ≡ start_at cells j
    same_start = start_other net root olds cells arc.to (start_at cells arc.from + arc.len) (Some arc.from) is.raising raise_is

    here : start_at later arc.to ≡ start_at cells arc.from + arc.len
    here = start_here net root olds cells arc.to (start_at cells arc.from + arc.len) (Some arc.from) is.raising raise_is

    more_lifted : (j : ℕ) → j < length net.inst.tasks → IsLifted root olds cells j → IsLifted root olds later j
    more_lifted = lifted_up net root olds cells arc.to (start_at cells arc.from + arc.len) (Some arc.from) is.raising raise_is

    -- the raise comes back to the root
    pub spread_back : arc.to ≡ root → IsBackAtRoot net root olds later
    spread_back same = record {
      raising = raise_keeps net root olds cells arc.to (start_at cells arc.from + arc.len) (Some arc.from) is.raising raise_is;
      back = record {
        by = arc.from;
        is = ap (raiser_at (length net.inst.tasks) later) (sym same)
            ∙ raiser_here net root olds cells arc.to (start_at cells arc.from + arc.len) (Some arc.from) is.raising raise_is;
        task = raise_is.reason.0;
        lifted = more_lifted arc.from raise_is.reason.0 lifted;
      };
    }

    module _ (other : arc.to ≢ root) where
      abbrev after : List Bool
      after = slice_set pending arc.to true

      pend_here : is_pending after arc.to ≡ true
      pend_here = get_or-set_same pending arc.to true false (omega (arith, is.size, raise_is.task))

      pend_other : (j : ℕ) → j ≢ arc.to → is_pending after j ≡ is_pending pending j
      pend_other j off = get_or-set_other pending arc.to j true false off

      root_same : start_at later root ≡ start_at cells root
      root_same = same_start root is.raising.inside (λ e. other (sym e))

      inside : (j : ℕ) → is_pending pending j ≡ true → j < length net.inst.tasks
      inside j t = elim (cases_lt j (length pending)) [
        | inl l ↦ omega (arith, is.size)
        | inr l ↦ absurd (false≢true (sym (get_or-eq_default pending false l) ∙ t))
      ]

      pub spread_raise : IsSpreading net root olds later after rest
      spread_raise = record {
        raising = raise_keeps net root olds cells arc.to (start_at cells arc.from + arc.len) (Some arc.from) is.raising raise_is;
        above = omega (arith, is.above, root_same);
        low = is.low;
        top = omega (arith, is.top, root_same);
        size = length-set pending arc.to true ∙ is.size;
        pended = λ j t. elim (cases_eq j arc.to) [
          | inl same ↦ inr (omega (
            arith,
            ap (start_at later) same,
            here,
            ap (start_at olds) same,
            raise_is.late,
            is.raising.rise arc.to raise_is.task,
          ))
          | inr off ↦
              let before = sym (pend_other j off) ∙ t in
              more_lifted j (inside j before) (is.pended j before)
        ];
        met = λ one among done.
            let asks = arc_of (IsArc net.inst net.decisions) net.arcs sound.all.each one among in
            elim (cases_eq one.from arc.to) [
              | inl same ↦ absurd (false≢true (sym done ∙ ap (is_pending after) same ∙ pend_here))
              | inr off ↦ elim (is.met one among (sym (pend_other one.from off) ∙ done)) [
                | inl met ↦ inl (omega (arith, same_start one.from asks.from off, met, up one.to asks.to))
                | inr left_over ↦ elim left_over [
                  | inl same ↦
                      let apart = ends_apart net sound arc in_ in
                      let now : IsMet later arc = omega (arith, here, same_start arc.from raise_is.reason.0 apart) in
                      inl (subst (IsMet later) same now)
                  | inr more ↦ inr more
                ]
              ]
            ];
      }

      -- less is left to be done
      pub left_less : left (length net.inst.tasks) root olds later after
          ≤ left (length net.inst.tasks) root olds cells pending
      left_less = sum_le (left_of root olds later after) (left_of root olds cells pending) 0 (length net.inst.tasks)
          (λ j _ low. elim (cases_eq j arc.to) [
            | inl same ↦
                subst (λ (x : ℕ). left_of root olds later after x ≤ left_of root olds cells pending x) (sym same)
                (omega (arith, here, root_same, raise_is.late, raise_is.bound other, ap one_of pend_here))
            | inr off ↦ omega (arith, same_start j (omega (arith, low)) off, root_same, ap one_of (pend_other j off))
          ])

-- ---- a task is looked at

module _ (net : NodeArcs) (root : ℕ) (olds cells : List ℕ) (pending : List Bool) (task : ℕ)
    (low : task < length net.inst.tasks) (chosen : is_pending pending task ≡ true)
    (is : IsSpreading net root olds cells pending []) where
  abbrev without : List Bool
  without = slice_set pending task false

  gone : is_pending without task ≡ false
  gone = get_or-set_same pending task false false (omega (arith, is.size))

  kept : (j : ℕ) → j ≢ task → is_pending without j ≡ is_pending pending j
  kept j off = get_or-set_other pending task j false false off

  pub look_begins : (arcs : List Edge) → ((arc : Edge) → IsIn net.arcs arc → arc.from ≡ task → IsIn arcs arc)
      → IsSpreading net root olds cells without arcs
  look_begins arcs all = record {
    raising = is.raising;
    above = is.above;
    low = is.low;
    top = is.top;
    size = length-set pending task false ∙ is.size;
    pended = λ j t. elim (cases_eq j task) [
      | inl same ↦ absurd (false≢true (sym gone ∙ ap (is_pending without) (sym same) ∙ t))
      | inr off ↦ is.pended j (sym (kept j off) ∙ t)
    ];
    met = λ arc in_ done. elim (cases_eq arc.from task) [
      | inl same ↦ inr (all arc in_ same)
      | inr off ↦ elim (is.met arc in_ (sym (kept arc.from off) ∙ done)) [
        | inl met ↦ inl met
        | inr never ↦ absurd never
      ]
    ];
  }

  pub look_less : left (length net.inst.tasks) root olds cells without
      < left (length net.inst.tasks) root olds cells pending
  look_less =
      let less = sum_raised (left_of root olds cells pending) (left_of root olds cells without) 1 task 0
      (length net.inst.tasks) (omega arith) (omega (arith, low)) (omega (arith, ap one_of gone, ap one_of chosen))
      (λ j off. omega (arith, ap one_of (kept j (λ e. off (sym e))))) in
      omega (arith, less)

-- ---- the arcs from a task, one after another

pub in_filter : (p : Edge → Bool) (xs : List Edge) (arc : Edge) → IsIn xs arc → p arc ≡ true → IsIn (filter p xs) arc
in_filter p [] arc in_ t = in_
in_filter p (x ∷ xs) arc (inl same) t =
    cond_both (p x) (x ∷ filter p xs) (filter p xs) (λ ys. IsIn ys arc)
    (λ _. inl same) (λ fails. absurd (false≢true (sym fails ∙ ap p same ∙ t)))
in_filter p (x ∷ xs) arc (inr in_) t =
    cond_both (p x) (x ∷ filter p xs) (filter p xs) (λ ys. IsIn ys arc)
    (λ _. inr (in_filter p xs arc in_ t)) (λ _. in_filter p xs arc in_ t)

pub filter_in : (p : Edge → Bool) (xs : List Edge) (arc : Edge) → IsIn (filter p xs) arc
    → IsIn xs arc × (p arc ≡ true)
filter_in p [] arc in_ = absurd in_
filter_in p (x ∷ xs) arc in_ = go (cases_Bool (p x)) (filter_in p xs arc)
  where
    go : (p x ≡ true) ⊎ (p x ≡ false) → (IsIn (filter p xs) arc → IsIn xs arc × (p arc ≡ true))
        → IsIn (x ∷ xs) arc × (p arc ≡ true)
    go (inl holds) more =
        elim (subst (λ (ys : List Edge). IsIn ys arc) (cond-true (p x) (x ∷ filter p xs) (filter p xs) holds) in_) [
          | inl same ↦ (inl same, ap p (sym same) ∙ holds)
          | inr rest ↦ let found = more rest in (inr found.0, found.1)
        ]
    go (inr fails) more =
        let found = more (subst (λ (ys : List Edge). IsIn ys arc) (cond-false (p x) (x ∷ filter p xs) (filter p xs) fails) in_) in
        (inr found.0, found.1)

-- what holds while the arcs from a task are looked at
pub record IsLooking
    (net : NodeArcs) (root task : ℕ) (olds cells : List ℕ) (pending : List Bool) (rest : List Edge) (before : ℕ)
    : Type 0 where
  pub spreading : IsSpreading net root olds cells pending rest
  pub lifted : IsLifted root olds cells task
  pub inside : (arc : Edge) → IsIn rest arc → IsIn net.arcs arc × (arc.from ≡ task)
  pub less : left (length net.inst.tasks) root olds cells pending ≤ before

pub looking_begins : (net : NodeArcs) (root task : ℕ) (olds cells : List ℕ) (pending : List Bool) (arcs : List Edge)
    → arcs ≡ from_task task net.arcs
    → IsSpreading net root olds cells pending (from_task task net.arcs) → IsLifted root olds cells task
    → IsLooking net root task olds cells pending arcs (left (length net.inst.tasks) root olds cells pending)
looking_begins net root task olds cells pending arcs are is lifted = record {
  spreading = subst (IsSpreading net root olds cells pending) (sym are) is;
  lifted = lifted;
  inside = λ arc in_.
      let found = filter_in (λ arc. eqb arc.from task) net.arcs arc (subst (λ (xs : List Edge). IsIn xs arc) are in_) in
      (found.0, eqb-true arc.from task found.1);
  less = omega arith;
}

module _ (net : NodeArcs) (root task : ℕ) (olds cells : List ℕ) (pending : List Bool) (rest : List Edge)
    (before : ℕ) (arc : Edge) (sound : IsSound net) (is : IsLooking net root task olds cells pending (arc ∷ rest) before) where
  among : IsIn net.arcs arc
  among = (is.inside arc (inl refl)).0

  pub looking_asks : IsArc net.inst net.decisions arc
  looking_asks = arc_of (IsArc net.inst net.decisions) net.arcs sound.all.each arc among

  lifted_from : IsLifted root olds cells arc.from
  lifted_from = subst (IsLifted root olds cells) (sym (is.inside arc (inl refl)).1) is.lifted

  -- the sum fits
  pub looking_fits : start_at cells arc.from + arc.len ≤ 18446744073709551615
  looking_fits =
      let short_one = arc_of (λ arc. arc.len ≤ 2147483648) net.arcs sound.low arc among in
      let raising = is.spreading.raising in
      elim (cases_eq arc.from root) [
        | inl same ↦ omega (arith, ap (start_at cells) same, is.spreading.top, short_one)
        | inr off ↦ omega (
          arith,
          raising.bound arc.from looking_asks.from off,
          raising.soon arc.from looking_asks.from,
          is.spreading.top,
          short_one,
        )
      ]

  pub looking_back : (is_late cells arc && eqb arc.to root) ≡ true
      → IsBackAtRoot net root olds
      (cond (is_late cells arc)
      (raised (length net.inst.tasks) cells arc.to (start_at cells arc.from + arc.len) (Some arc.from)) cells)
  looking_back both =
      let parts = and_parts (is_late cells arc) (eqb arc.to root) both in
      let later = raised (length net.inst.tasks) cells arc.to (start_at cells arc.from + arc.len) (Some arc.from) in
      subst (IsBackAtRoot net root olds) (sym (cond-true (is_late cells arc) later cells parts.0))
      (spread_back net root olds cells pending rest arc sound among parts.0 lifted_from is.spreading
      (eqb-true arc.to root parts.1))

  pub looking_next : (late : Bool) → is_late cells arc ≡ late → (late && eqb arc.to root) ≡ false
      → IsLooking net root task olds
      (cond late (raised (length net.inst.tasks) cells arc.to (start_at cells arc.from + arc.len) (Some arc.from)) cells)
      (cond late (slice_set pending arc.to true) pending) rest before
  looking_next false early other = record {
    spreading = spread_on net root olds cells pending rest arc early is.spreading;
    lifted = is.lifted;
    inside = λ one in_. is.inside one (inr in_);
    less = is.less;
  }
  looking_next true late other = record {
    spreading = spread_raise net root olds cells pending rest arc sound among late lifted_from is.spreading
        (off other);
    lifted = subst (IsLifted root olds _) (is.inside arc (inl refl)).1
        (more_lifted net root olds cells pending rest arc sound among late lifted_from is.spreading
        arc.from looking_asks.from lifted_from);
    inside = λ one in_. is.inside one (inr in_);
    less = omega (
      arith,
      is.less,
      left_less net root olds cells pending rest arc sound among late lifted_from
          is.spreading (off other),
    );
  }
    where
      off : eqb arc.to root ≡ false → arc.to ≢ root
      off e same = absurd (false≢true (sym e ∙ eq-eqb arc.to root same))

  module _ (after : List ℕ) (marks : List Bool) (k : ℕ) (same : k ≡ length net.inst.tasks)
      (starts : after ≡ cond (is_late cells arc)
      (raised k cells arc.to (start_at cells arc.from + arc.len) (Some arc.from)) cells) where
    starts_are : after ≡ cond (is_late cells arc)
        (raised (length net.inst.tasks) cells arc.to (start_at cells arc.from + arc.len) (Some arc.from)) cells
    starts_are = subst (λ (m : ℕ). after ≡ cond (is_late cells arc)
        (raised m cells arc.to (start_at cells arc.from + arc.len) (Some arc.from)) cells) same starts

    pub looking_home : (is_late cells arc && eqb arc.to root) ≡ true → IsBackAtRoot net root olds after
    looking_home both = subst (IsBackAtRoot net root olds) (sym starts_are) (looking_back both)

    pub looking_step : marks ≡ cond (is_late cells arc) (slice_set pending arc.to true) pending
        → (is_late cells arc && eqb arc.to root) ≡ false
        → IsLooking net root task olds after marks rest before
    looking_step are_marks other =
        subst₂ (λ (xs : List ℕ) (ms : List Bool). IsLooking net root task olds xs ms rest before)
        (sym starts_are) (sym are_marks) (looking_next (is_late cells arc) refl other)

-- ---- the end

pub spread_ends : (net : NodeArcs) (root : ℕ) (olds cells : List ℕ) (pending : List Bool) → IsSound net
    → ((j : ℕ) → j < length pending → is_pending pending j ≡ false)
    → IsSpreading net root olds cells pending [] → AreRest net.inst net.decisions cells
spread_ends net root olds cells pending sound none is = record {
  count = is.raising.count;
  heads = λ j under. elim (cases_eq j root) [
    | inl same ↦ subst (λ (x : ℕ). head net.inst net.decisions x ≤ start_at cells x) (sym same) is.above
    | inr other ↦ is.raising.heads j under other
  ];
  steps = λ i j len first second asks.
      let found = newest_in i j len net.arcs (sound.all.newest i j first second ∙ asks) in
      elim (is.met found.0 found.1 (all_done found.0.from)) [
        | inl met ↦ omega (arith, met, found.4, ap (start_at cells) found.2, ap (start_at cells) found.3)
        | inr never ↦ absurd never
      ];
  reasons = is.raising.reasons;
  least = is.raising.least;
  low = λ j under. elim (cases_eq j root) [
    | inl same ↦ subst (λ (x : ℕ). head net.inst net.decisions x ≤ 2147483648) (sym same) is.low
    | inr other ↦ is.raising.low j under other
  ];
}
  where
    all_done : (j : ℕ) → is_pending pending j ≡ false
    all_done j = elim (cases_lt j (length pending)) [
      | inl l ↦ none j l
      | inr l ↦ get_or-eq_default pending false l
    ]

-- all arcs from a task are looked at
pub look_from : (task : ℕ) (arcs : List Edge) (arc : Edge) → IsIn arcs arc → arc.from ≡ task
    → IsIn (from_task task arcs) arc
look_from task arcs arc in_ same = in_filter (λ arc. eqb arc.from task) arcs arc in_ (eq-eqb arc.from task same)

pub set_size : (after before : List Bool) (late : Bool) (p : ℕ)
    → after ≡ cond late (slice_set before p true) before → length after ≡ length before
set_size xs ys true p is = ap (length {A = Bool}) is ∙ length-set ys p true
set_size xs ys false p is = ap (length {A = Bool}) is
