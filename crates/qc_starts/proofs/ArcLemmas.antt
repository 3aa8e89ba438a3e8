-- Arcs that are those of a node: what a push keeps, and that there are few.
use Rattle.std.proofs.Common.{◌≡◌, ◌≢◌, ℕ, zero, suc, ◌+◌, ◌-◌, ◌*◌, ◌<◌, ◌≤◌, Bool, true, false, ◌||◌, cond, eqb, inl, inr, ◌⊎◌, List, [], ◌∷◌, ◌++◌, length, Option, None, Some, IfSome, refl, sym, ap, ap₂, subst, subst₂, ◌∙◌, append_assoc, length-append, reverse, ◌^◌, arith, count_by}
use Rattle.std.proofs.lemmas.Bool.{and_parts, cases_Bool, cases_eq, cases_lt, cases_order, cond-false, cond-true, cond_both, eqb-true, or_left, or_right}
use Rattle.std.proofs.lemmas.List.{length-reverse}
use Rattle.std.proofs.lemmas.Option.{none-some, same_Some}
use Rattle.std.specs.List.{AllByRecursion}
use Rattle.qc_arena.specs.declared.edge.Edge.{Edge}
use Rattle.qc_dist.specs.Node.{IsOpen}
use Rattle.qc_dist.proofs.Tables.{pair_differs, pair_is}
use Rattle.qc_model.specs.declared.decision.Decision.{Decision}
use Rattle.qc_model.specs.declared.decision.Decision.TheVariants.{Assign, Order}
use Rattle.qc_model.specs.Instance.{InstanceView, Valid, ticks_of}
use Rattle.qc_model.specs.Nodes.{Fits, assigned, crane_ticks, forced, greater, is_before, is_sooner, sooner_ticks}
use Rattle.qc_model.proofs.CompleteNodes.{forced_ticks}
use Rattle.qc_model.proofs.NodeLemmas.{before_found}
use Rattle.qc_starts.specs.Arcs.{AreArcs, AreLow, AreOpening, IsArc, IsOver, added, arc_between, joins, leads, most_arcs, newest_length, with_added}
use Rattle.qc_starts.proofs.LevelLemmas.{reverse_push}
use Rattle.qc_starts.proofs.Counts.{IsBetween, arcs_few, count_cons}
use Rattle.qc_starts.specs.Spread.{IsIn, one_of}
use Rattle.qc_starts.proofs.Growth.{assigned_same, both_ask, excess_by, forced_grows, greater_more, greater_same, open_from, open_to, ordered_here_is, ordered_same, unsettled_from, unsettled_to}
use Rattle.qc_starts.proofs.SelfLemmas.{self_free}

-- ---- arcs of a list

pub arc_of : (P : Edge → Type 0) (arcs : List Edge) → AllByRecursion P arcs → (arc : Edge) → IsIn arcs arc → P arc
arc_of P [] all arc in_ = absurd in_
arc_of P (x ∷ xs) all arc (inl same) = subst P same all.0
arc_of P (x ∷ xs) all arc (inr in_) = arc_of P xs all.1 arc in_

pub newest_in : (i j len : ℕ) (arcs : List Edge) → newest_length i j arcs ≡ Some len
    → (arc : Edge) × IsIn arcs arc × (arc.from ≡ i) × (arc.to ≡ j) × (arc.len ≡ len)
newest_in i j len [] is = absurd (cc)
newest_in i j len (arc ∷ arcs) is = elim (cases_Bool (leads i j arc)) [
  | inl here ↦
      let parts = and_parts (eqb arc.from i) (eqb arc.to j) here in
      let same = same_Some arc.len len (sym (cond-true (leads i j arc) (Some arc.len) (newest_length i j arcs) here) ∙ is) in
      (arc, inl refl, eqb-true arc.from i parts.0, eqb-true arc.to j parts.1, same)
  | inr away ↦
      let rest = newest_in i j len arcs (sym (cond-false (leads i j arc) (Some arc.len) (newest_length i j arcs) away) ∙ is) in
      (rest.0, inr rest.1, rest.2, rest.3, rest.4)
]

-- ---- arcs of a node

module _ (inst : InstanceView) (ds : List Decision) where
  arc_grows : (d : Decision) → IsOpen inst ds d → (arc : Edge) → IsArc inst ds arc → IsArc inst (d ∷ ds) arc
  arc_grows d able arc is =
      let more = forced_grows inst ds d able arc.from arc.to is.ticks is.is in
      record {
        from = is.from;
        to = is.to;
        some = is.some;
        ticks = more.0;
        is = more.1;
        within = omega (arith, more.2, is.within);
      }

  pub arcs_grow : (d : Decision) → IsOpen inst ds d → (arcs : List Edge) → AllByRecursion (IsArc inst ds) arcs
      → AllByRecursion (IsArc inst (d ∷ ds)) arcs
  arcs_grow d able [] all = tt
  arcs_grow d able (arc ∷ arcs) all = (arc_grows d able arc all.0, arcs_grow d able arcs all.1)

  -- an arc as long as is forced
  pub new_arc : Valid inst → (i j len : ℕ) → i < length inst.tasks → j < length inst.tasks
      → forced inst ds i j ≡ Some len → IsArc inst ds (arc_between i j len)
  new_arc valid i j len low high is = record {
    from = low;
    to = high;
    some =
        let least = subst (λ (o : Option ℕ). IfSome o (λ n. ticks_of inst i ≤ n)) is (forced_ticks inst ds i j) in
        omega (arith, valid.tasks.ticks i low, least);
    ticks = len;
    is = is;
    within = omega arith;
  }

  between : Valid inst → Fits inst ds → (arcs : List Edge) → AllByRecursion (IsArc inst ds) arcs
      → AllByRecursion (IsBetween (length inst.tasks)) arcs
  between valid fits [] all = tt
  between valid fits (arc ∷ arcs) all = (
    record {
      from = all.0.from;
      to = all.0.to;
      apart = λ same.
          let loop : forced inst ds arc.from arc.from ≡ Some all.0.ticks =
          subst (λ (j : ℕ). forced inst ds arc.from j ≡ Some all.0.ticks) (sym same) all.0.is in
          none-some all.0.ticks (sym (self_free inst ds valid fits arc.from) ∙ loop);
    },
    between valid fits arcs all.1,
  )

  most_two : (a b : Option ℕ) → most_arcs a b ≤ 2
  most_two None b = omega arith
  most_two (Some v) None = omega arith
  most_two (Some v) (Some w) = omega arith

  -- no more than two for each pair of tasks
  pub arcs_fit : Valid inst → Fits inst ds → (arcs : List Edge) → AllByRecursion (IsArc inst ds) arcs
      → ((i j : ℕ) → count_by (joins i j) arcs ≤ most_arcs (assigned ds i) (assigned ds j))
      → length arcs + length inst.tasks ≤ length inst.tasks * length inst.tasks
  arcs_fit valid fits arcs all few =
      arcs_few (length inst.tasks) arcs (between valid fits arcs all)
      (λ i j. omega (arith, few i j, most_two (assigned ds i) (assigned ds j)))

-- ---- the newest arc

pub newest_here : (i j len : ℕ) (arcs : List Edge) → newest_length i j (arc_between i j len ∷ arcs) ≡ Some len
newest_here i j len arcs = ap (λ (b : Bool). cond b (Some len) (newest_length i j arcs)) (pair_is i j)

pub newest_other : (f g len i j : ℕ) (arcs : List Edge) → (f ≡ i → g ≡ j → ⊥)
    → newest_length i j (arc_between f g len ∷ arcs) ≡ newest_length i j arcs
newest_other f g len i j arcs differ =
    ap (λ (b : Bool). cond b (Some len) (newest_length i j arcs)) (pair_differs f g i j differ)

-- ---- how many arcs join two tasks

pub count_other : (f g len i j : ℕ) (arcs : List Edge) → (f ≡ i → g ≡ j → ⊥) → (f ≡ j → g ≡ i → ⊥)
    → count_by (joins i j) (arc_between f g len ∷ arcs) ≡ count_by (joins i j) arcs
count_other f g len i j arcs one two =
    let zero_is = ap₂ (λ (a b : Bool). one_of (a || b)) (pair_differs f g i j one) (pair_differs f g j i two) in
    omega (arith, count_cons (joins i j) (arc_between f g len) arcs, zero_is)

one_most : (b : Bool) → one_of b ≤ 1
one_most true = omega arith
one_most false = omega arith

pub count_one : (i j : ℕ) (arc : Edge) (arcs : List Edge)
    → count_by (joins i j) (arc ∷ arcs) ≤ count_by (joins i j) arcs + 1
count_one i j arc arcs =
    let most = one_most (joins i j arc) in
    omega (arith, count_cons (joins i j) arc arcs, most)

-- one arc more joins no more than may be joined, if that holds of its own two tasks
few_more : (bound : ℕ → ℕ → ℕ) (f g len : ℕ) (arcs : List Edge)
    → count_by (joins f g) arcs + 1 ≤ bound f g → count_by (joins g f) arcs + 1 ≤ bound g f
    → ((i j : ℕ) → count_by (joins i j) arcs ≤ bound i j)
    → (i j : ℕ) → count_by (joins i j) (arc_between f g len ∷ arcs) ≤ bound i j
few_more bound f g len arcs one two few i j = elim (cases_eq f i) [
  | inl same ↦ elim (cases_eq g j) [
    | inl too ↦ subst₂ Few same too (here f g one)
    | inr other ↦ elim (cases_eq f j) [
      | inl loop ↦ elim (cases_eq g i) [
        | inl too ↦ subst₂ Few too loop (here g f two)
        | inr off ↦ apart (λ e d. other d) (λ e d. off d)
      ]
      | inr off ↦ apart (λ e d. other d) (λ e d. off e)
    ]
  ]
  | inr other ↦ elim (cases_eq f j) [
    | inl same ↦ elim (cases_eq g i) [
      | inl too ↦ subst₂ Few too same (here g f two)
      | inr off ↦ apart (λ e d. other e) (λ e d. off d)
    ]
    | inr off ↦ apart (λ e d. other e) (λ e d. off e)
  ]
]
  where
    Few : ℕ → ℕ → Type 0
    Few x y = count_by (joins x y) (arc_between f g len ∷ arcs) ≤ bound x y

    here : (x y : ℕ) → count_by (joins x y) arcs + 1 ≤ bound x y
        → count_by (joins x y) (arc_between f g len ∷ arcs) ≤ bound x y
    here x y room = omega (arith, count_one x y (arc_between f g len) arcs)

    apart : (f ≡ i → g ≡ j → ⊥) → (f ≡ j → g ≡ i → ⊥)
        → count_by (joins i j) (arc_between f g len ∷ arcs) ≤ bound i j
    apart a b = omega (arith, count_other f g len i j arcs a b, few i j)

none_between : (i j : ℕ) (arcs : List Edge) → newest_length i j arcs ≡ None → newest_length j i arcs ≡ None
    → count_by (joins i j) arcs ≡ 0
none_between i j [] one two = refl
none_between i j (arc ∷ arcs) one two = elim (cases_Bool (leads i j arc)) [
  | inl here ↦ absurd (none-some arc.len (sym one ∙ cond-true (leads i j arc) (Some arc.len) (newest_length i j arcs) here))
  | inr away ↦ elim (cases_Bool (leads j i arc)) [
    | inl here ↦ absurd (none-some arc.len (sym two ∙ cond-true (leads j i arc) (Some arc.len) (newest_length j i arcs) here))
    | inr off ↦
        let rest = none_between i j arcs
        (sym (cond-false (leads i j arc) (Some arc.len) (newest_length i j arcs) away) ∙ one)
        (sym (cond-false (leads j i arc) (Some arc.len) (newest_length j i arcs) off) ∙ two) in
        let zero_is = ap₂ (λ (a b : Bool). one_of (a || b)) away off in
        omega (arith, count_cons (joins i j) arc arcs, rest, zero_is)
  ]
]

-- an arc of one kind is one that joins, if those of this kind join
some_between : (i j g h n : ℕ) (arcs : List Edge) → ((arc : Edge) → leads g h arc ≡ true → joins i j arc ≡ true)
    → newest_length g h arcs ≡ Some n → 1 ≤ count_by (joins i j) arcs
some_between i j g h n [] joined is = absurd (none-some n is)
some_between i j g h n (arc ∷ arcs) joined is = elim (cases_Bool (leads g h arc)) [
  | inl here ↦ omega (arith, count_cons (joins i j) arc arcs, ap one_of (joined arc here))
  | inr away ↦
      let rest = some_between i j g h n arcs joined
      (sym (cond-false (leads g h arc) (Some arc.len) (newest_length g h arcs) away) ∙ is) in
      omega (arith, count_cons (joins i j) arc arcs, rest)
]

-- arcs both ways are two that join
two_between : (i j a b : ℕ) (arcs : List Edge) → i ≢ j → newest_length i j arcs ≡ Some a → newest_length j i arcs ≡ Some b
    → 2 ≤ count_by (joins i j) arcs
two_between i j a b [] differ one two = absurd (none-some a one)
two_between i j a b (arc ∷ arcs) differ one two = elim (cases_Bool (leads i j arc)) [
  | inl here ↦ elim (cases_Bool (leads j i arc)) [
    | inl back ↦
        let p = and_parts (eqb arc.from i) (eqb arc.to j) here in
        let q = and_parts (eqb arc.from j) (eqb arc.to i) back in
        absurd (differ (sym (eqb-true arc.from i p.0) ∙ eqb-true arc.from j q.0))
    | inr off ↦
        let rest = some_between i j j i b arcs (λ x t. or_right (leads i j x) (leads j i x) t)
        (sym (cond-false (leads j i arc) (Some arc.len) (newest_length j i arcs) off) ∙ two) in
        omega (arith, count_cons (joins i j) arc arcs, ap one_of (or_left (leads i j arc) (leads j i arc) here), rest)
  ]
  | inr away ↦ elim (cases_Bool (leads j i arc)) [
    | inl back ↦
        let rest = some_between i j i j a arcs (λ x t. or_left (leads i j x) (leads j i x) t)
        (sym (cond-false (leads i j arc) (Some arc.len) (newest_length i j arcs) away) ∙ one) in
        omega (arith, count_cons (joins i j) arc arcs, ap one_of (or_right (leads i j arc) (leads j i arc) back), rest)
    | inr off ↦
        let rest = two_between i j a b arcs differ
        (sym (cond-false (leads i j arc) (Some arc.len) (newest_length i j arcs) away) ∙ one)
        (sym (cond-false (leads j i arc) (Some arc.len) (newest_length j i arcs) off) ∙ two) in
        omega (arith, count_cons (joins i j) arc arcs, rest)
  ]
]

-- ---- the arc of an order

pub order_arcs : (inst : InstanceView) (ds : List Decision) (g h len : ℕ) (arcs : List Edge) → Valid inst
    → IsOpen inst ds (Order g h) → g < length inst.tasks → h < length inst.tasks
    → forced inst (Order g h ∷ ds) g h ≡ Some len
    → AreArcs inst ds arcs → AreArcs inst (Order g h ∷ ds) (arc_between g h len ∷ arcs)
order_arcs inst ds g h len arcs valid able low high is are = record {
  newest = λ i j first second. elim (cases_eq g i) [
    | inl same ↦ elim (cases_eq h j) [
      | inl too ↦ subst₂ (λ (x y : ℕ). newest_length x y (arc_between g h len ∷ arcs) ≡ forced inst (Order g h ∷ ds) x y)
          same too (newest_here g h len arcs ∙ sym is)
      | inr other ↦ elsewhere i j first second (λ e f. other f)
    ]
    | inr other ↦ elsewhere i j first second (λ e f. other e)
  ];
  each = (new_arc inst (Order g h ∷ ds) valid g h len low high is, arcs_grow inst ds (Order g h) able arcs are.each);
  few = few_more (λ i j. most_arcs (assigned ds i) (assigned ds j)) g h len arcs
      (omega (arith, none_between g h arcs from to, some_arc (assigned ds g) (assigned ds h)))
      (omega (arith, none_between h g arcs to from, some_arc (assigned ds h) (assigned ds g))) are.few;
}
  where
    from : newest_length g h arcs ≡ None
    from = are.newest g h low high ∙ unsettled_from inst ds g h able.1

    to : newest_length h g arcs ≡ None
    to = are.newest h g high low ∙ unsettled_to inst ds g h able.1

    some_arc : (a b : Option ℕ) → 1 ≤ most_arcs a b
    some_arc None b = omega arith
    some_arc (Some v) None = omega arith
    some_arc (Some v) (Some w) = omega arith

    elsewhere : (i j : ℕ) → i < length inst.tasks → j < length inst.tasks → (g ≡ i → h ≡ j → ⊥)
        → newest_length i j (arc_between g h len ∷ arcs) ≡ forced inst (Order g h ∷ ds) i j
    elsewhere i j first second differ =
        newest_other g h len i j arcs differ ∙ are.newest i j first second ∙ sym (ordered_same inst ds g h i j differ)

-- ---- the arcs of a task that gets its crane

-- what holds once the other tasks before this one have been looked at
pub record IsAssigning (inst : InstanceView) (ds : List Decision) (t k : ℕ) (arcs : List Edge) (next : ℕ) : Type 0 where
  pub each : AllByRecursion (IsArc inst (Assign t k ∷ ds)) arcs
  pub few : (i j : ℕ) → count_by (joins i j) arcs
      ≤ most_arcs (assigned (Assign t k ∷ ds) i) (assigned (Assign t k ∷ ds) j)
  pub others : (i j : ℕ) → i ≢ t → j ≢ t → i < length inst.tasks → j < length inst.tasks
      → newest_length i j arcs ≡ forced inst (Assign t k ∷ ds) i j
  pub from : (j : ℕ) → j < next → newest_length t j arcs ≡ forced inst (Assign t k ∷ ds) t j
  pub to : (i : ℕ) → i < next → newest_length i t arcs ≡ forced inst (Assign t k ∷ ds) i t
  pub still_from : (j : ℕ) → next ≤ j → j < length inst.tasks → newest_length t j arcs ≡ sooner_ticks inst ds t j
  pub still_to : (i : ℕ) → next ≤ i → i < length inst.tasks → newest_length i t arcs ≡ sooner_ticks inst ds i t
  pub still_few : (j : ℕ) → next ≤ j → (count_by (joins t j) arcs ≤ 1) × (count_by (joins j t) arcs ≤ 1)

module _ (inst : InstanceView) (ds : List Decision) (t k : ℕ) (valid : Valid inst) (none : assigned ds t ≡ None) where
  abbrev news : List Decision
  news = Assign t k ∷ ds

  one_for : (a b : Option ℕ) → (a ≡ None) ⊎ (b ≡ None) → most_arcs a b ≡ 1
  one_for None b h = refl
  one_for (Some v) None h = refl
  one_for (Some v) (Some w) (inl e) = absurd (none-some v (sym e))
  one_for (Some v) (Some w) (inr e) = absurd (none-some w (sym e))

  more_for : (i j : ℕ) → most_arcs (assigned ds i) (assigned ds j) ≤ most_arcs (assigned news i) (assigned news j)
  more_for i j =
      cond_both (eqb t i) (Some k) (assigned ds i) (λ a. most_arcs (assigned ds i) (assigned ds j) ≤ most_arcs a (assigned news j))
      (λ here. cond_both (eqb t j) (Some k) (assigned ds j) (λ b. most_arcs (assigned ds i) (assigned ds j) ≤ most_arcs (Some k) b)
      (λ there. most_two inst ds (assigned ds i) (assigned ds j))
      (λ away. first_some (assigned ds i) (assigned ds j)))
      (λ off. cond_both (eqb t j) (Some k) (assigned ds j) (λ b. most_arcs (assigned ds i) (assigned ds j) ≤ most_arcs (assigned ds i) b)
      (λ there. second_some (assigned ds i) (assigned ds j))
      (λ away. omega arith))
    where
      first_some : (a b : Option ℕ) → most_arcs a b ≤ most_arcs (Some k) b
      first_some None None = omega arith
      first_some None (Some w) = omega arith
      first_some (Some v) b = omega arith

      second_some : (a b : Option ℕ) → most_arcs a b ≤ most_arcs a (Some k)
      second_some None b = omega arith
      second_some (Some v) None = omega arith
      second_some (Some v) (Some w) = omega arith

  pub assign_begins : IsOpen inst ds (Assign t k) → (arcs : List Edge) → AreArcs inst ds arcs
      → IsAssigning inst ds t k arcs 0
  assign_begins able arcs are = record {
    each = arcs_grow inst ds (Assign t k) able arcs are.each;
    few = λ i j. omega (arith, are.few i j, more_for i j);
    others = λ i j first second low high. are.newest i j low high ∙ sym (assigned_same inst ds t k i j first second);
    from = λ j low. absurd (omega arith);
    to = λ i low. absurd (omega arith);
    still_from = λ j low high. are.newest t j able.0 high ∙ open_from inst ds t k none j;
    still_to = λ i low high. are.newest i t high able.0 ∙ open_to inst ds t k none i;
    still_few = λ j low. (
      omega (arith, are.few t j, one_for (assigned ds t) (assigned ds j) (inl none)),
      omega (arith, are.few j t, one_for (assigned ds j) (assigned ds t) (inr none)),
    );
  }

  pub assign_ends : (arcs : List Edge) (next : ℕ) → next ≡ length inst.tasks → IsAssigning inst ds t k arcs next
      → AreArcs inst (Assign t k ∷ ds) arcs
  assign_ends arcs next all is = record {
    newest = λ i j low high. elim (cases_eq i t) [
      | inl same ↦ subst (λ (x : ℕ). newest_length x j arcs ≡ forced inst news x j) (sym same) (is.from j (omega arith))
      | inr first ↦ elim (cases_eq j t) [
        | inl same ↦ subst (λ (x : ℕ). newest_length i x arcs ≡ forced inst news i x) (sym same) (is.to i (omega arith))
        | inr second ↦ is.others i j first second low high
      ]
    ];
    each = is.each;
    few = is.few;
  }

  both_some : (s : Bool) (i j n : ℕ) (a b : Option ℕ) → crane_ticks inst s i j a b ≡ Some n
      → (most_arcs a b ≡ 2) × (most_arcs b a ≡ 2)
  both_some s i j n None b e = absurd (none-some n e)
  both_some s i j n (Some v) None e = absurd (none-some n e)
  both_some s i j n (Some v) (Some w) e = (refl, refl)

  sooner_is : (i j : ℕ) → is_sooner inst news i j ≡ true → sooner_ticks inst ds i j ≡ Some (ticks_of inst i)
  sooner_is i j t = cond-true (is_sooner inst ds i j) (Some (ticks_of inst i)) None t

  -- cranes add something at most one way: else an arc led each way before
  not_back : (arcs : List Edge) (o n : ℕ) → o < length inst.tasks → t ≢ o → IsAssigning inst ds t k arcs o
      → added inst news t o ≡ Some n → (r : Option ℕ) → added inst news o t ≡ r → r ≡ None
  not_back arcs o n low differ so_far is None back = refl
  not_back arcs o n low differ so_far is (Some m) back =
      let both = both_ask inst (is_sooner inst news t o) (is_sooner inst news o t) t o n m (assigned news t) (assigned news o)
      (excess_by (sooner_ticks inst news t o) _ n is) (excess_by (sooner_ticks inst news o t) _ m back) in
      let two = two_between t o (ticks_of inst t) (ticks_of inst o) arcs differ
      (so_far.still_from o (omega arith) low ∙ sooner_is t o both.0)
      (so_far.still_to o (omega arith) low ∙ sooner_is o t both.1) in
      absurd (omega (arith, two, (so_far.still_few o (omega arith)).0))

  -- what is forced where nothing is added
  unadded : (i j : ℕ) → added inst news i j ≡ None → forced inst news i j ≡ sooner_ticks inst ds i j
  unadded i j is =
      greater_same (sooner_ticks inst news i j) (crane_ticks inst (is_sooner inst news i j) i j (assigned news i) (assigned news j)) is

  is_added : (i j n : ℕ) → added inst news i j ≡ Some n → forced inst news i j ≡ Some n
  is_added i j n is =
      greater_more (sooner_ticks inst news i j) (crane_ticks inst (is_sooner inst news i j) i j (assigned news i) (assigned news j)) n is

  up_to : (P : ℕ → Type 0) (o : ℕ) → ((j : ℕ) → j < o → P j) → P o → (j : ℕ) → j < o + 1 → P j
  up_to P o below here j low = elim (cases_eq j o) [
    | inl same ↦ subst P (sym same) here
    | inr other ↦ below j (omega arith)
  ]

  none_added : (arcs : List Edge) (o : ℕ) → o < length inst.tasks → added inst news t o ≡ None → added inst news o t ≡ None
      → IsAssigning inst ds t k arcs o → IsAssigning inst ds t k arcs (o + 1)
  none_added arcs o low one two is = record {
    each = is.each;
    few = is.few;
    others = is.others;
    from = up_to (λ j. newest_length t j arcs ≡ forced inst news t j) o is.from
        (is.still_from o (omega arith) low ∙ sym (unadded t o one));
    to = up_to (λ i. newest_length i t arcs ≡ forced inst news i t) o is.to
        (is.still_to o (omega arith) low ∙ sym (unadded o t two));
    still_from = λ j high under. is.still_from j (omega arith) under;
    still_to = λ i high under. is.still_to i (omega arith) under;
    still_few = λ j high. is.still_few j (omega arith);
  }

  one_added : (arcs : List Edge) (o f g len : ℕ) → f < length inst.tasks → g < length inst.tasks
      → added inst news f g ≡ Some len
      → (count_by (joins f g) arcs ≤ 1) × (count_by (joins g f) arcs ≤ 1)
      → ((i j : ℕ) → i ≢ t → j ≢ t → f ≡ i → g ≡ j → ⊥)
      → ((j : ℕ) → j ≢ o → f ≡ t → g ≡ j → ⊥)
      → ((i : ℕ) → i ≢ o → f ≡ i → g ≡ t → ⊥)
      → newest_length t o (arc_between f g len ∷ arcs) ≡ forced inst news t o
      → newest_length o t (arc_between f g len ∷ arcs) ≡ forced inst news o t
      → IsAssigning inst ds t k arcs o → IsAssigning inst ds t k (arc_between f g len ∷ arcs) (o + 1)
  one_added arcs o f g len low high add small outside after before here_from here_to is = record {
    each = (new_arc inst news valid f g len low high (is_added f g len add), is.each);
    few = few_more (λ i j. most_arcs (assigned news i) (assigned news j)) f g len arcs
        (omega (arith, small.0, two.0)) (omega (arith, small.1, two.1)) is.few;
    others = λ i j first second under over.
        newest_other f g len i j arcs (outside i j first second) ∙ is.others i j first second under over;
    from = up_to (λ j. newest_length t j more ≡ forced inst news t j) o
        (λ j under. newest_other f g len t j arcs (after j (λ e. absurd (omega arith))) ∙ is.from j under) here_from;
    to = up_to (λ i. newest_length i t more ≡ forced inst news i t) o
        (λ i under. newest_other f g len i t arcs (before i (λ e. absurd (omega arith))) ∙ is.to i under) here_to;
    still_from = λ j past under.
        newest_other f g len t j arcs (after j (λ e. absurd (omega arith))) ∙ is.still_from j (omega arith) under;
    still_to = λ i past under.
        newest_other f g len i t arcs (before i (λ e. absurd (omega arith))) ∙ is.still_to i (omega arith) under;
    still_few = λ j past.
        let one = count_other f g len t j arcs (after j (λ e. absurd (omega arith))) (before j (λ e. absurd (omega arith))) in
        let two = count_other f g len j t arcs (before j (λ e. absurd (omega arith))) (after j (λ e. absurd (omega arith))) in
        let both = is.still_few j (omega arith) in
        (omega (arith, one, both.0), omega (arith, two, both.1));
  }
    where
      more : List Edge
      more = arc_between f g len ∷ arcs

      two : (most_arcs (assigned news f) (assigned news g) ≡ 2) × (most_arcs (assigned news g) (assigned news f) ≡ 2)
      two = both_some (is_sooner inst news f g) f g len (assigned news f) (assigned news g) (excess_by (sooner_ticks inst news f g) _ len add)

  module _ (fits : Fits inst (Assign t k ∷ ds)) (task : t < length inst.tasks) where
    not_self : (o len : ℕ) (f g : ℕ) → f ≡ g → added inst news f g ≡ Some len → ⊥
    not_self o len f g same add =
        let loop = ap (λ (j : ℕ). forced inst news f j) same ∙ is_added f g len add in
        none-some len (sym (self_free inst news valid fits f) ∙ loop)

    -- one more of the other tasks is looked at
    pub assign_step : (arcs : List Edge) (o : ℕ) (a b : Option ℕ) → o < length inst.tasks
        → added inst news t o ≡ a → added inst news o t ≡ b
        → IsAssigning inst ds t k arcs o → IsAssigning inst ds t k (with_added t o a b arcs) (o + 1)
    assign_step arcs o None None low one two is = none_added arcs o low one two is
    assign_step arcs o (Some len) b low one two is =
        let differ = λ (e : t ≡ o). not_self o len t o e one in
        let back = not_back arcs o len low differ is one (added inst news o t) refl in
        one_added arcs o t o len task low one (is.still_few o (omega arith))
        (λ i j first second e f. first (sym e)) (λ j other e f. other (sym f)) (λ i other e f. differ (sym f))
        (newest_here t o len arcs ∙ sym (is_added t o len one))
        (newest_other t o len o t arcs (λ e f. differ e) ∙ is.still_to o (omega arith) low ∙ sym (unadded o t back))
        is
    assign_step arcs o None (Some len) low one two is =
        let differ = λ (e : o ≡ t). not_self o len o t e two in
        let few = is.still_few o (omega arith) in
        one_added arcs o o t len low task two (few.1, few.0)
        (λ i j first second e f. second (sym f)) (λ j other e f. differ e) (λ i other e f. other (sym e))
        (newest_other o t len t o arcs (λ e f. differ e) ∙ is.still_from o (omega arith) low ∙ sym (unadded t o one))
        (newest_here o t len arcs ∙ sym (is_added o t len two))
        is

-- ---- the arcs of no decision

pair_first : (i j g h : ℕ) → {n : ℕ} → j < n → h < n → n ≤ 240 → 240 * i + j ≤ 240 * g + h
    → 240 * g + h < 240 * i + (j + 1) → g ≡ i
pair_first i j g h low high few above below = elim (cases_order g i) [
  | inl e ↦ e
  | inr u ↦ elim u [
    | inl l ↦ absurd (omega arith)
    | inr l ↦ absurd (omega arith)
  ]
]

module _ (inst : InstanceView) (valid : Valid inst) where
  pub before_true : (i j n : ℕ) → forced inst [] i j ≡ Some n → is_before inst i j ≡ true
  before_true i j n is = elim (cases_Bool (is_before inst i j)) [
    | inl holds ↦ holds
    | inr fails ↦
        let none = ap (λ (b : Bool). greater (cond (b || false) (Some (ticks_of inst i)) None) None) fails in
        absurd (none-some n (sym none ∙ is))
  ]

  -- nothing is forced both ways
  not_both : (i j a b : ℕ) → forced inst [] i j ≡ Some a → forced inst [] j i ≡ Some b → ⊥
  not_both i j a b one two =
      valid.before.no_ring i (j ∷ []) (
        before_found i j inst.before (before_true i j a one),
        before_found j i inst.before (before_true j i b two),
      )

  -- one more pair is looked at
  pub opening_step : (arcs : List Edge) (i j : ℕ) (o : Option ℕ) → i < length inst.tasks → j < length inst.tasks
      → length inst.tasks ≤ 240 → forced inst [] i j ≡ o
      → AreOpening inst arcs (240 * i + j)
      → AreOpening inst (with_added i j o None arcs) (240 * i + (j + 1))
  opening_step arcs i j None low high few is so_far = record {
    each = so_far.each;
    few = so_far.few;
    newest = λ g h g_low h_low under. elim (cases_lt (240 * g + h) (240 * i + j)) [
      | inl l ↦ so_far.newest g h g_low h_low l
      | inr l ↦
          let one : g ≡ i = pair_first i j g h high h_low few l under in
          let two : h ≡ j = omega arith in
          so_far.still g h (omega arith) ∙ sym (ap₂ (forced inst []) one two ∙ is)
    ];
    still = λ g h past. so_far.still g h (omega arith);
  }
  opening_step arcs i j (Some len) low high few is so_far = record {
    each = (new_arc inst [] valid i j len low high is, so_far.each);
    few = few_more (λ _ _. 1) i j len arcs (omega (arith, none_between i j arcs none back))
        (omega (arith, none_between j i arcs back none)) so_far.few;
    newest = λ g h g_low h_low under. elim (cases_lt (240 * g + h) (240 * i + j)) [
      | inl l ↦
          newest_other i j len g h arcs (λ e f. absurd (omega arith)) ∙ so_far.newest g h g_low h_low l
      | inr l ↦
          let one : g ≡ i = pair_first i j g h high h_low few l under in
          let two : h ≡ j = omega arith in
          subst₂ (λ (x y : ℕ). newest_length x y (arc_between i j len ∷ arcs) ≡ forced inst [] x y) (sym one) (sym two)
          (newest_here i j len arcs ∙ sym is)
    ];
    still = λ g h past. newest_other i j len g h arcs (λ e f. absurd (omega arith)) ∙ so_far.still g h (omega arith);
  }
    where
      none : newest_length i j arcs ≡ None
      none = so_far.still i j (omega arith)

      of_back : (o : Option ℕ) → forced inst [] j i ≡ o → o ≡ None
      of_back None e = refl
      of_back (Some m) e = absurd (not_both i j len m is e)

      back : newest_length j i arcs ≡ None
      back = elim (cases_lt (240 * j + i) (240 * i + j)) [
        | inl l ↦ so_far.newest j i high low l ∙ of_back (forced inst [] j i) refl
        | inr l ↦ so_far.still j i l
      ]

-- ---- arcs that are added, as the code adds them

-- an arc that was asked for is on top
pub added_is : (i j len : ℕ) (a b : Option ℕ) (arcs : List Edge) → a ≡ Some len
    → with_added i j a b (reverse arcs) ≡ reverse (arcs ++ arc_between i j len ∷ [])
added_is i j len a b arcs is =
    ap (λ (o : Option ℕ). with_added i j o b (reverse arcs)) is ∙ sym (reverse_push arcs (arc_between i j len))

pub added_fits : (i j len cap : ℕ) (a b : Option ℕ) (arcs : List Edge) → a ≡ Some len
    → length (with_added i j a b (reverse arcs)) ≤ cap → length arcs < cap
added_fits i j len cap a b arcs is room =
    let more = ap (length {A = Edge}) (added_is i j len a b arcs is) in
    omega (
      arith,
      more,
      length-reverse (arcs ++ arc_between i j len ∷ []),
      length-append arcs (arc_between i j len ∷ []),
      room,
    )

pub added_low : (arcs : List Edge) (i j len : ℕ) → len ≤ 2 ^ 31 → AreLow (reverse arcs)
    → AreLow (reverse (arcs ++ arc_between i j len ∷ []))
added_low arcs i j len few low = subst AreLow (sym (reverse_push arcs (arc_between i j len))) (few, low)

pub over_added : (i j : ℕ) (a b : Option ℕ) (arcs : List Edge) → IsOver arcs (with_added i j a b arcs)
over_added i j (Some len) b arcs = (arc_between i j len ∷ [], refl)
over_added i j None (Some len) arcs = (arc_between j i len ∷ [], refl)
over_added i j None None arcs = ([], refl)

pub over_over : (a b c : List Edge) → IsOver a b → IsOver b c → IsOver a c
over_over a b c one two = (two.0 ++ one.0, two.1 ∙ ap (λ (xs : List Edge). two.0 ++ xs) one.1 ∙ sym (append_assoc two.0 one.0 a))

fits_cap : (k n : ℕ) → k + n ≤ n * n → k ≤ n * (n - 1)
fits_cap k zero fits = omega arith
fits_cap k (suc n) fits =
    let e : suc n - 1 ≡ n = omega arith in
    subst (λ (m : ℕ). k ≤ suc n * m) (sym e) (omega arith)

module _ (inst : InstanceView) (ds news : List Decision) (valid : Valid inst) (fits : Fits inst news) (arcs : List Edge)
  where
    abbrev cap : ℕ
    cap = length inst.tasks * (length inst.tasks - 1)

    pub roomy : AreArcs inst news arcs → length arcs ≤ cap
    roomy are = fits_cap (length arcs) (length inst.tasks) (arcs_fit inst news valid fits arcs are.each are.few)

    module _ (g h : ℕ) (is : news ≡ (Order g h ∷ ds)) (able : IsOpen inst ds (Order g h))
        (low : g < length inst.tasks) (high : h < length inst.tasks) (are : AreArcs inst ds arcs) where
      pub order_after : AreArcs inst news (with_added g h (forced inst news g h) None arcs)
      order_after =
          let one = ordered_here_is inst ds g h able.1 in
          let done = order_arcs inst ds g h one.0 arcs valid able low high one.1 are in
          subst (λ (xs : List Decision). AreArcs inst xs (with_added g h (forced inst xs g h) None arcs)) (sym is)
          (subst (λ (o : Option ℕ). AreArcs inst (Order g h ∷ ds) (with_added g h o None arcs)) (sym one.1) done)

    module _ (t k : ℕ) (is : news ≡ (Assign t k ∷ ds)) (none : assigned ds t ≡ None) (task : t < length inst.tasks)
        (o : ℕ) (low : o < length inst.tasks) (so_far : IsAssigning inst ds t k arcs o) where
      pub assign_after : IsAssigning inst ds t k
          (with_added t o (added inst news t o) (added inst news o t) arcs) (o + 1)
      assign_after =
          subst (λ (xs : List Decision). IsAssigning inst ds t k
          (with_added t o (added inst xs t o) (added inst xs o t) arcs) (o + 1)) (sym is)
          (assign_step inst ds t k valid none (subst (Fits inst) is fits) task arcs o
          (added inst (Assign t k ∷ ds) t o) (added inst (Assign t k ∷ ds) o t) low refl refl so_far)

      pub assign_room : length (with_added t o (added inst news t o) (added inst news o t) arcs) ≤ cap
      assign_room =
          let done = assign_after in
          fits_cap _ (length inst.tasks)
          (arcs_fit inst (Assign t k ∷ ds) valid (subst (Fits inst) is fits) _ done.each done.few)

-- the arcs of no decision are few
pub opening_room : (inst : InstanceView) (arcs : List Edge) (pairs : ℕ) → Valid inst → AreOpening inst arcs pairs
    → length arcs ≤ length inst.tasks * (length inst.tasks - 1)
opening_room inst arcs pairs valid is =
    fits_cap (length arcs) (length inst.tasks) (arcs_fit inst [] valid tt arcs is.each is.few)

pub opening_next : (inst : InstanceView) (ds : List Decision) (arcs : List Edge) (i j : ℕ) → Valid inst → ds ≡ []
    → i < length inst.tasks → j < length inst.tasks → length inst.tasks ≤ 240
    → AreOpening inst arcs (240 * i + j)
    → AreOpening inst (with_added i j (forced inst ds i j) None arcs) (240 * i + (j + 1))
opening_next inst ds arcs i j valid none low high few is =
    subst (λ (xs : List Decision). AreOpening inst (with_added i j (forced inst xs i j) None arcs) (240 * i + (j + 1)))
    (sym none) (opening_step inst valid arcs i j (forced inst [] i j) low high few refl is)
