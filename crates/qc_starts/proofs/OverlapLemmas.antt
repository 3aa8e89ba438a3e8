-- Where cranes go as they like and all tasks have one, nothing is left to decide exactly where no two tasks overlap.
use Rattle.std.proofs.Common.{◌≡◌, ℕ, ◌+◌, ◌<◌, ◌≤◌, ◌⊎◌, inl, inr, List, length, Option, None, Some, MatchOption, ap, sym, ◌∙◌, arith, slice_index}
use Rattle.std.proofs.lemmas.Bool.{cases_lt}
use Rattle.qc_dist.specs.Node.{Node}
use Rattle.qc_model.specs.declared.decision.Decision.{Decision}
use Rattle.qc_model.specs.declared.pair.Pair.{Pair}
use Rattle.qc_model.specs.declared.turn.Turn.TheVariants.{OneWay, Free}
use Rattle.qc_model.specs.Clear.{AreClear, AreOpenClear}
use Rattle.qc_model.specs.Instance.{InstanceView, IsApart, Valid, ticks_of}
use Rattle.qc_model.specs.Nodes.{AreLeast, Fits, HasStarts, IsComplete, IsInReach, IsSettled, separation}
use Rattle.qc_model.proofs.CompleteNodes.{complete_where}
use Rattle.qc_model.proofs.TurnLemmas.{two_turns}
use Rattle.qc_starts.specs.declared.starts.Starts.TheInside.{Inside}
use Rattle.qc_starts.specs.Fields.{IsKept, node_of}
use Rattle.qc_starts.specs.Found.{starts_in}
use Rattle.qc_starts.specs.Overlaps.{IsOverlap, Overlaps}
use Rattle.qc_starts.specs.Overlapping.{HasOverlap, IsFound, OverlapsLater}
use Rattle.qc_starts.specs.Seen.{AreAssigned}
use Rattle.qc_starts.specs.Values.{start_at}
use Rattle.qc_starts.proofs.KeptLemmas.{home_rest, seen_back, seen_on}
use Rattle.qc_starts.proofs.RestLemmas.{least_of, start_in}

-- two tasks are clear of each other or not
clear_or : (inst : InstanceView) (starts : List ℕ) (i v j w : ℕ)
    → AreClear inst starts i v j w ⊎ (¬ AreClear inst starts i v j w)
clear_or inst starts i v j w =
    by (slice_index starts i + (ticks_of inst i + separation inst i v j w)) (slice_index starts j)
    (slice_index starts j + (ticks_of inst j + separation inst j w i v)) (slice_index starts i)
  where
    by : (a b c d : ℕ) → ((a ≤ b) ⊎ (c ≤ d)) ⊎ (¬ ((a ≤ b) ⊎ (c ≤ d)))
    by a b c d = elim (cases_lt b a) [
      | inr less ↦ inl (inl less)
      | inl more ↦ elim (cases_lt d c) [
        | inr less ↦ inl (inr less)
        | inl further ↦ inr (λ either. elim either [ inl h ↦ omega (arith, h, more) | inr h ↦ omega (arith, h, further) ])
      ]
    ]

-- ---- the same starts overlap alike

same_clear : (inst : InstanceView) (one two : List ℕ) (i v j w : ℕ) → slice_index one i ≡ slice_index two i
    → slice_index one j ≡ slice_index two j → AreClear inst one i v j w → AreClear inst two i v j w
same_clear inst one two i v j w e f (inl h) = inl (omega (arith, e, f, h))
same_clear inst one two i v j w e f (inr h) = inr (omega (arith, e, f, h))

module _ (inst : InstanceView) (ds : List Decision) (one two : List ℕ)
    (same : (j : ℕ) → j < length inst.tasks → slice_index one j ≡ slice_index two j) where
  pub same_overlaps : (i j : ℕ) → i < length inst.tasks → j < length inst.tasks → Overlaps inst ds one i j
      → Overlaps inst ds two i j
  same_overlaps i j low high o = record {
    conflict = o.conflict;
    unsettled = o.unsettled;
    first_crane = o.first_crane;
    second_crane = o.second_crane;
    of_first = o.of_first;
    of_second = o.of_second;
    near = λ clear.
        let e = same i low in
        let f = same j high in
        o.near (same_clear inst two one i o.first_crane j o.second_crane (omega (arith, e)) (omega (arith, f)) clear);
  }

  pub same_has : HasOverlap inst ds one → HasOverlap inst ds two
  same_has o = record {
    i = o.i;
    task = o.task;
    later = record {
      j = o.later.j;
      rising = o.later.rising;
      task = o.later.task;
      overlaps = same_overlaps o.i o.later.j o.task o.later.task o.later.overlaps;
    };
  }

-- ---- what overlaps with least starts

module _ (inst : InstanceView) (ds : List Decision) (begins : List ℕ) (valid : Valid inst) (fits : Fits inst ds)
    (reach : IsInReach inst ds) (as_free : inst.turn ≡ Free) (given : AreAssigned inst ds)
    (least : AreLeast inst ds begins) where
  all_clear : ¬ HasOverlap inst ds begins → AreOpenClear inst ds begins
  all_clear none = record {
    clear = λ i j v w rising high on_v on_w conflict unsettled.
        elim (clear_or inst begins i v j w) [
          | inl clear ↦ clear
          | inr near ↦
              let overlaps : Overlaps inst ds begins i j = record {
                conflict = conflict;
                unsettled = unsettled;
                first_crane = v;
                second_crane = w;
                of_first = on_v;
                of_second = on_w;
                near = near;
              } in
              let later : OverlapsLater inst ds begins i =
              record { j = j; rising = rising; task = high; overlaps = overlaps } in
              absurd (none (record { i = i; task = omega (arith, rising, high); later = later }))
        ];
  }

  pub clear_complete : ¬ HasOverlap inst ds begins → IsComplete inst ds
  clear_complete none = (complete_where inst ds begins valid fits reach as_free given least).1 (all_clear none)

  pub complete_clear : IsComplete inst ds → ¬ HasOverlap inst ds begins
  complete_clear is o =
      let all = (complete_where inst ds begins valid fits reach as_free given least).0 is in
      let later = o.later in
      let lap = later.overlaps in
      lap.near (all.clear o.i later.j lap.first_crane lap.second_crane later.rising later.task lap.of_first lap.of_second
      lap.conflict lap.unsettled)

-- where cranes go one way, the apart pairs alone are left to settle
pub complete_one_way : (inst : InstanceView) (ds : List Decision) → inst.turn ≡ OneWay → AreAssigned inst ds
    → ((i j : ℕ) → IsApart inst i j → IsSettled inst ds i j) → IsComplete inst ds
complete_one_way inst ds one given settled = record {
  tasks = given;
  pairs = λ _. settled;
  least = λ as_free. absurd (two_turns (sym one ∙ as_free));
}

-- ---- what is kept for a node

module _ (f : Inside) (node : Node) (is : IsKept f) (view : node_of f ≡ node) (as_free : node.inst.turn ≡ Free)
    (given : AreAssigned node.inst node.decisions) (starts : HasStarts node.inst node.decisions) where
  abbrev inst : InstanceView
  inst = f.network.inst

  abbrev ds : List Decision
  ds = f.network.decisions

  abbrev cells : List ℕ
  cells = f.spread.values.cells

  abbrev begins : List ℕ
  begins = starts_in inst cells

  least : AreLeast inst ds begins
  least = least_of inst ds cells (home_rest f node is view starts)

  turn : inst.turn ≡ Free
  turn = ap (λ (n : Node). n.inst.turn) view ∙ as_free

  all_given : AreAssigned inst ds
  all_given = seen_back f node is view AreAssigned given

  there : (j : ℕ) → j < length inst.tasks → slice_index begins j ≡ start_at cells j
  there j low = start_in inst cells j low

  back : (j : ℕ) → j < length inst.tasks → start_at cells j ≡ slice_index begins j
  back j low = sym (start_in inst cells j low)

  pub none_kept : ¬ HasOverlap inst ds cells → IsComplete node.inst node.decisions
  none_kept none =
      seen_on f node is view IsComplete
      (clear_complete inst ds begins is.sound.valid is.sound.fits is.in_reach turn all_given least
      (λ o. none (same_has inst ds begins cells there o)))

  pub complete_kept : IsComplete node.inst node.decisions → ¬ HasOverlap inst ds cells
  complete_kept complete o =
      complete_clear inst ds begins is.sound.valid is.sound.fits is.in_reach turn all_given least
      (seen_back f node is view IsComplete complete) (same_has inst ds cells begins back o)

  found_kept : (i j : ℕ) → IsFound inst ds cells i j → IsOverlap node.inst node.decisions i j
  found_kept i j found =
      let here : IsOverlap inst ds i j = record {
        rising = found.rising;
        starts = begins;
        least = least;
        overlaps = same_overlaps inst ds cells begins back i j (omega (arith, found.rising, found.task)) found.task found.overlaps;
      } in
      seen_on f node is view (λ (h : InstanceView) (es : List Decision). IsOverlap h es i j) here

  pub overlap_kept : (o : Option Pair)
      → MatchOption o (¬ HasOverlap inst ds cells) (λ pair. IsFound inst ds cells pair.first pair.second)
      → MatchOption o (IsComplete node.inst node.decisions) (λ pair. IsOverlap node.inst node.decisions pair.first pair.second)
  overlap_kept None none = none_kept none
  overlap_kept (Some pair) found = found_kept pair.first pair.second found
