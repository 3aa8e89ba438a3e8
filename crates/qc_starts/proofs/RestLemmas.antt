-- What reasons show: a ring, or the least starts of a node and a chain to its end.
use Rattle.std.proofs.Common.{◌≡◌, ℕ, ◌+◌, ◌*◌, ◌<◌, ◌≤◌, true, ◌&&◌, List, [], ◌∷◌, ◌++◌, length, Option, None, Some, IfSome, is_some, refl, sym, ap, ap₂, subst, ◌∙◌, leb, arith, nat_lt, option_and_then, option_map, slice_index}
use Rattle.std.proofs.lemmas.Bool.{and_from, cond-true, le-leb, lt-ltb}
use Rattle.std.proofs.lemmas.List.{get_or-take, length-take-le}
use Rattle.std.proofs.lemmas.Option.{same_Some}
use Rattle.std.specs.List.{AllByRecursion, list_all}
use Rattle.qc_model.specs.declared.decision.Decision.{Decision}
use Rattle.qc_model.specs.declared.limits.TheConstants.{MOST_TASKS}
use Rattle.qc_model.specs.declared.task.Task.{Task}
use Rattle.qc_model.specs.Instance.{InstanceView, Valid, ticks_of}
use Rattle.qc_model.specs.Leaves.{are_tasks, chain, chain_end, chain_ticks, is_ring, leaf_value}
use Rattle.qc_model.specs.Nodes.{AreLeast, Fits, HasStarts, IsNodeEnd, forced, head}
use Rattle.qc_model.specs.Rules.{last_end}
use Rattle.qc_model.proofs.CompleteNodes.{forced_ticks}
use Rattle.qc_model.proofs.Bounded.{last_end_le}
use Rattle.qc_model.proofs.NodeLemmas.{ends_by}
use Rattle.qc_model.proofs.OnRail.{ticks_bounded}
use Rattle.qc_num.specs.declared.bound.Bound.TheVariants.{Least, Never}
use Rattle.qc_starts.specs.Found.{IsLatest, end_by, end_in, starts_in, why_in}
use Rattle.qc_starts.specs.NodeArcs.{IsSound, NodeArcs}
use Rattle.qc_starts.specs.Seen.{IsCycle, IsNodeStart}
use Rattle.qc_starts.specs.Values.{AreRest, IsReason, raiser_at, start_at}
use Rattle.qc_starts.specs.Ways.{AreBacked, IsBackTo, IsLinked, IsRing, IsRising, IsWay, Why, last_of}
use Rattle.qc_starts.proofs.ArcLemmas.{arc_of, newest_in}
use Rattle.qc_starts.proofs.SelfLemmas.{self_free}
use Rattle.qc_starts.proofs.WayLemmas.{chain_exists, way_length}

-- the step from the task that raised another
pub record Link (inst : InstanceView) (ds : List Decision) (cells : List ℕ) (i j : ℕ) : Type 0 where
  pub task : i < length inst.tasks
  pub len : ℕ
  pub step : forced inst ds i j ≡ Some len
  pub some : 1 ≤ len
  pub below : start_at cells j ≤ start_at cells i + len

no_last : (tasks : List Task) (starts : List ℕ) → length tasks ≡ 0 → last_end tasks starts ≡ 0
no_last [] starts e = refl
no_last (t ∷ ts) starts e = absurd (omega arith)

all_tasks : (n count : ℕ) (js : List ℕ) → count ≡ n → AllByRecursion (λ j. j < count) js
    → list_all (λ j. nat_lt j n) js ≡ true
all_tasks n count [] same all = refl
all_tasks n count (j ∷ js) same all =
    let low = lt-ltb j n (omega (arith, all.0)) in
    and_from (nat_lt j n) (list_all (λ j. nat_lt j n) js) low (all_tasks n count js same all.1)

chain_step : (inst : InstanceView) (ds : List Decision) (i j len ticks : ℕ) (js : List ℕ)
    → forced inst ds i j ≡ Some len → chain_ticks inst ds j js ≡ Some ticks
    → chain_ticks inst ds i (j ∷ js) ≡ Some (len + ticks)
chain_step inst ds i j len ticks js step rest =
    ap₂ (λ (a b : Option ℕ). option_and_then (λ step. option_map (λ rest. step + rest) b) a) step rest

pub start_in : (inst : InstanceView) (cells : List ℕ) (j : ℕ) → j < length inst.tasks
    → slice_index (starts_in inst cells) j ≡ start_at cells j
start_in inst cells j low = get_or-take (length inst.tasks) cells j 0 low

pub starts_count : (inst : InstanceView) (cells : List ℕ) → length cells ≡ 2 * length inst.tasks
    → length (starts_in inst cells) ≡ length inst.tasks
starts_count inst cells count = length-take-le (length inst.tasks) cells (omega arith)

-- ---- reasons that are those of the node

module _ (inst : InstanceView) (ds : List Decision) (cells : List ℕ) (valid : Valid inst)
    (reasons : (j : ℕ) → j < length inst.tasks → IsReason inst ds cells j (raiser_at (length inst.tasks) cells j)) where
  abbrev why : Why
  why = why_in (length inst.tasks) cells

  abbrev AreTasks : List ℕ → Type 0
  AreTasks js = AllByRecursion (λ j. j < length inst.tasks) js

  link_by : (i j : ℕ) (o : Option ℕ) → IsReason inst ds cells j o → o ≡ Some i → Link inst ds cells i j
  link_by i j None w none = absurd (cc)
  link_by i j (Some h) w same =
      let here : Link inst ds cells h j = record {
        task = w.0;
        len = w.1;
        step = w.2;
        some =
            let least = subst (λ (o : Option ℕ). IfSome o (λ n. ticks_of inst h ≤ n)) w.2 (forced_ticks inst ds h j) in
            omega (arith, valid.tasks.ticks h w.0, least);
        below = w.3;
      } in
      subst (λ (g : ℕ). Link inst ds cells g j) (same_Some h i same) here

  pub link : (i j : ℕ) → j < length inst.tasks → why.of j ≡ Some i → Link inst ds cells i j
  link i j low back = link_by i j (raiser_at (length inst.tasks) cells j) (reasons j low) back

  pub backed_of : AreBacked why
  backed_of = λ j i low back. (link i j low back).task

  head_by : (j : ℕ) (o : Option ℕ) → IsReason inst ds cells j o → o ≡ None → start_at cells j ≤ head inst ds j
  head_by j None w e = w
  head_by j (Some i) w e = absurd (cc)

  way_tasks : (last i : ℕ) (js : List ℕ) → IsWay why last i js → are_tasks inst (i ∷ js) ≡ true
  way_tasks last i js way =
      and_from (leb (length (i ∷ js)) MOST_TASKS) (list_all (λ j. nat_lt j (length inst.tasks)) (i ∷ js))
      (le-leb (length (i ∷ js)) MOST_TASKS (omega (arith, way_length why last i js way, valid.tasks.count)))
      (all_tasks (length inst.tasks) (length inst.tasks) (i ∷ js) refl way.inside)

  -- ---- rings

  -- the ticks of a way and of one step more
  way_on : (i z len : ℕ) (js : List ℕ) → IsLinked why i js → AreTasks js
      → forced inst ds (last_of i js) z ≡ Some len
      → (ticks : ℕ) × (chain_ticks inst ds i (js ++ z ∷ []) ≡ Some ticks)
  way_on i z len [] linked all step =
      (len + ticks_of inst z, chain_step inst ds i z len (ticks_of inst z) [] step refl)
  way_on i z len (j ∷ js) linked all step =
      let by = link i j all.0 linked.0 in
      let rest = way_on j z len js linked.1 all.1 step in
      (by.len + rest.0, chain_step inst ds i j by.len rest.0 (js ++ z ∷ []) by.step rest.1)

  two : Fits inst ds → (i len : ℕ) (js : List ℕ) → forced inst ds (last_of i js) i ≡ Some len
      → 2 ≤ length (i ∷ js)
  two fits i len [] step = let none = self_free inst ds valid fits i in absurd (cc)
  two fits i len (j ∷ js) step = omega arith

  ring_is : Fits inst ds → (i : ℕ) (js : List ℕ) → IsRing why (i ∷ js)
      → (is_ring inst ds (i ∷ js) ≡ true) × (2 ≤ length (i ∷ js))
  ring_is fits i js found =
      let way = found.0 in
      let close = link (last_of i js) i way.inside.0 found.1 in
      let ticks = way_on i i close.len js way.linked way.inside.1 close.step in
      (ap is_some ticks.1, two fits i close.len js close.step)

  pub ring_of : Fits inst ds → (path : List ℕ) → IsRing why path
      → IsCycle inst ds path × (length path ≤ length inst.tasks)
  ring_of fits [] found = absurd found
  ring_of fits (i ∷ js) found =
      let is = ring_is fits i js found in
      let tasks = way_tasks (last_of i js) i js found.0 in
      let long = and_from (are_tasks inst (i ∷ js)) (leb 2 (length (i ∷ js))) tasks (le-leb 2 (length (i ∷ js)) is.1) in
      let all = are_tasks inst (i ∷ js) && leb 2 (length (i ∷ js)) && is_ring inst ds (i ∷ js) in (
        cond-true all (Some Never) None
            (and_from (are_tasks inst (i ∷ js) && leb 2 (length (i ∷ js))) (is_ring inst ds (i ∷ js)) long is.0),
        way_length why (last_of i js) i js found.0,
      )

-- ---- starts at rest

module _ (net : NodeArcs) (cells : List ℕ) (sound : IsSound net) (is : AreRest net.inst net.decisions cells) where
  abbrev inst : InstanceView
  inst = net.inst

  abbrev ds : List Decision
  ds = net.decisions

  valid : Valid net.inst
  valid = sound.valid

  low : (i j len : ℕ) → i < length inst.tasks → j < length inst.tasks → forced inst ds i j ≡ Some len
      → len ≤ 2147483648
  low i j len first second asks =
      let found = newest_in i j len net.arcs (sound.all.newest i j first second ∙ asks) in
      omega (arith, arc_of (λ arc. arc.len ≤ 2147483648) net.arcs sound.low found.0 found.1, found.4)

  abbrev ways : Why
  ways = why_in (length inst.tasks) cells

  pub rising_of : IsRising ways
  rising_of = λ i j under back.
      let by = link inst ds cells valid is.reasons i j under back in
      omega (arith, by.some, is.steps i j by.len by.task under by.step)

  -- a way's ticks lead from the start of its first task to the end of its last
  way_ticks : (i : ℕ) (js : List ℕ) → i < length inst.tasks → IsLinked ways i js
      → AllByRecursion (λ j. j < length inst.tasks) js
      → (ticks : ℕ) × (chain_ticks inst ds i js ≡ Some ticks)
      × (start_at cells i + ticks ≡ end_in inst cells (last_of i js))
      × (ticks ≤ 2147483648 * (length js + 1))
  way_ticks i [] under linked all =
      let bound = ticks_bounded inst valid i under in
      (ticks_of inst i, refl, refl, omega (arith, bound))
  way_ticks i (j ∷ js) under linked all =
      let by = link inst ds cells valid is.reasons i j all.0 linked.0 in
      let rest = way_ticks j js all.0 linked.1 all.1 in
      let kept = is.steps i j by.len by.task all.0 by.step in (
        by.len + rest.0,
        chain_step inst ds i j by.len rest.0 js by.step rest.1,
        omega (arith, rest.2, by.below, kept),
        omega (arith, rest.3, low i j by.len by.task all.0 by.step),
      )

  starts_at_head : (j : ℕ) → j < length inst.tasks → ways.of j ≡ None → start_at cells j ≡ head inst ds j
  starts_at_head j under none =
      let most = head_by inst ds cells valid is.reasons j (raiser_at (length inst.tasks) cells j) (is.reasons j under) none in
      omega (arith, most, is.heads j under)

  -- the chain to a task shows its end
  pub chain_shows : (last : ℕ) (path : List ℕ) → IsBackTo ways last path
      → (leaf_value inst ds (chain path) ≡ Some (Least (end_in inst cells last)))
      × (length path ≤ length inst.tasks) × (end_in inst cells last ≤ 600000000000)
  chain_shows last [] back = absurd back
  chain_shows last (i ∷ js) back =
      let way = back.0 in
      let ticks = way_ticks i js way.inside.0 way.linked way.inside.1 in
      let first = starts_at_head i way.inside.0 back.1 in
      let ends = ap (end_in inst cells) way.ends in
      let shown : head inst ds i + ticks.0 ≡ end_in inst cells last = omega (arith, first, ticks.2, ends) in
      let all = chain_end inst ds (i ∷ js) in
      let few = way_length ways last i js way in (
        cond-true (are_tasks inst (i ∷ js)) (option_map Least all) None (way_tasks inst ds cells valid is.reasons last i js way)
            ∙ ap (option_map Least) (ap (option_map (λ n. head inst ds i + n)) ticks.1 ∙ ap Some shown),
        few,
        omega (arith, shown, ticks.3, is.low i way.inside.0, few, valid.tasks.count),
      )

  pub soon_of : (j : ℕ) → j < length inst.tasks → end_in inst cells j ≤ 600000000000
  soon_of j under =
      let path = chain_exists ways (backed_of inst ds cells valid is.reasons) rising_of j under in
      (chain_shows j path.0 path.1).2

-- ---- what starts at rest answer

module _ (inst : InstanceView) (ds : List Decision) (cells : List ℕ) (rest : AreRest inst ds cells) where
  pub least_of : AreLeast inst ds (starts_in inst cells)
  least_of = record {
    meets = record {
      all_tasks = starts_count inst cells rest.count;
      heads = λ j low. omega (arith, start_in inst cells j low, rest.heads j low);
      steps = λ i j ticks low high is.
          omega (arith, start_in inst cells i low, start_in inst cells j high, rest.steps i j ticks low high is);
    };
    least = λ others meets j low. omega (arith, start_in inst cells j low, rest.least others meets j low);
  }

  pub has_starts : HasStarts inst ds
  has_starts = record { starts = starts_in inst cells; meets = least_of.meets }

  pub start_of : (j : ℕ) → j < length inst.tasks → IsNodeStart inst ds j (start_at cells j)
  start_of j low = record { starts = starts_in inst cells; least = least_of; is = sym (start_in inst cells j low) }

  -- the end of the task that ends last is the last end
  pub end_of : (last : Option ℕ) (end : ℕ) → IsLatest inst cells (length inst.tasks) last
      → end ≡ end_by inst cells last → IsNodeEnd inst ds end
  end_of None end latest is = record {
    starts = starts_in inst cells;
    least = least_of;
    ends = is ∙ sym (no_last inst.tasks (starts_in inst cells) latest);
  }
  end_of (Some last) end latest is =
      let count = starts_count inst cells rest.count in
      let most = last_end_le inst.tasks (starts_in inst cells) (end_in inst cells last)
      (λ k low _. omega (arith, start_in inst cells k low, latest.1 k low)) in
      let least = ends_by inst.tasks (starts_in inst cells) last count latest.0 in
      record {
        starts = starts_in inst cells;
        least = least_of;
        ends = omega (arith, is, most, least, start_in inst cells last latest.0);
      }
