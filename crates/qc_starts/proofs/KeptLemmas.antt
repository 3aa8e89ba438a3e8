-- What is kept for a node answers what is asked of it.
use Rattle.std.proofs.Common.{◌≡◌, ◌≢◌, ℕ, zero, suc, ◌+◌, ◌-◌, ◌*◌, ◌<◌, ◌≤◌, inl, inr, List, [], ◌∷◌, ◌++◌, length, get_or, drop, take, Option, None, Some, refl, sym, ap, subst, subst₂, ◌∙◌, length-append, arith, slice_index}
use Rattle.std.proofs.lemmas.Bool.{cases_eq, and_from}
use Rattle.std.proofs.lemmas.List.{get_or_default, length-take-le}
use Rattle.std.proofs.Math.Seq.{drop-append_seam, take-append_seam}
use Rattle.qc_dist.specs.Node.{IsOpen, Node}
use Rattle.qc_model.specs.declared.decision.Decision.{Decision}
use Rattle.qc_model.specs.declared.decision.Decision.TheVariants.{Assign, Order}
use Rattle.qc_model.specs.Instance.{InstanceView, IsApart, Valid, pair_of}
use Rattle.qc_model.proofs.NodeLemmas.{conflict_inside, before_found, pair_listed}
use Rattle.qc_model.specs.declared.pair.Pair.{Pair}
use Rattle.qc_model.specs.Nodes.{HasStarts, IsInReach, IsNodeEnd, IsSettled, Meets, forced, head, is_in_reach, reaches}
use Rattle.qc_starts.specs.Arcs.{IsArc}
use Rattle.qc_starts.specs.Fields.{AreNested, IsKept, IsStateOf, node_of}
use Rattle.qc_starts.specs.declared.starts.Starts.TheInside.{Inside}
use Rattle.qc_starts.specs.Found.{IsLast, IsLatest, end_by, end_in, why_in}
use Rattle.qc_starts.specs.declared.latest.Last.{Last}
use Rattle.qc_starts.specs.declared.step.Step.{Step}
use Rattle.qc_starts.specs.declared.step.Step.TheVariants.{Raised, Cycle}
use Rattle.qc_starts.specs.NodeArcs.{IsSound, NodeArcs}
use Rattle.qc_starts.specs.Roots.{root_of}
use Rattle.qc_starts.specs.Seen.{IsCycle, IsNodeStart, IsReached, IsStep, IsWhy, first_of}
use Rattle.qc_starts.specs.Spread.{IsBackAtRoot, IsLifted, IsRooting, IsSettledTo}
use Rattle.qc_starts.specs.Values.{AreRest, IsReason, raiser_at, start_at}
use Rattle.qc_starts.specs.Ways.{AreBacked, IsBackTo, IsEndless, IsRing, IsRising, Why}
use Rattle.qc_starts.proofs.Growth.{assigned_same, forced_grows, head_grows, head_same, meets_before, ordered_same}
use Rattle.qc_starts.proofs.RestLemmas.{backed_of, chain_shows, end_of, has_starts, link, ring_of, rising_of, soon_of, start_of}
use Rattle.qc_starts.proofs.ArcLemmas.{arc_of}
use Rattle.qc_starts.proofs.WayLemmas.{IsClosed, no_end}
use Rattle.qc_arena.specs.declared.trail.Note.{Note}
use Rattle.qc_arena.specs.Trails.{written_back}

-- ---- a raise that came back

module _ (net : NodeArcs) (root : ℕ) (olds cells : List ℕ) (is : IsBackAtRoot net root olds cells) where
  abbrev InRing : ℕ → Type 0
  InRing j = (j < length net.inst.tasks) × IsLifted root olds cells j

  back_by : (j : ℕ) → InRing j → (i : ℕ) × (raiser_at (length net.inst.tasks) cells j ≡ Some i) × InRing i
  back_by j has = elim (cases_eq j root) [
    | inl same ↦ (
      is.back.by,
      ap (raiser_at (length net.inst.tasks) cells) same ∙ is.back.is,
      (is.back.task, is.back.lifted),
    )
    | inr other ↦ elim has.1 [
      | inl same ↦ absurd (other same)
      | inr less ↦
          let by = is.raising.lifted j has.0 other less in
          (by.by, by.is, (by.task, by.lifted))
    ]
  ]

  pub closed_of : IsClosed (why_in (length net.inst.tasks) cells) InRing
  closed_of = record { back = back_by }

  pub endless_of : IsEndless (why_in (length net.inst.tasks) cells) root
  endless_of = λ path walked.
      no_end (why_in (length net.inst.tasks) cells) InRing closed_of root path (is.raising.inside, inl refl) walked

  descent : IsSound net → (starts : List ℕ) → Meets net.inst net.decisions starts → (fuel j : ℕ) → InRing j
      → slice_index starts j < fuel → ⊥
  descent sound starts meets zero j has less = omega arith
  descent sound starts meets (suc fuel) j has less =
      let by = back_by j has in
      let step = link net.inst net.decisions cells sound.valid is.raising.reasons by.0 j has.0 by.1 in
      let kept = meets.steps by.0 j step.len step.task has.0 step.step in
      descent sound starts meets fuel by.0 by.2 (omega (arith, kept, step.some))

  pub none_meet : IsSound net → HasStarts net.inst net.decisions → ⊥
  none_meet sound has =
      descent sound has.starts has.meets (slice_index has.starts root + 1) root (is.raising.inside, inl refl) (omega arith)

pub step_of : (net : NodeArcs) (cells : List ℕ) (root : ℕ) (step : Step) → IsSound net → IsStateOf net cells root step
    → IsStep net.inst net.decisions step
step_of net cells root Raised sound state = has_starts net.inst net.decisions cells state
step_of net cells root Cycle sound state = λ has. none_meet net root state.0 cells state.1 sound has

pub settled_step : (net : NodeArcs) (root : ℕ) (olds cells : List ℕ) (step : Step) → IsSound net
    → IsSettledTo net root olds cells step → IsStateOf net cells root step
settled_step net root olds cells Raised sound settled = settled
settled_step net root olds cells Cycle sound settled = (olds, settled)

pub rest_of : (net : NodeArcs) (cells : List ℕ) (root : ℕ) (step : Step) → IsSound net → IsStateOf net cells root step
    → HasStarts net.inst net.decisions → AreRest net.inst net.decisions cells
rest_of net cells root Raised sound state has = state
rest_of net cells root Cycle sound state has = absurd (none_meet net root state.0 cells state.1 sound has)

pub back_of : (net : NodeArcs) (cells : List ℕ) (root : ℕ) (step : Step) → IsSound net → IsStateOf net cells root step
    → (¬ HasStarts net.inst net.decisions) → (olds : List ℕ) × IsBackAtRoot net root olds cells
back_of net cells root Raised sound state none = absurd (none (has_starts net.inst net.decisions cells state))
back_of net cells root Cycle sound state none = state

pub state_reasons : (net : NodeArcs) (cells : List ℕ) (root : ℕ) (step : Step) → IsStateOf net cells root step
    → (j : ℕ) → j < length net.inst.tasks
    → IsReason net.inst net.decisions cells j (raiser_at (length net.inst.tasks) cells j)
state_reasons net cells root Raised state = state.reasons
state_reasons net cells root Cycle state = state.1.raising.reasons

-- the task behind which a decision raises starts is one of the instance
pub root_task : (inst : InstanceView) → Valid inst → (ds : List Decision) (d : Decision) → IsOpen inst ds d
    → root_of d < length inst.tasks
root_task inst v ds (Assign t k) open_ = open_.0
root_task inst v ds (Order g h) open_ = (conflict_inside inst v ds g h open_.0).1

-- ---- a decision begins

module _ (net : NodeArcs) (d : Decision) (ds : List Decision) (olds cells : List ℕ) (sound : IsSound net)
    (is : net.decisions ≡ (d ∷ ds)) (able : IsOpen net.inst ds d) (reach : IsReached net.inst d)
    (rest : AreRest net.inst ds cells)
    (soon : (j : ℕ) → j < length net.inst.tasks → start_at cells j ≤ 999999999999)
    (same : (j : ℕ) → j < length net.inst.tasks → start_at olds j ≡ start_at cells j) where
  head_kept : (e : Decision) (j : ℕ) → j ≢ root_of e → head net.inst (e ∷ ds) j ≡ head net.inst ds j
  head_kept (Assign t k) j other = head_same net.inst ds t k j other
  head_kept (Order g h) j other = refl

  forced_kept : (e : Decision) (i j : ℕ) → i ≢ root_of e → j ≢ root_of e
      → forced net.inst (e ∷ ds) i j ≡ forced net.inst ds i j
  forced_kept (Assign t k) i j first second = assigned_same net.inst ds t k i j first second
  forced_kept (Order g h) i j first second = ordered_same net.inst ds g h i j (λ e f. second (sym f))

  root_in : root_of d < length net.inst.tasks
  root_in = root_task net.inst sound.valid ds d able

  new_head : (j : ℕ) → j ≢ root_of d → head net.inst net.decisions j ≡ head net.inst ds j
  new_head j other = ap (λ (xs : List Decision). head net.inst xs j) is ∙ head_kept d j other

  reason_grows : (j : ℕ) (o : Option ℕ) → IsReason net.inst ds cells j o → IsReason net.inst net.decisions cells j o
  reason_grows j None w =
      let more = head_grows net.inst ds d able reach j in
      omega (arith, w, more, ap (λ (xs : List Decision). head net.inst xs j) is)
  reason_grows j (Some i) w =
      let more = forced_grows net.inst ds d able i j w.1 w.2 in
      (w.0, more.0, ap (λ (xs : List Decision). forced net.inst xs i j) is ∙ more.1, omega (arith, w.3, more.2))

  pub rooting_begins : IsRooting net (root_of d) olds cells
  rooting_begins = record {
    raising = record {
      count = rest.count;
      inside = root_in;
      heads = λ j low other. omega (arith, new_head j other, rest.heads j low);
      low = λ j low other. omega (arith, new_head j other, rest.low j low);
      reasons = λ j low. reason_grows j (raiser_at (length net.inst.tasks) cells j) (rest.reasons j low);
      least = λ others meets.
          let before = meets_before net.inst ds d able reach others (subst (λ (xs : List Decision). Meets net.inst xs others) is meets) in
          rest.least others before;
      rise = λ j low. omega (arith, same j low);
      lifted = λ j low other less. absurd (omega (arith, same j low));
      soon = λ j low. omega (arith, same j low, soon j low);
      bound = λ j low other. omega (arith, same j low);
      settled = λ arc in_ first second.
          let asks = arc_of (IsArc net.inst net.decisions) net.arcs sound.all.each arc in_ in
          let old = sym (forced_kept d arc.from arc.to first second)
          ∙ sym (ap (λ (xs : List Decision). forced net.inst xs arc.from arc.to) is) ∙ asks.is in
          let kept = rest.steps arc.from arc.to asks.ticks asks.from asks.to old in
          omega (arith, same arc.from asks.from, same arc.to asks.to, kept, asks.within);
    };
    still = λ j low other. sym (same j low);
    top = omega (arith, soon (root_of d) root_in);
  }

-- ---- notes of decisions

pub nested_count : (inst : InstanceView) (ds : List Decision) (marks : List ℕ) (notes : List Note) (cells : List ℕ)
    → AreNested inst ds marks notes cells → length marks ≡ length ds
nested_count inst [] [] notes cells are = refl
nested_count inst [] (m ∷ ms) notes cells are = absurd are
nested_count inst (d ∷ ds) [] notes cells are = absurd are
nested_count inst (d ∷ ds) (m ∷ ms) notes cells are =
    omega (arith, nested_count inst ds ms (take m notes) (written_back (drop m notes) cells) are.3)

pub nested_more : (inst : InstanceView) (d : Decision) (ds : List Decision) (marks : List ℕ) (notes since : List Note)
    (old new : List ℕ) → AreNested inst ds marks notes old → AreRest inst ds old
    → length notes ≤ 2 * length inst.tasks * length ds → written_back since new ≡ old
    → AreNested inst (d ∷ ds) (length notes ∷ marks) (notes ++ since) new
nested_more inst d ds marks notes since old new are rest few back =
    let past = drop-append_seam notes since in
    let cells = ap (λ (xs : List Note). written_back xs new) past ∙ back in (
      omega (arith, length-append notes since),
      few,
      subst (AreRest inst ds) (sym cells) rest,
      subst₂ (AreNested inst ds marks) (sym (take-append_seam notes since)) (sym cells) are,
    )

-- the node without its newest decision
pub record IsBackNode (inst : InstanceView) (ds : List Decision) (marks : List ℕ) (notes : List Note) (cells : List ℕ)
    : Type 0 where
  pub few : length notes ≤ 2 * length inst.tasks * length ds
  pub rest : AreRest inst ds cells
  pub nested : AreNested inst ds marks notes cells

pub nested_less : (inst : InstanceView) (ds : List Decision) (mark : ℕ) (marks : List ℕ) (notes : List Note)
    (cells : List ℕ) → AreNested inst ds (mark ∷ marks) notes cells
    → (mark ≤ length notes) × IsBackNode inst (drop 1 ds) marks (take mark notes) (written_back (drop mark notes) cells)
nested_less inst [] mark marks notes cells are = absurd are
nested_less inst (d ∷ ds) mark marks notes cells are = (
  are.0,
  record {
    few = omega (arith, length-take-le mark notes are.0, are.1);
    rest = are.2;
    nested = are.3;
  },
)

pub in_reach_more : (inst : InstanceView) (d : Decision) (ds : List Decision) → IsReached inst d → IsInReach inst ds
    → IsInReach inst (d ∷ ds)
in_reach_more inst (Assign j k) ds reach all = and_from (reaches inst j k) (is_in_reach inst ds) reach all
in_reach_more inst (Order i j) ds reach all = all

pub rooting_of : (net : NodeArcs) (inst : InstanceView) (d : Decision) (ds : List Decision) (root : ℕ)
    (olds before cells : List ℕ) → IsSound net → net.inst ≡ inst → net.decisions ≡ (d ∷ ds) → IsOpen inst ds d
    → IsReached inst d → AreRest inst ds before
    → ((j : ℕ) → j < length inst.tasks → start_at before j ≤ 999999999999) → root ≡ root_of d → cells ≡ before
    → length olds ≡ length inst.tasks → ((j : ℕ) → j < length olds → start_at olds j ≡ start_at before j)
    → IsRooting net root olds cells
rooting_of net inst d ds root olds before cells sound same is able reach rest soon root_is cells_are size starts =
    subst₂ (λ (r : ℕ) (xs : List ℕ). IsRooting net r olds xs) (sym root_is) (sym cells_are)
    (rooting_begins net d ds olds before sound is
    (subst (λ (i : InstanceView). IsOpen i ds d) (sym same) able)
    (subst (λ (i : InstanceView). IsReached i d) (sym same) reach)
    (subst (λ (i : InstanceView). AreRest i ds before) (sym same) rest)
    (λ j low. soon j (omega (arith, ap (λ (i : InstanceView). length i.tasks) same)))
    (λ j low. starts j (omega (arith, size, ap (λ (i : InstanceView). length i.tasks) same))))

pub first_here : {A : Type 0} (m k : ℕ) (x : A) (xs : List A) → length xs ≡ k → m ≡ k → first_of m (x ∷ xs) ≡ xs
first_here m k x xs size same =
    let e : length (x ∷ xs) - m ≡ 1 = omega arith in ap (λ (n : ℕ). drop n (x ∷ xs)) e

-- ---- the fields of a node

module _ (f : Inside) (node : Node) (is : IsKept f) (view : node_of f ≡ node) where
  pub seen_back : (P : InstanceView → List Decision → Type 0) → P node.inst node.decisions → P f.network.inst f.network.decisions
  seen_back P holds = subst (λ (n : Node). P n.inst n.decisions) (sym view) holds

  pub seen_on : (P : InstanceView → List Decision → Type 0) → P f.network.inst f.network.decisions → P node.inst node.decisions
  seen_on P holds = subst (λ (n : Node). P n.inst n.decisions) view holds

  pub tasks_are : length f.network.inst.tasks ≡ length node.inst.tasks
  tasks_are = ap (λ (n : Node). length n.inst.tasks) view

  pub home_rest : HasStarts node.inst node.decisions → AreRest f.network.inst f.network.decisions f.spread.values.cells
  home_rest starts = rest_of f.network f.spread.values.cells f.root f.step is.sound is.state (seen_back HasStarts starts)

  pub rest_kept : HasStarts node.inst node.decisions → AreRest node.inst node.decisions f.spread.values.cells
  rest_kept starts = seen_on (λ i ds. AreRest i ds f.spread.values.cells) (home_rest starts)

  pub early_kept : HasStarts node.inst node.decisions → (j : ℕ) → j < length f.network.inst.tasks
      → start_at f.spread.values.cells j ≤ 600000000000
  early_kept starts j low = omega (arith, soon_of f.network f.spread.values.cells is.sound (home_rest starts) j low)

  pub soon_kept : HasStarts node.inst node.decisions → (j : ℕ) → j < length f.network.inst.tasks
      → start_at f.spread.values.cells j ≤ 999999999999
  soon_kept starts j low = omega (arith, early_kept starts j low)

  pub start_kept : HasStarts node.inst node.decisions → (j : ℕ) → j < length node.inst.tasks
      → IsNodeStart node.inst node.decisions j (start_at f.spread.values.cells j)
  start_kept starts j low = start_of node.inst node.decisions f.spread.values.cells (rest_kept starts) j low

  pub step_kept : IsStep node.inst node.decisions f.step
  step_kept = seen_on (λ i ds. IsStep i ds f.step) (step_of f.network f.spread.values.cells f.root f.step is.sound is.state)

  -- the task that ends last

  latest_low : (last : Option ℕ) → IsLatest f.network.inst f.spread.values.cells (length f.network.inst.tasks) last
      → IsLatest node.inst f.spread.values.cells (length node.inst.tasks) last
  latest_low last latest =
      subst (λ (n : Node). IsLatest n.inst f.spread.values.cells (length n.inst.tasks) last) view latest

  pub end_kept : HasStarts node.inst node.decisions → (last : Last)
      → IsLast f.network.inst f.spread.values.cells (length f.network.inst.tasks) last
      → IsNodeEnd node.inst node.decisions last.end
  end_kept starts last is =
      end_of node.inst node.decisions f.spread.values.cells (rest_kept starts) last.task last.end
      (latest_low last.task is.latest)
      (subst (λ (n : Node). last.end ≡ end_by n.inst f.spread.values.cells last.task) view is.end)

  end_low : HasStarts node.inst node.decisions → (last : Option ℕ) → IsLatest f.network.inst f.spread.values.cells (length f.network.inst.tasks) last
      → end_by f.network.inst f.spread.values.cells last ≤ 999999999999
  end_low starts None latest = omega arith
  end_low starts (Some j) latest = omega (arith, soon_of f.network f.spread.values.cells is.sound (home_rest starts) j latest.0)

  pub end_soon : HasStarts node.inst node.decisions → (last : Last)
      → IsLast f.network.inst f.spread.values.cells (length f.network.inst.tasks) last → last.end ≤ 999999999999
  end_soon starts last is = omega (arith, is.end, end_low starts last.task is.latest)

  -- ways back

  abbrev count : ℕ
  count = length f.network.inst.tasks

  why_moves : (P : Why → Type 0) → P (why_in (length f.network.inst.tasks) f.spread.values.cells)
      → (k : ℕ) → k ≡ count → P (why_in k f.spread.values.cells)
  why_moves P holds k same =
      subst (λ (n : ℕ). P (why_in n f.spread.values.cells)) (sym same) holds

  why_back : (P : Why → Type 0) → (k : ℕ) → k ≡ count → P (why_in k f.spread.values.cells)
      → P (why_in (length f.network.inst.tasks) f.spread.values.cells)
  why_back P k same holds =
      subst (λ (n : ℕ). P (why_in n f.spread.values.cells)) same holds

  pub rises_kept : HasStarts node.inst node.decisions → (k : ℕ) → k ≡ count → IsRising (why_in k f.spread.values.cells)
  rises_kept starts k same =
      why_moves IsRising (rising_of f.network f.spread.values.cells is.sound (home_rest starts)) k same

  pub backed_kept : (k : ℕ) → k ≡ count → AreBacked (why_in k f.spread.values.cells)
  backed_kept k same =
      why_moves AreBacked (backed_of f.network.inst f.network.decisions f.spread.values.cells is.sound.valid
      (state_reasons f.network f.spread.values.cells f.root f.step is.state)) k same

  -- without tasks no chain is needed
  pub no_why_kept : HasStarts node.inst node.decisions → (o : Option ℕ) → o ≡ None
      → IsLatest f.network.inst f.spread.values.cells count o → (path : List ℕ) → path ≡ []
      → IsWhy node.inst node.decisions path
  no_why_kept starts o none latest path empty =
      let net = f.network in
      let cells = f.spread.values.cells in
      let no = subst (IsLatest net.inst cells count) none latest in
      let why : IsWhy net.inst net.decisions [] = record {
        end = 0;
        ends = end_of net.inst net.decisions cells (home_rest starts) None 0 no refl;
        chain = refl;
      } in
      seen_on (λ i ds. IsWhy i ds path) (subst (IsWhy net.inst net.decisions) (sym empty) why)

  pub why_kept : HasStarts node.inst node.decisions → (o : Option ℕ) (last : ℕ) → o ≡ Some last
      → IsLatest f.network.inst f.spread.values.cells count o → (k : ℕ) → k ≡ count → (path : List ℕ)
      → IsBackTo (why_in k f.spread.values.cells) last path
      → IsWhy node.inst node.decisions path × (length path ≤ length node.inst.tasks)
  why_kept starts o last some found k same path back =
      let net = f.network in
      let cells = f.spread.values.cells in
      let latest = subst (IsLatest net.inst cells count) some found in
      let rest = home_rest starts in
      let shown = chain_shows net cells is.sound rest last path (why_back (λ why. IsBackTo why last path) k same back) in
      let end = end_of net.inst net.decisions cells rest (Some last) (end_in net.inst cells last) latest refl in
      let why : IsWhy net.inst net.decisions path = record { end = end_in net.inst cells last; ends = end; chain = shown.0 } in (
        seen_on (λ i ds. IsWhy i ds path) why,
        omega (arith, shown.1, tasks_are),
      )

  -- a ring

  ring_back : (¬ HasStarts node.inst node.decisions) → (olds : List ℕ) × IsBackAtRoot f.network f.root olds f.spread.values.cells
  ring_back none =
      back_of f.network f.spread.values.cells f.root f.step is.sound is.state (λ has. none (seen_on HasStarts has))

  pub root_kept : (¬ HasStarts node.inst node.decisions) → f.root < count
  root_kept none = omega (arith, (ring_back none).1.raising.inside)

  pub endless_kept : (¬ HasStarts node.inst node.decisions) → (k : ℕ) → k ≡ count
      → IsEndless (why_in k f.spread.values.cells) f.root
  endless_kept none k same =
      let back = ring_back none in
      why_moves (λ why. IsEndless why f.root) (endless_of f.network f.root back.0 f.spread.values.cells back.1) k same

  pub ring_kept : (k : ℕ) → k ≡ count → (path : List ℕ) → IsRing (why_in k f.spread.values.cells) path
      → IsCycle node.inst node.decisions path × (length path ≤ length node.inst.tasks)
  ring_kept k same path ring =
      let net = f.network in
      let found = ring_of net.inst net.decisions f.spread.values.cells is.sound.valid
      (state_reasons net f.spread.values.cells f.root f.step is.state) is.sound.fits path
      (why_back (λ why. IsRing why path) k same ring) in
      (seen_on (λ i ds. IsCycle i ds path) found.0, omega (arith, found.1, tasks_are))

pub drop_none : {A : Type 0} (m : ℕ) (xs : List A) → drop (m - m) xs ≡ xs
drop_none m xs = let e : m - m ≡ 0 = omega arith in ap (λ (k : ℕ). drop k xs) e

-- ---- apart pairs

pub apart_at : (inst : InstanceView) (k : ℕ) (p : Pair) → k < length inst.apart
    → IsApart inst (get_or inst.apart k p).first (get_or inst.apart k p).second
apart_at inst k p low = pair_listed _ _ inst.apart (k, low, get_or_default inst.apart k _ p low)

abbrev pub IsSettledPair : InstanceView → List Decision → Pair → Type 0
IsSettledPair inst ds pair = IsSettled inst ds pair.first pair.second

pub pairs_settled : (inst : InstanceView) (ds : List Decision)
    → ((k : ℕ) → k < length inst.apart → IsSettledPair inst ds (get_or inst.apart k (pair_of 0 0)))
    → (i j : ℕ) → IsApart inst i j → IsSettled inst ds i j
pairs_settled inst ds settled i j apart =
    let at = before_found i j inst.apart apart in
    subst (IsSettledPair inst ds) (get_or_default inst.apart at.0 (pair_of 0 0) (pair_of i j) at.1 ∙ at.2) (settled at.0 at.1)
