-- What the lines of nodes come to.
use Rattle.std.proofs.Common.{◌≡◌, ℕ, ◌+◌, ◌-◌, ◌≤◌, Bool, true, false, not, ◌&&◌, nat_lt, List, [], ◌∷◌, ◌++◌, length, map, drop, Option, None, Some, is_some, Result, Ok, Err, refl, sym, ap, ◌∙◌, append_assoc, arith, is_none, nat_le, ok_or, option_map, if◌then◌else◌}
use Rattle.std.proofs.lemmas.Simd.{map-map}
use Rattle.std.specs.List.{list_all}
use Rattle.std.proofs.lemmas.Bool.{and_from, and_parts, false_from_ne_true, le-leb, leb-true, lt-ltb, ltb-true, true≢false}
use Rattle.std.proofs.lemmas.List.{length-map, map-append}
use Rattle.qc_num.specs.declared.bound.Bound.{Bound}
use Rattle.qc_num.specs.declared.bound.Bound.TheVariants.{Least, Never}
use Rattle.qc_num.specs.Bounds.{lesser}
use Rattle.qc_num.specs.Reading.{◌>>=◌, require}
use Rattle.qc_num.proofs.ReadingLemmas.{passed}
use Rattle.qc_close.specs.Model.{Decision, Direction, most_branchings, most_tasks, InstanceView, IsSettled, assigned, Leaf, are_tasks, chain, chain_end, is_ring, leaf_value, packed, packed_end, ring, crane_numbers, is_settled}
use Rattle.qc_model.specs.declared.decision.Decision.TheVariants as decide
use Rattle.qc_tree.specs.declared.line.Line.{Line}
use Rattle.qc_tree.specs.declared.line.Line.TheVariants.{Chain, Clash, Ring}
use Rattle.qc_tree.specs.declared.line.Line.TheVariants as line
use Rattle.qc_tree.specs.declared.fault.TreeKind.{TreeKind}
use Rattle.qc_tree.specs.declared.fault.TreeKind.TheVariants as kind
use Rattle.qc_replay.specs.declared.node.Tally.{Tally}
use Rattle.qc_dist.specs.Children.{behind}
use Rattle.qc_replay.specs.Part.{IsJudged, Shows, Standing, nodes, with_branching, within}
use Rattle.qc_replay.specs.Walk.{Coming, Reading, at_node, branched_to, came, ended_by, from_file, is_number, may_order, no_order, node, on_pair, on_task}

pub number_inside : (inst : InstanceView) (i : ℕ) → is_number inst i ≡ true → nat_lt (i - 1) (length inst.tasks) ≡ true
number_inside inst i is =
    let parts = and_parts (nat_lt 0 i) (nat_le i (length inst.tasks)) is in
    lt-ltb (i - 1) (length inst.tasks)
    (omega (arith, ltb-true 0 i parts.0, leb-true i (length inst.tasks) parts.1))

all_inside : (inst : InstanceView) (list : List ℕ) → list_all (is_number inst) list ≡ true
    → list_all (λ j. nat_lt j (length inst.tasks)) (from_file list) ≡ true
all_inside inst [] all = refl
all_inside inst (i ∷ is) all =
    let parts = and_parts (is_number inst i) (list_all (is_number inst) is) all in
    and_from _ _ (number_inside inst i parts.0) (all_inside inst is parts.1)

-- numbers of tasks are tasks
pub are_tasks_of : (inst : InstanceView) (list : List ℕ) → list_all (is_number inst) list ≡ true
    → length list ≤ most_tasks → are_tasks inst (from_file list) ≡ true
are_tasks_of inst list all few =
    and_from _ _ (le-leb (length (from_file list)) most_tasks (omega (arith, length-map list (λ i. i - 1), few)))
    (all_inside inst list all)

-- a leaf of a line, by its value
shown_leaf : (inst : InstanceView) (ds : List Decision) (leaf : Leaf) (fault : TreeKind)
    (result : Result Bound TreeKind) → ok_or (leaf_value inst ds leaf) fault ≡ result
    → (r : Reading) → ended_by r fault (leaf_value inst ds leaf)
    ≡ (result >>= λ value. Ok (record (came r) { bound = lesser r.bound value }))
shown_leaf inst ds leaf fault result is r =
    ap (λ result. result >>= λ value. Ok (record (came r) { bound = lesser r.bound value })) is

module _ (inst : InstanceView) (ds : List Decision) (list : List ℕ)
    (all : list_all (is_number inst) list ≡ true) (few : length list ≤ most_tasks) where
  -- the end of a chain, or none
  pub chain_shows : (end : Option ℕ) → end ≡ chain_end inst ds (from_file list)
      → Shows inst ds Chain list (ok_or (option_map Least end) kind.NotForced)
  chain_shows end is way r =
      ap (λ b. require b kind.UnknownTask >>= λ _. ended_by r kind.NotForced (leaf_value inst ds (chain (from_file list)))) all
      ∙ shown_leaf inst ds (chain (from_file list)) kind.NotForced _
      (ap (λ b. ok_or (if b then option_map Least (chain_end inst ds (from_file list)) else None) kind.NotForced)
      (are_tasks_of inst list all few)
      ∙ ap (λ o. ok_or (option_map Least o) kind.NotForced) (sym is)) r

  -- a ring, or none
  pub ring_shows : 2 ≤ length list → (turns : Bool) → turns ≡ is_ring inst ds (from_file list)
      → Shows inst ds Ring list (ok_or (if turns then Some Never else None) kind.NotCycle)
  ring_shows some turns is way r =
      ap (λ b. require b kind.UnknownTask >>= λ _. ended_by r kind.NotCycle (leaf_value inst ds (ring (from_file list)))) all
      ∙ shown_leaf inst ds (ring (from_file list)) kind.NotCycle _
      (ap (λ b. ok_or (if b then Some Never else None) kind.NotCycle) tests) r
    where
      long : nat_le 2 (length (from_file list)) ≡ true
      long = le-leb 2 (length (from_file list)) (omega (arith, length-map list (λ i. i - 1), some))

      tests : (are_tasks inst (from_file list) && nat_le 2 (length (from_file list)) && is_ring inst ds (from_file list)) ≡ turns
      tests =
          ap (λ b. b && nat_le 2 (length (from_file list)) && is_ring inst ds (from_file list)) (are_tasks_of inst list all few)
          ∙ ap (λ b. true && b && is_ring inst ds (from_file list)) long ∙ sym is

-- the end of packed tasks, or none
pub clash_shows : (inst : InstanceView) (ds : List Decision) (list : List ℕ)
    → list_all (is_number inst) list ≡ true
    → (end : Option ℕ) → end ≡ packed_end inst ds (from_file list)
    → Shows inst ds Clash list (ok_or (option_map Least end) kind.NotClash)
clash_shows inst ds list all end is way r =
    ap (λ b. require b kind.UnknownTask >>= λ _. ended_by r kind.NotClash (leaf_value inst ds (packed (from_file list)))) all
    ∙ shown_leaf inst ds (packed (from_file list)) kind.NotClash _
    (ap (λ o. ok_or (option_map Least o) kind.NotClash) (sym is)) r

-- ---- numbers and tests

some_not_none : (o : Option ℕ) → is_some o ≡ true → is_none o ≡ false
some_not_none None some = absurd (true≢false (sym some))
some_not_none (Some n) some = refl

pub none_of : (o : Option ℕ) → is_some o ≡ false → o ≡ None
none_of None none = refl
none_of (Some n) none = absurd (true≢false none)

-- a branching that was counted
pub branching_made : (t now : Tally) → with_branching t ≡ Ok now
    → (nat_lt t.branched most_branchings ≡ true) × (record t { branched = t.branched + 1 } ≡ now)
branching_made t now is =
    passed (nat_lt t.branched most_branchings) (record t { branched = t.branched + 1 }) now kind.Branchings is

-- a branching more than a tree may have
branching_refused : (t : Tally) (fault : TreeKind) → with_branching t ≡ Err fault
    → (nat_lt t.branched most_branchings ≡ false) × (kind.Branchings ≡ fault)
branching_refused t fault is =
    refused (nat_lt t.branched most_branchings) (record t { branched = t.branched + 1 }) is
  where
    refused : (test : Bool) (now : Tally)
        → (if test then Ok now else Err kind.Branchings) ≡ Err fault → (test ≡ false) × (kind.Branchings ≡ fault)
    refused true now e = cc
    refused false now e = (refl, cc)

-- ---- a line of a part, judged

module _ (before after : Standing) (live : before.live ≡ true) (tally : Tally) where
  pub nodes_here : nodes before ≡ before.decisions ∷ drop 1 (nodes before)
  nodes_here = ap (λ b. if b then before.decisions ∷ behind before.inst before.decisions else []) live
      ∙ ap (λ b. before.decisions ∷ drop 1 (if b then before.decisions ∷ behind before.inst before.decisions else [])) (sym live)

  module _ (way : Direction) (more : List Coming) where
    abbrev here : Reading
    here = within way before more tally

    -- what comes behind the node
    abbrev past : List Coming
    past = map (node way) (drop 1 (nodes before)) ++ more

    past_is : drop 1 here.coming ≡ past
    past_is = ap (λ ns. drop 1 (map (node way) ns ++ more)) nodes_here

    -- these nodes in its place
    with_nodes : (made : List (List Decision)) → nodes after ≡ made ++ drop 1 (nodes before)
        → map (node way) made ++ drop 1 here.coming ≡ map (node way) (nodes after) ++ more
    with_nodes made is =
        ap (λ cs. map (node way) made ++ cs) past_is
        ∙ sym (append_assoc (map (node way) made) (map (node way) (drop 1 (nodes before))) more)
        ∙ ap (λ cs. cs ++ more) (sym (map-append (node way) made (drop 1 (nodes before))))
        ∙ ap (λ ns. map (node way) ns ++ more) (sym is)

    branched_on : (now : Tally) (made : List (List Decision)) → with_branching tally ≡ Ok now
        → nodes after ≡ made ++ drop 1 (nodes before)
        → branched_to here (map (node way) made) ≡ Ok (within way after more now)
    branched_on now made counted is =
        let one = branching_made tally now counted in
        ap (λ b. require b kind.Branchings >>= λ _. Ok (record here { coming = map (node way) made ++ drop 1 here.coming; branched = tally.branched + 1 })) one.0
        ∙ ap (λ cs. Ok (record here { coming = cs; branched = tally.branched + 1 })) (with_nodes made is)
        ∙ ap (λ t. Ok (within way after more t)) one.1

    too_many : (made : List Coming) (fault : TreeKind) → with_branching tally ≡ Err fault
        → (result : Result Tally TreeKind) → result ≡ Err fault
        → branched_to here made ≡ (result >>= λ now. Ok (within way after more now))
    too_many made fault counted result is =
        let one = branching_refused tally fault counted in
        ap (λ b. require b kind.Branchings >>= λ _. Ok (record here { coming = made ++ drop 1 here.coming; branched = tally.branched + 1 })) one.0
        ∙ ap Err one.1
        ∙ sym (ap (λ (r : Result Tally TreeKind). r >>= λ now. Ok (within way after more now)) is)

    -- a leaf in its place
    came_is : (now : Tally) → nodes after ≡ drop 1 (nodes before)
        → record (came here) { branched = now.branched; bound = now.bound } ≡ within way after more now
    came_is now is =
        ap (λ cs. record here { coming = cs; branched = now.branched; bound = now.bound })
        (past_is ∙ ap (λ ns. map (node way) ns ++ more) (sym is))

  -- a leaf of this value
  pub leaf_judged : (line : Line) (list : List ℕ) (value : Bound)
      → Shows before.inst before.decisions line list (Ok value) → nodes after ≡ drop 1 (nodes before)
      → IsJudged before tally line list after (Ok (record tally { bound = lesser tally.bound value }))
  leaf_judged line list value shows is way more =
      shows way (here way more)
      ∙ ap Ok (came_is way more (record tally { bound = lesser tally.bound value }) is)

  -- a leaf that doesn't hold
  pub leaf_refused : (line : Line) (list : List ℕ) (fault : TreeKind)
      → Shows before.inst before.decisions line list (Err fault)
      → IsJudged before tally line list after (Err fault)
  leaf_refused line list fault shows way more = shows way (here way more)

  module _ (i : ℕ) (list : List ℕ) (number : is_number before.inst i ≡ true) where
    task_line : (way : Direction) (more : List Coming)
        → at_node before.inst way before.decisions (here way more) (line.Assign i) list
        ≡ on_task before.inst way before.decisions (here way more) (i - 1)
    task_line way more =
        ap (λ b. require b kind.UnknownTask >>= λ _. on_task before.inst way before.decisions (here way more) (i - 1)) number

    -- a branching on a task
    pub task_judged : (now : Tally) → assigned before.decisions (i - 1) ≡ None → with_branching tally ≡ Ok now
        → nodes after ≡ map (λ k. decide.Assign (i - 1) k ∷ before.decisions) (crane_numbers before.inst) ++ drop 1 (nodes before)
        → IsJudged before tally (line.Assign i) list after (Ok now)
    task_judged now none counted is way more =
        let ds = before.decisions in
        let children = map (λ k. node way (decide.Assign (i - 1) k ∷ ds)) (crane_numbers before.inst) in
        task_line way more
        ∙ ap (λ o. require (is_none o) kind.Decided >>= λ _. branched_to (here way more) children) none
        ∙ ap (branched_to (here way more)) (sym (map-map (node way) (λ k. decide.Assign (i - 1) k ∷ ds) (crane_numbers before.inst)))
        ∙ branched_on way more now _ counted is

    -- a task that has its crane
    pub task_decided : is_some (assigned before.decisions (i - 1)) ≡ true
        → IsJudged before tally (line.Assign i) list after (Err kind.Decided)
    task_decided some way more =
        let ds = before.decisions in
        let children = map (λ k. node way (decide.Assign (i - 1) k ∷ ds)) (crane_numbers before.inst) in
        task_line way more
        ∙ ap (λ b. require b kind.Decided >>= λ _. branched_to (here way more) children)
        (some_not_none (assigned ds (i - 1)) some)

    pub task_too_many : (fault : TreeKind) → assigned before.decisions (i - 1) ≡ None → with_branching tally ≡ Err fault
        → (result : Result Tally TreeKind) → result ≡ Err fault
        → IsJudged before tally (line.Assign i) list after result
    task_too_many fault none counted result is way more =
        let ds = before.decisions in
        let children = map (λ k. node way (decide.Assign (i - 1) k ∷ ds)) (crane_numbers before.inst) in
        task_line way more
        ∙ ap (λ o. require (is_none o) kind.Decided >>= λ _. branched_to (here way more) children) none
        ∙ too_many way more children fault counted result is

  module _ (i j : ℕ) (list : List ℕ) (numbers : (is_number before.inst i && is_number before.inst j) ≡ true) where
    pair_line : (way : Direction) (more : List Coming)
        → at_node before.inst way before.decisions (here way more) (line.Order i j) list
        ≡ on_pair before.inst way before.decisions (here way more) (i - 1) (j - 1)
    pair_line way more =
        ap (λ b. require b kind.UnknownTask >>= λ _. on_pair before.inst way before.decisions (here way more) (i - 1) (j - 1)) numbers

    -- a branching on a pair that may not be ordered
    pub pair_barred : may_order before.inst.turn before.inst before.decisions (i - 1) (j - 1) ≡ false
        → IsJudged before tally (line.Order i j) list after (Err (no_order before.inst.turn))
    pair_barred barred way more =
        pair_line way more
        ∙ ap (λ b. require b (no_order before.inst.turn) >>= λ _. (require (not (is_settled before.inst before.decisions (i - 1) (j - 1))) kind.Decided
        >>= λ _. branched_to (here way more)
        (node way (decide.Order (i - 1) (j - 1) ∷ before.decisions) ∷ node way (decide.Order (j - 1) (i - 1) ∷ before.decisions) ∷ []))) barred

    module _ (may : may_order before.inst.turn before.inst before.decisions (i - 1) (j - 1) ≡ true) where
      abbrev orders : List (List Decision)
      orders =
          (decide.Order (i - 1) (j - 1) ∷ before.decisions) ∷ (decide.Order (j - 1) (i - 1) ∷ before.decisions) ∷ []

      tested_pair : (way : Direction) (more : List Coming)
          → at_node before.inst way before.decisions (here way more) (line.Order i j) list
          ≡ (require (not (is_settled before.inst before.decisions (i - 1) (j - 1))) kind.Decided
          >>= λ _. branched_to (here way more) (map (node way) orders))
      tested_pair way more =
          pair_line way more
          ∙ ap (λ b. require b (no_order before.inst.turn) >>= λ _. (require (not (is_settled before.inst before.decisions (i - 1) (j - 1))) kind.Decided
          >>= λ _. branched_to (here way more) (map (node way) orders))) may

      -- a branching on a pair
      pub pair_judged : (now : Tally) → (¬ IsSettled before.inst before.decisions (i - 1) (j - 1)) → with_branching tally ≡ Ok now
          → nodes after ≡ orders ++ drop 1 (nodes before)
          → IsJudged before tally (line.Order i j) list after (Ok now)
      pair_judged now un counted is way more =
          tested_pair way more
          ∙ ap (λ b. require b kind.Decided >>= λ _. branched_to (here way more) (map (node way) orders))
          (ap not (false_from_ne_true (is_settled before.inst before.decisions (i - 1) (j - 1)) un))
          ∙ branched_on way more now orders counted is

      -- a pair that is decided
      pub pair_decided : IsSettled before.inst before.decisions (i - 1) (j - 1)
          → IsJudged before tally (line.Order i j) list after (Err kind.Decided)
      pair_decided settled way more =
          tested_pair way more
          ∙ ap (λ b. require b kind.Decided >>= λ _. branched_to (here way more) (map (node way) orders))
          (ap not settled)

      pub pair_too_many : (fault : TreeKind) → (¬ IsSettled before.inst before.decisions (i - 1) (j - 1))
          → with_branching tally ≡ Err fault → (result : Result Tally TreeKind) → result ≡ Err fault
          → IsJudged before tally (line.Order i j) list after result
      pair_too_many fault un counted result is way more =
          tested_pair way more
          ∙ ap (λ b. require b kind.Decided >>= λ _. branched_to (here way more) (map (node way) orders))
          (ap not (false_from_ne_true (is_settled before.inst before.decisions (i - 1) (j - 1)) un))
          ∙ too_many way more (map (node way) orders) fault counted result is
