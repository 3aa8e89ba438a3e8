-- The line of a node: where it is accepted it says something that holds, and what holds is accepted.
use Rattle.std.proofs.Common.{◌≡◌, ℕ, ◌+◌, ◌-◌, ◌*◌, ◌<◌, ◌≤◌, ◌^◌, Bool, true, false, ◌&&◌, cond, List, [], ◌∷◌, ◌++◌, length, map, All, Option, None, Some, IfSome, IsSome, refl, ap, ap₂, sym, ◌∙◌, arith, Err, Ok, Result, decimal, is_none, is_some, nat_le, nat_lt, not, ok_or, option_and_then, option_map, unwrap_or}
use Rattle.std.proofs.lemmas.Bool.{and_from, and_parts, cond_both, false≢true, le-leb, leb-true, lt-ltb, ltb-true, not-true, false_from_ne_true}
use Rattle.std.proofs.lemmas.Fmt.{length-decimal-le}
use Rattle.std.proofs.lemmas.List.{length-append, length-map}
use Rattle.std.proofs.lemmas.List.Elements.{All-cons, All-nil}
use Rattle.std.proofs.lemmas.Simd.{map-map}
use Rattle.std.specs.Prelude.{⊤}
use Rattle.std.specs.List.{list_all}
use Rattle.qc_num.specs.declared.bound.Bound.{Bound}
use Rattle.qc_num.specs.declared.bound.Bound.TheVariants.{Least, Never}
use Rattle.qc_num.specs.Bounds.{lesser}
use Rattle.qc_num.specs.Reading.{◌>>=◌, require}
use Rattle.qc_num.proofs.BoundLemmas.{lesser_never}
use Rattle.qc_num.proofs.ReadingLemmas.{same_ok}
use Rattle.qc_close.specs.Model.{Decision, Direction, InstanceView, Valid, cranes_of, Leaf, are_tasks, chain, is_ring, leaf_value, packed, reach, ring, work, work_over, crane_numbers, early, Fits, IsSettled, assigned, least, most_branchings, most_tasks, pack, is_settled}
use Rattle.qc_model.specs.declared.decision.Decision.TheVariants as decide
use Rattle.qc_model.proofs.NodeLemmas.{conflict_inside}
use Rattle.qc_close.proofs.PackBounds.{packed_listed, some_packed}
use Rattle.qc_tree.specs.declared.line.Line.{Line}
use Rattle.qc_tree.specs.declared.line.Line.TheVariants as line
use Rattle.qc_tree.specs.Lines.{AreTasks, IsLine, IsTask, IsValue, fields, line_list, line_text, most_bytes}
use Rattle.qc_tree.specs.Trees.{Holds, MayOrder, Sign, branches, children, in_file, leaf, sign_text, sign_value, whole_line}
use Rattle.qc_tree.specs.Trees as trees
use Rattle.qc_tree.proofs.OrderLemmas.{may_conflict}
use Rattle.qc_tree.specs.declared.fault.TreeKind.{TreeKind}
use Rattle.qc_tree.specs.declared.fault.TreeKind.TheVariants as kind
use Rattle.qc_replay.specs.Walk.{Coming, Reading, at_node, branched_to, came, ended_by, from_file, is_number, may_order, no_order, node, on_pair, on_task}
use Rattle.qc_replay.proofs.LeafBounds.{leaf_few}
use Rattle.qc_replay.proofs.OrderFacts.{may_of, test_of}

-- ---- steps that came through

pub failed : {A E C : Type 0} (why : E) (a : A) → ◌≡◌ {A = Result A E} (Err why) (Ok a) → C
failed why a e = absurd (cc e)

-- a test, and what follows it
pub tested : {A E : Type 0} (test : Bool) (fault : E) (next : ⊤ → Result A E) (a : A)
    → (require test fault >>= next) ≡ Ok a → (test ≡ true) × (next tt ≡ Ok a)
tested true fault next a e = (refl, e)
tested false fault next a e = failed fault a e

-- a value that must be there
found : {V A E : Type 0} (o : Option V) (fault : E) (next : V → Result A E) (a : A)
    → (ok_or o fault >>= next) ≡ Ok a → (value : V) × (o ≡ Some value) × (next value ≡ Ok a)
found None fault next a e = failed fault a e
found (Some value) fault next a e = (value, refl, e)

-- ---- numbers of tasks

-- a number of a task in a file, as it is numbered from 0
numbered : (inst : InstanceView) (i : ℕ) → is_number inst i ≡ true → (i - 1 < length inst.tasks) × ((i - 1) + 1 ≡ i)
numbered inst i t =
    let parts = and_parts (nat_lt 0 i) (nat_le i (length inst.tasks)) t in
    let positive : 0 < i = ltb-true 0 i parts.0 in
    let low : i ≤ length inst.tasks = leb-true i (length inst.tasks) parts.1 in
    (omega arith, omega arith)

-- and a list of them
back_in_file : (inst : InstanceView) (list : List ℕ) → list_all (is_number inst) list ≡ true
    → list ≡ in_file (from_file list)
back_in_file inst [] t = refl
back_in_file inst (i ∷ is) t =
    let parts = and_parts (is_number inst i) (list_all (is_number inst) is) t in
    ap₂ (λ (x : ℕ) (xs : List ℕ). x ∷ xs) (sym (numbered inst i parts.0).1) (back_in_file inst is parts.1)

pub file_back : (tasks : List ℕ) → from_file (in_file tasks) ≡ tasks
file_back [] = refl
file_back (j ∷ js) =
    let first : j + 1 - 1 ≡ j = omega arith in
    ap (λ k. k ∷ from_file (in_file js)) first ∙ ap (λ ks. j ∷ ks) (file_back js)

none_of : (o : Option ℕ) → is_none o ≡ true → o ≡ None
none_of None t = refl
none_of (Some n) t = absurd (false≢true t)

unsettled : (inst : InstanceView) (ds : List Decision) (i j : ℕ) → not (is_settled inst ds i j) ≡ true
    → ¬ IsSettled inst ds i j
unsettled inst ds i j t settled = false≢true (sym (not-true (is_settled inst ds i j) t) ∙ settled)

-- ---- a reading behind a node's line

abbrev pub counts : Sign → ℕ
counts sign = cond (branches sign) 1 0

module _ (inst : InstanceView) (d : Direction) (ds : List Decision) (more : List Coming) (n : ℕ)
    (b : Bound) where
  abbrev pub here : Reading
  here = record { coming = node d ds ∷ more; branched = n; bound = b }

  -- its children come next, and it counts and shows what it does
  abbrev pub behind_line : Sign → Reading
  behind_line sign = record {
    coming = map (node d) (children inst ds sign) ++ more;
    branched = n + counts sign;
    bound = lesser b (sign_value inst ds sign);
  }

  -- the children of a branching come next, and there is one branching more
  branched_is : (sign : Sign) (cs : List Coming) → branches sign ≡ true → sign_value inst ds sign ≡ Never
      → map (node d) (children inst ds sign) ≡ cs
      → record here { coming = cs ++ more; branched = n + 1 } ≡ behind_line sign
  branched_is sign cs some never are =
      ap (λ c. record here { coming = c ++ more; branched = n + 1 }) (sym are)
      ∙ ap (λ t. record here { coming = map (node d) (children inst ds sign) ++ more; branched = n + cond t 1 0 }) (sym some)
      ∙ ap (λ x. record { coming = map (node d) (children inst ds sign) ++ more; branched = n + counts sign; bound = x })
      (sym (lesser_never b) ∙ ap (lesser b) (sym never))

  ended_is : (shows : Leaf) (value : Bound) → unwrap_or (leaf_value inst ds shows) Never ≡ value
      → record (came here) { bound = lesser b value } ≡ behind_line (leaf shows)
  ended_is shows value is =
      let count : n ≡ n + 0 = omega arith in
      ap (λ x. record (came here) { bound = lesser b x }) (sym is)
      ∙ ap (λ m. record { coming = more; branched = m; bound = lesser b (sign_value inst ds (leaf shows)) }) count

  task_children : (j : ℕ)
      → map (node d) (children inst ds (trees.on_task j)) ≡ map (λ k. node d (decide.Assign j k ∷ ds)) (crane_numbers inst)
  task_children j = map-map (node d) (λ k. decide.Assign j k ∷ ds) (crane_numbers inst)

  -- ---- an accepted line

  -- the line says something that holds, and leads to this reading
  pub record Accepted (l : Line) (list : List ℕ) (now : Reading) : Type 0 where
    pub sign : Sign
    pub holds : Holds inst ds sign
    pub text : whole_line l list ≡ sign_text sign
    pub leads : now ≡ behind_line sign
    pub few : branches sign ≡ true → n < most_branchings

  leaf_accepted : (shows : Leaf) (fault : TreeKind) (l : Line) (list : List ℕ) (now : Reading)
      → whole_line l list ≡ sign_text (leaf shows) → ended_by here fault (leaf_value inst ds shows) ≡ Ok now
      → Accepted l list now
  leaf_accepted shows fault l list now text e =
      let f = found (leaf_value inst ds shows) fault (λ x. Ok (record (came here) { bound = lesser b x })) now e in
      record {
        sign = leaf shows;
        holds = ap is_some f.1;
        text = text;
        leads = sym (same_ok f.2) ∙ ended_is shows f.0 (ap (λ (o : Option Bound). unwrap_or o Never) f.1);
        few = λ some. absurd (cc some);
      }

  branched_accepted : (sign : Sign) (cs : List Coming) (l : Line) (list : List ℕ) (now : Reading)
      → whole_line l list ≡ sign_text sign → Holds inst ds sign → branches sign ≡ true
      → sign_value inst ds sign ≡ Never → map (node d) (children inst ds sign) ≡ cs
      → branched_to here cs ≡ Ok now → Accepted l list now
  branched_accepted sign cs l list now text holds some never are e =
      let t = tested (nat_lt n most_branchings) kind.Branchings (λ _. Ok (record here { coming = cs ++ more; branched = n + 1 })) now e in
      let low = ltb-true n most_branchings t.0 in
      record {
        sign = sign;
        holds = holds;
        text = text;
        leads = sym (same_ok t.1) ∙ branched_is sign cs some never are;
        few = λ _. low;
      }

  task_accepted : (i : ℕ) (list : List ℕ) (now : Reading) → i - 1 < length inst.tasks → (i - 1) + 1 ≡ i
      → on_task inst d ds here (i - 1) ≡ Ok now → Accepted (line.Assign i) list now
  task_accepted i list now low back e =
      let cs = map (λ k. node d (decide.Assign (i - 1) k ∷ ds)) (crane_numbers inst) in
      let t = tested (is_none (assigned ds (i - 1))) kind.Decided (λ _. branched_to here cs) now e in
      branched_accepted (trees.on_task (i - 1)) cs (line.Assign i) list now
      (ap (λ (x : ℕ). whole_line (line.Assign x) []) (sym back)) (low, none_of (assigned ds (i - 1)) t.0) refl refl
      (task_children (i - 1)) t.1

  pair_accepted : (i j : ℕ) (list : List ℕ) (now : Reading) → i - 1 < length inst.tasks → j - 1 < length inst.tasks
      → (i - 1) + 1 ≡ i → (j - 1) + 1 ≡ j
      → on_pair inst d ds here (i - 1) (j - 1) ≡ Ok now → Accepted (line.Order i j) list now
  pair_accepted i j list now low high one other e =
      let k = i - 1 in
      let m = j - 1 in
      let cs = node d (decide.Order k m ∷ ds) ∷ node d (decide.Order m k ∷ ds) ∷ [] in
      let onward = λ (_ : ⊤). branched_to here cs in
      let may = tested (may_order inst.turn inst ds k m) (no_order inst.turn)
      (λ _. require (not (is_settled inst ds k m)) kind.Decided >>= onward) now e in
      let free = tested (not (is_settled inst ds k m)) kind.Decided onward now may.1 in
      branched_accepted (trees.on_pair k m) cs (line.Order i j) list now
      (ap₂ (λ (x y : ℕ). whole_line (line.Order x y) []) (sym one) (sym other))
      (may_of inst ds k m inst.turn refl low high may.0, unsettled inst ds k m free.0) refl refl refl free.1

  pub accepted : (l : Line) (list : List ℕ) (now : Reading) → at_node inst d ds here l list ≡ Ok now
      → Accepted l list now
  accepted (line.Assign i) list now e =
      let t = tested (is_number inst i) kind.UnknownTask (λ _. on_task inst d ds here (i - 1)) now e in
      let number = numbered inst i t.0 in
      task_accepted i list now number.0 number.1 t.1
  accepted (line.Order i j) list now e =
      let onward = λ (_ : ⊤). on_pair inst d ds here (i - 1) (j - 1) in
      let t = tested (is_number inst i && is_number inst j) kind.UnknownTask onward now e in
      let numbers = and_parts (is_number inst i) (is_number inst j) t.0 in
      let first = numbered inst i numbers.0 in
      let second = numbered inst j numbers.1 in
      pair_accepted i j list now first.0 second.0 first.1 second.1 t.1
  accepted line.Chain list now e =
      let onward = λ (_ : ⊤). ended_by here kind.NotForced (leaf_value inst ds (chain (from_file list))) in
      let t = tested (list_all (is_number inst) list) kind.UnknownTask onward now e in
      leaf_accepted (chain (from_file list)) kind.NotForced line.Chain list now
      (ap (whole_line line.Chain) (back_in_file inst list t.0)) t.1
  accepted line.Ring list now e =
      let onward = λ (_ : ⊤). ended_by here kind.NotCycle (leaf_value inst ds (ring (from_file list))) in
      let t = tested (list_all (is_number inst) list) kind.UnknownTask onward now e in
      leaf_accepted (ring (from_file list)) kind.NotCycle line.Ring list now
      (ap (whole_line line.Ring) (back_in_file inst list t.0)) t.1
  accepted line.Clash list now e =
      let onward = λ (_ : ⊤). ended_by here kind.NotClash (leaf_value inst ds (packed (from_file list))) in
      let t = tested (list_all (is_number inst) list) kind.UnknownTask onward now e in
      leaf_accepted (packed (from_file list)) kind.NotClash line.Clash list now
      (ap (whole_line line.Clash) (back_in_file inst list t.0)) t.1
  accepted line.Reach list now e = leaf_accepted reach kind.InReach line.Reach list now refl e
  accepted (line.Work w) list now e = leaf_accepted (work w) kind.WorkShort (line.Work w) list now refl e
  accepted _ list now e = failed kind.Place now e

-- ---- the line of what holds

-- the line and its list
abbrev pub line_of : Sign → Line
line_of (leaf (chain tasks)) = line.Chain
line_of (leaf (ring tasks)) = line.Ring
line_of (leaf (packed tasks)) = line.Clash
line_of (leaf reach) = line.Reach
line_of (leaf (work end)) = line.Work end
line_of (trees.on_task j) = line.Assign (j + 1)
line_of (trees.on_pair i j) = line.Order (i + 1) (j + 1)

abbrev pub list_of : Sign → List ℕ
list_of (leaf (chain tasks)) = in_file tasks
list_of (leaf (ring tasks)) = in_file tasks
list_of (leaf (packed tasks)) = in_file tasks
list_of sign = []

pub text_of : (sign : Sign) → sign_text sign ≡ whole_line (line_of sign) (list_of sign)
text_of (leaf (chain tasks)) = refl
text_of (leaf (ring tasks)) = refl
text_of (leaf (packed tasks)) = refl
text_of (leaf reach) = refl
text_of (leaf (work end)) = refl
text_of (trees.on_task j) = refl
text_of (trees.on_pair i j) = refl

-- the line is spelled as the grammar asks, and short
pub record IsSpelled (sign : Sign) : Type 0 where
  pub in_range : IsLine (line_of sign) (list_of sign)
  pub listed : list_of sign ≡ line_list (line_of sign) (list_of sign)
  pub short : length (line_text (line_of sign) (list_of sign)) < most_bytes

abbrev are_below : ℕ → List ℕ → Bool
are_below n tasks = list_all (λ j. nat_lt j n) tasks

file_tasks : (n : ℕ) (tasks : List ℕ) → n ≤ most_tasks → are_below n tasks ≡ true → All IsTask (in_file tasks)
file_tasks n [] few e = All-nil IsTask
file_tasks n (j ∷ js) few e =
    let p = and_parts (nat_lt j n) (are_below n js) e in
    All-cons IsTask (j + 1) (in_file js) (omega (arith, ltb-true j n p.0)) (file_tasks n js few p.1)

file_numbers : (inst : InstanceView) (tasks : List ℕ) → are_below (length inst.tasks) tasks ≡ true
    → list_all (is_number inst) (in_file tasks) ≡ true
file_numbers inst [] e = refl
file_numbers inst (j ∷ js) e =
    let p = and_parts (nat_lt j (length inst.tasks)) (are_below (length inst.tasks) js) e in
    and_from (is_number inst (j + 1)) (list_all (is_number inst) (in_file js))
    (and_from (nat_lt 0 (j + 1)) (nat_le (j + 1) (length inst.tasks)) (lt-ltb 0 (j + 1) (omega arith))
    (le-leb (j + 1) (length inst.tasks) (omega (arith, ltb-true j (length inst.tasks) p.0))))
    (file_numbers inst js p.1)

-- each has at most three digits
file_short : (n : ℕ) (tasks : List ℕ) → n ≤ most_tasks → are_below n tasks ≡ true
    → length (fields (in_file tasks)) ≤ 4 * length tasks
file_short n [] few e = omega arith
file_short n (j ∷ js) few e =
    let p = and_parts (nat_lt j n) (are_below n js) e in
    let low = ltb-true j n p.0 in
    let digits = length-decimal-le 3 (j + 1) (omega arith) (omega (arith, low)) (omega (arith, low)) in
    omega (arith, digits, file_short n js few p.1, length-append (32 ∷ decimal (j + 1)) (fields (in_file js)))

module _ (inst : InstanceView) (valid : Valid inst) (ds : List Decision) where
  -- the tasks of a chain, a ring or packed ones
  record HasTasks (tasks : List ℕ) : Type 0 where
    few : length tasks ≤ most_tasks
    below : are_below (length inst.tasks) tasks ≡ true

  tasks_of : (tasks : List ℕ) → are_tasks inst tasks ≡ true → HasTasks tasks
  tasks_of tasks e =
      let p = and_parts (nat_le (length tasks) most_tasks) (are_below (length inst.tasks) tasks) e in
      record { few = leb-true (length tasks) most_tasks p.0; below = p.1 }

  chain_tasks : (tasks : List ℕ) → IsSome (leaf_value inst ds (chain tasks)) → HasTasks tasks
  chain_tasks tasks =
      cond_both (are_tasks inst tasks) _ None (λ o. IsSome o → HasTasks tasks)
      (λ e _. tasks_of tasks e) (λ _ none. absurd (cc none))

  ring_tasks : (tasks : List ℕ) → IsSome (leaf_value inst ds (ring tasks)) → HasTasks tasks × (2 ≤ length tasks)
  ring_tasks tasks =
      cond_both (are_tasks inst tasks && nat_le 2 (length tasks) && is_ring inst ds tasks) (Some Never) None
      (λ o. IsSome o → HasTasks tasks × (2 ≤ length tasks))
      (λ e _.
      let p = and_parts (are_tasks inst tasks && nat_le 2 (length tasks)) (is_ring inst ds tasks) e in
      let q = and_parts (are_tasks inst tasks) (nat_le 2 (length tasks)) p.0 in
      (tasks_of tasks q.0, leb-true 2 (length tasks) q.1))
      (λ _ none. absurd (cc none))

  -- what has an end with something added had one before
  some_of : (h : ℕ) (o : Option ℕ) → IsSome (option_map Least (option_map (λ ticks. h + ticks) o)) → IsSome o
  some_of h None none = absurd (cc none)
  some_of h (Some n) some = refl

  some_pack : (tasks : List ℕ) (o : Option (ℕ → ℕ)) (p : Option ℕ)
      → IsSome (option_map Least (option_and_then (λ begins. option_map (λ ticks. least (map begins tasks) + ticks) p) o))
      → IsSome p
  some_pack tasks None p none = absurd (cc none)
  some_pack tasks (Some begins) p some = some_of (least (map begins tasks)) p some

  packed_tasks : (tasks : List ℕ) → IsSome (leaf_value inst ds (packed tasks)) → HasTasks tasks × (1 ≤ length tasks)
  packed_tasks tasks some =
      let cranes = cranes_of inst ds in
      let ticks = some_pack tasks (early inst ds) (pack inst cranes tasks) some in
      let l = packed_listed inst cranes tasks (some_packed inst cranes tasks ticks) in
      (record { few = omega (arith, l.few, valid.tasks.count); below = l.below }, l.some)

  work_end : (tick : ℕ) → Fits inst ds → IsSome (leaf_value inst ds (work tick)) → (1 ≤ tick) × (tick < 10 ^ 15)
  work_end tick fits =
      cond_both (nat_le 1 tick && work_over inst ds tick) (Some (Least tick)) None
      (λ o. IfSome o IsValue → IsSome o → (1 ≤ tick) × (tick < 10 ^ 15))
      (λ e small _. (leb-true 1 tick (and_parts (nat_le 1 tick) (work_over inst ds tick) e).0, small))
      (λ _ _ none. absurd (cc none))
      (leaf_few inst valid ds fits (work tick))

  in_file_tasks : (tasks : List ℕ) → HasTasks tasks → AreTasks (in_file tasks)
  in_file_tasks tasks h = (
    omega (arith, h.few, length-map tasks (λ j. j + 1)),
    file_tasks (length inst.tasks) tasks valid.tasks.count h.below,
  )

  list_short : (tasks : List ℕ) → HasTasks tasks → length (fields (in_file tasks)) ≤ 960
  list_short tasks h = omega (arith, h.few, file_short (length inst.tasks) tasks valid.tasks.count h.below)

  number_few : (j : ℕ) → j < length inst.tasks → j + 1 < 10 ^ 3
  number_few j low = omega (arith, low, valid.tasks.count)

  task_short : (i : ℕ) → i < 10 ^ 3 → length (line_text (line.Assign i) []) < most_bytes
  task_short i small =
      omega (arith, length-append (decimal i) [], length-decimal-le 3 i (omega arith) small (omega (arith, small)))

  pair_short : (i j : ℕ) → i < 10 ^ 3 → j < 10 ^ 3 → length (line_text (line.Order i j) []) < most_bytes
  pair_short i j small few =
      let first = length-decimal-le 3 i (omega arith) small (omega (arith, small)) in
      let second = length-decimal-le 3 j (omega arith) few (omega (arith, few)) in
      omega (arith, first, second, length-append (decimal j) [], length-append (decimal i) (32 ∷ (decimal j ++ [])))

  work_short : (n : ℕ) → n < 10 ^ 15 → length (line_text (line.Work n) []) < most_bytes
  work_short n small =
      omega (arith, length-append (decimal n) [], length-decimal-le 15 n (omega arith) small (omega (arith, small)))

  inside_of : (i j : ℕ) → MayOrder inst ds i j → (i < length inst.tasks) × (j < length inst.tasks)
  inside_of i j may = conflict_inside inst valid ds i j (may_conflict inst.turn inst ds i j may)

  -- what holds at a node that fits is spelled
  pub spelled : Fits inst ds → (sign : Sign) → Holds inst ds sign → IsSpelled sign
  spelled fits (leaf (chain tasks)) some =
      let h = chain_tasks tasks some in
      record { in_range = in_file_tasks tasks h; listed = refl; short = omega (arith, list_short tasks h) }
  spelled fits (leaf (ring tasks)) some =
      let h = ring_tasks tasks some in
      record {
        in_range = (omega (arith, h.1, length-map tasks (λ j. j + 1)), in_file_tasks tasks h.0);
        listed = refl;
        short = omega (arith, list_short tasks h.0);
      }
  spelled fits (leaf (packed tasks)) some =
      let h = packed_tasks tasks some in
      record {
        in_range = (omega (arith, h.1, length-map tasks (λ j. j + 1)), in_file_tasks tasks h.0);
        listed = refl;
        short = omega (arith, list_short tasks h.0);
      }
  spelled fits (leaf reach) some = record { in_range = tt; listed = refl; short = omega arith }
  spelled fits (leaf (work tick)) some =
      let h = work_end tick fits some in
      record { in_range = h; listed = refl; short = work_short tick h.1 }
  spelled fits (trees.on_task j) h =
      let small = number_few j h.0 in
      record { in_range = omega (arith, small); listed = refl; short = task_short (j + 1) small }
  spelled fits (trees.on_pair i j) h =
      let range = inside_of i j h.0 in
      let first = number_few i range.0 in
      let second = number_few j range.1 in
      record {
        in_range = (omega (arith, first), omega (arith, second));
        listed = refl;
        short = pair_short (i + 1) (j + 1) first second;
      }

  number_of : (j : ℕ) → j < length inst.tasks → is_number inst (j + 1) ≡ true
  number_of j low =
      let n = length inst.tasks in
      and_from (nat_lt 0 (j + 1)) (nat_le (j + 1) n) (lt-ltb 0 (j + 1) (omega arith))
      (le-leb (j + 1) n (omega (arith, low)))

  back_one : (j : ℕ) → j + 1 - 1 ≡ j
  back_one j = omega arith

  module _ (d : Direction) (more : List Coming) (n : ℕ) (b : Bound) where
    abbrev at_here : Reading
    at_here = here inst d ds more n b

    ended : (fault : TreeKind) (shows : Leaf) (o : Option Bound) → o ≡ leaf_value inst ds shows → IsSome o
        → ended_by at_here fault o ≡ Ok (behind_line inst d ds more n b (leaf shows))
    ended fault shows None e some = absurd (cc some)
    ended fault shows (Some value) e some =
        ap Ok (ended_is inst d ds more n b shows value (ap (λ (o : Option Bound). unwrap_or o Never) (sym e)))

    branched : (sign : Sign) (cs : List Coming) → branches sign ≡ true → sign_value inst ds sign ≡ Never
        → map (node d) (children inst ds sign) ≡ cs → n < most_branchings
        → branched_to at_here cs ≡ Ok (behind_line inst d ds more n b sign)
    branched sign cs some never are few =
        ap (λ t. require t kind.Branchings >>= λ _. Ok (record at_here { coming = cs ++ more; branched = n + 1 })) (lt-ltb n most_branchings few)
        ∙ ap Ok (branched_is inst d ds more n b sign cs some never are)

    -- its line is accepted, as long as a tree may have its branching
    pub accepts : (sign : Sign) → Holds inst ds sign → n + counts sign ≤ most_branchings
        → at_node inst d ds at_here (line_of sign) (list_of sign) ≡ Ok (behind_line inst d ds more n b sign)
    accepts (leaf (chain tasks)) some few =
        rw (file_numbers inst tasks (chain_tasks tasks some).below, file_back tasks)
        (ended kind.NotForced (chain tasks) (leaf_value inst ds (chain tasks)) refl some)
    accepts (leaf (ring tasks)) some few =
        rw (file_numbers inst tasks (ring_tasks tasks some).0.below, file_back tasks)
        (ended kind.NotCycle (ring tasks) (leaf_value inst ds (ring tasks)) refl some)
    accepts (leaf (packed tasks)) some few =
        ap (λ t. require t kind.UnknownTask >>= λ _.
        ended_by at_here kind.NotClash (leaf_value inst ds (packed (from_file (in_file tasks)))))
        (file_numbers inst tasks (packed_tasks tasks some).0.below)
        ∙ ap (λ ts. ended_by at_here kind.NotClash (leaf_value inst ds (packed ts))) (file_back tasks)
        ∙ ended kind.NotClash (packed tasks) (leaf_value inst ds (packed tasks)) refl some
    accepts (leaf reach) some few = ended kind.InReach reach (leaf_value inst ds reach) refl some
    accepts (leaf (work tick)) some few = ended kind.WorkShort (work tick) (leaf_value inst ds (work tick)) refl some
    accepts (trees.on_task j) h few =
        rw (number_of j h.0, back_one j, h.1)
        (branched (trees.on_task j) (map (λ k. node d (decide.Assign j k ∷ ds)) (crane_numbers inst)) refl refl
        (task_children inst d ds more n b j) (omega (arith, few)))
    accepts (trees.on_pair i j) h few =
        let range = inside_of i j h.0 in
        rw (number_of i range.0, number_of j range.1, back_one i, back_one j, test_of inst ds i j valid inst.turn h.0, false_from_ne_true (is_settled inst ds i j) h.1)
        (branched (trees.on_pair i j) (node d (decide.Order i j ∷ ds) ∷ node d (decide.Order j i ∷ ds) ∷ []) refl refl refl
        (omega (arith, few)))
