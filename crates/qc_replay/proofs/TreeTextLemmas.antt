-- The text of every tree is read, and shows the tree's value.
use Rattle.std.proofs.Common.{◌≡◌, ℕ, zero, suc, ◌+◌, ◌<◌, ◌≤◌, ◌^◌, true, ◌==◌, List, [], ◌∷◌, ◌++◌, length, map, Option, None, Some, IfSome, refl, ap, ap₂, sym, subst, ◌∙◌, arith, Ok, decimal, unwrap_or}
use Rattle.std.specs.List.{range_with_len, slice_split}
use Rattle.std.proofs.lemmas.Bool.{eq-eqb, lt-ltb}
use Rattle.std.proofs.lemmas.Fmt.{length-decimal-le}
use Rattle.std.proofs.lemmas.List.{append_assoc, length-append}
use Rattle.std.proofs.lemmas.List.Splits.{length-slice_split}
use Rattle.qc_num.specs.declared.bound.Bound.{Bound}
use Rattle.qc_num.specs.declared.bound.Bound.TheVariants.{Least, Never}
use Rattle.qc_num.specs.Bounds.{is_bound, lesser}
use Rattle.qc_num.specs.Reading.{◌>>=◌, require}
use Rattle.qc_num.proofs.BoundLemmas.{lesser_assoc, lesser_never}
use Rattle.qc_close.specs.Model.{Decision, Direction, Turn, OneWay, Free, InstanceView, Valid, chain, leaf_value, packed, reach, ring, work, Fits, most_branchings, mirror, seen}
use Rattle.qc_model.specs.declared.decision.Decision.TheVariants as decide
use Rattle.qc_model.specs.declared.direction.Direction.TheVariants as way
use Rattle.qc_model.proofs.MirrorLemmas.{seen_valid}
use Rattle.qc_model.proofs.NodeLemmas.{conflict_turned, unsettled_unordered}
use Rattle.qc_tree.specs.declared.line.Line.{Line}
use Rattle.qc_tree.specs.declared.line.Line.TheVariants as line
use Rattle.qc_tree.specs.Lines.{IsLine, IsValue, bound_field, line_list, line_text, most_bytes}
use Rattle.qc_tree.specs.Trees.{Holds, IsPart, IsSecond, IsTree, Leads, Node, Sign, Tree, branchings, children, leaf, lines_by, node_value, part_text, part_value, sign_text, sign_value, tree_branchings, tree_text, tree_value, whole_line}
use Rattle.qc_tree.specs.Trees as trees
use Rattle.qc_tree.proofs.LineInLemmas.{line_in_of, split_line}
use Rattle.qc_tree.proofs.OrderLemmas.{may_conflict}
use Rattle.qc_tree.specs.declared.fault.TreeKind.TheVariants as kind
use Rattle.qc_replay.specs.declared.fault.Replayed.{Replayed}
use Rattle.qc_replay.specs.Walk.{Coming, Reading, at_due, at_text, down, end, first_lines, is_known, next_of, node, numbered, start, texts_from, tree_in, up}
use Rattle.qc_replay.specs.Walk as walk
use Rattle.qc_replay.proofs.LeafBounds.{leaf_few}
use Rattle.qc_replay.proofs.ReadLemmas.{branchings_more, children_due, one_text, reading, texts_after}
use Rattle.qc_replay.proofs.SignLemmas.{accepts, behind_line, counts, line_of, list_of, spelled, text_of}

-- ---- bounds

is_bound_same : (x : Bound) → is_bound x x ≡ true
is_bound_same Never = refl
is_bound_same (Least a) = eq-eqb a a refl

lesser_value : (x y : Bound) → IsValue x → IsValue y → IsValue (lesser x y)
lesser_value Never y h k = k
lesser_value (Least a) Never h k = h
lesser_value (Least a) (Least b) h k = omega (arith, h, k)

some_value : (o : Option Bound) → IfSome o IsValue → IsValue (unwrap_or o Never)
some_value None h = tt
some_value (Some b) h = h

-- ---- nodes that must come, and fit the instance

module _ (inst : InstanceView) (valid : Valid inst) where
  abbrev pub AllFit : List (List Decision) → Type 0
  AllFit [] = Unit {0}
  AllFit (ds ∷ due) = Fits inst ds × AllFit due

  fit_then : (one two : List (List Decision)) → AllFit one → AllFit two → AllFit (one ++ two)
  fit_then [] two h k = k
  fit_then (ds ∷ one) two h k = (h.0, fit_then one two h.1 k)

  numbers_fit : (f : ℕ → List Decision) (a n : ℕ) → ((k : ℕ) → k < a + n → Fits inst (f k))
      → AllFit (map f (range_with_len a n))
  numbers_fit f a zero h = tt
  numbers_fit f a (suc n) h = (h a (omega arith), numbers_fit f (a + 1) n (λ k low. h k (omega (arith, low))))

  -- the children of a node that fits
  children_fit : (ds : List Decision) (sign : Sign) → Fits inst ds → Holds inst ds sign → AllFit (children inst ds sign)
  children_fit ds (leaf shows) fits h = tt
  children_fit ds (trees.on_task j) fits h =
      numbers_fit (λ k. decide.Assign j k ∷ ds) 0 (length inst.cranes) (λ k low. (h.0, omega (arith, low), h.1, fits))
  children_fit ds (trees.on_pair i j) fits h =
      let un = unsettled_unordered inst ds i j h.1 in
      let conflict = may_conflict inst.turn inst ds i j h.0 in
      ((conflict, un.0, un.1, fits), ((conflict_turned inst ds i j conflict, un.1, un.0, fits), tt))

  pub due_fit : (ds : List Decision) (due : List (List Decision)) (sign : Sign) → AllFit (ds ∷ due) → Holds inst ds sign
      → AllFit (children inst ds sign ++ due)
  due_fit ds due sign fits h = fit_then (children inst ds sign) due (children_fit ds sign fits.0 h) fits.1

  -- what a node shows has at most 15 digits
  sign_few : (ds : List Decision) (sign : Sign) → Fits inst ds → IsValue (sign_value inst ds sign)
  sign_few ds (leaf shows) fits = some_value (leaf_value inst ds shows) (leaf_few inst valid ds fits shows)
  sign_few ds (trees.on_task j) fits = tt
  sign_few ds (trees.on_pair i j) fits = tt

  pub part_few : (nodes : List Node) (due : List (List Decision)) → Leads inst due nodes [] → AllFit due
      → IsValue (part_value inst nodes)
  part_few [] due h fits = tt
  part_few (n ∷ nodes) [] h fits = absurd h
  part_few (n ∷ nodes) (ds ∷ due) h fits =
      lesser_value (node_value inst n) (part_value inst nodes)
      (subst (λ (d : List Decision). IsValue (sign_value inst d n.sign)) (sym h.0) (sign_few ds n.sign fits.0))
      (part_few nodes (children inst ds n.sign ++ due) h.2 (due_fit ds due n.sign fits h.1))

-- ---- one line

-- a line that trees for this turn have
pub known_in : (inst : InstanceView) (turn : Turn) (l : Line) → inst.turn ≡ turn → is_known turn l ≡ true
    → is_known inst.turn l ≡ true
known_in inst turn l same known = ap (λ t. is_known t l) same ∙ known

known_sign : (turn : Turn) (sign : Sign) → is_known turn (line_of sign) ≡ true
known_sign OneWay (leaf (chain tasks)) = refl
known_sign OneWay (leaf (ring tasks)) = refl
known_sign OneWay (leaf (packed tasks)) = refl
known_sign OneWay (leaf reach) = refl
known_sign OneWay (leaf (work tick)) = refl
known_sign OneWay (trees.on_task j) = refl
known_sign OneWay (trees.on_pair i j) = refl
known_sign Free (leaf (chain tasks)) = refl
known_sign Free (leaf (ring tasks)) = refl
known_sign Free (leaf (packed tasks)) = refl
known_sign Free (leaf reach) = refl
known_sign Free (leaf (work tick)) = refl
known_sign Free (trees.on_task j) = refl
known_sign Free (trees.on_pair i j) = refl

known_end : (turn : Turn) (b : ℕ) (x : Bound) → is_known turn (line.End b x) ≡ true
known_end OneWay b x = refl
known_end Free b x = refl

abbrev feeds : List ℕ → List (List ℕ)
feeds = slice_split (λ b. b == 10)

module _ (inst : InstanceView) (value : Replayed) where
  -- reading goes on from here, by these bytes, to this value
  abbrev GoesOn : Reading → List ℕ → Type 0
  GoesOn r bytes = (n : ℕ) → texts_from inst n r (feeds bytes) ≡ Ok value

  at_text_is : (r now : Reading) (c : Coming) (l : Line) (list : List ℕ) → next_of r.coming ≡ Ok c → IsLine l list
      → list ≡ line_list l list → length (line_text l list) < most_bytes → is_known inst.turn l ≡ true
      → at_due inst r c l list ≡ Ok now → at_text inst r (line_text l list) ≡ Ok now
  at_text_is r now c l list next ranges listed short known same =
      let seen_here = line_in_of (line_text l list) l list (record { same = refl; in_range = ranges; list = listed }) in
      let few = lt-ltb (length (line_text l list)) most_bytes short in
      rw (next, few, seen_here)
      (ap (λ k. require k kind.Spelling >>= λ _. at_due inst r c l list) known ∙ same)

  one_line : (r now : Reading) (c : Coming) (l : Line) (list rest : List ℕ) → next_of r.coming ≡ Ok c → IsLine l list
      → list ≡ line_list l list → length (line_text l list) < most_bytes → is_known inst.turn l ≡ true
      → at_due inst r c l list ≡ Ok now → GoesOn now rest → GoesOn r (whole_line l list ++ rest)
  one_line r now c l list rest next ranges listed short known same goes = λ n.
      ap (texts_from inst n r) (split_line l list rest ranges)
      ∙ step n (feeds rest) (omega (arith, length-slice_split (λ b. b == 10) rest)) goes
    where
      step : (n : ℕ) (ts : List (List ℕ)) → 0 < length ts → ((m : ℕ) → texts_from inst m now ts ≡ Ok value)
          → texts_from inst n r (line_text l list ∷ ts) ≡ Ok value
      step n [] some more = absurd (omega arith)
      step n (t ∷ ts) some more =
          ap (λ o. numbered n o >>= λ s. texts_from inst (n + 1) s (t ∷ ts))
          (at_text_is r now c l list next ranges listed short known same) ∙ more (n + 1)

  -- ---- the nodes of a part

  module _ (valid : Valid inst) (d : Direction) (more : List Coming) (rest : List ℕ) where
    abbrev is : InstanceView
    is = seen inst d

    -- the lines of nodes that must come are read: their branchings are counted, and their least value is kept
    pub part_goes_on : (nodes : List Node) (due : List (List Decision)) → Leads is due nodes []
        → AllFit is (seen_valid inst valid d) due
        → (n : ℕ) (b : Bound) → n + branchings nodes ≤ most_branchings
        → GoesOn (reading more (n + branchings nodes) (lesser b (part_value is nodes))) rest
        → GoesOn (reading (map (node d) due ++ more) n b) (part_text nodes ++ rest)
    part_goes_on [] due h fits n b few goes =
        let count : n + 0 ≡ n = omega arith in
        subst (λ (ds : List (List Decision)). GoesOn (reading (map (node d) ds ++ more) n b) rest) (sym h)
        (subst (λ (x : Bound). GoesOn (reading more n x) rest) (lesser_never b)
        (subst (λ (m : ℕ). GoesOn (reading more m (lesser b Never)) rest) count goes))
    part_goes_on (nd ∷ nodes) [] h fits n b few goes = absurd h
    part_goes_on (nd ∷ nodes) (ds ∷ due) h fits n b few goes =
        let sign = nd.sign in
        let past = map (node d) due ++ more in
        let m = n + counts sign in
        let x = lesser b (sign_value is ds sign) in
        let spells = spelled is (seen_valid inst valid d) ds fits.0 sign h.1 in
        let count : n + branchings (nd ∷ nodes) ≡ m + branchings nodes =
        omega (arith, branchings_more nd.decisions sign nodes) in
        let bound : lesser b (lesser (node_value is nd) (part_value is nodes)) ≡ lesser x (part_value is nodes) =
        ap (λ (e : List Decision). lesser b (lesser (sign_value is e sign) (part_value is nodes))) h.0
        ∙ sym (lesser_assoc b (sign_value is ds sign) (part_value is nodes)) in
        let below = part_goes_on nodes (children is ds sign ++ due) h.2
        (due_fit is (seen_valid inst valid d) ds due sign fits h.1) m x (omega (arith, count, few))
        (subst (λ (r : Reading). GoesOn r rest) (ap₂ (reading more) count bound) goes) in
        let next = behind_line is d ds past n b sign in
        let then_next : GoesOn next (part_text nodes ++ rest) =
        subst (λ (c : List Coming). GoesOn (reading c m x) (part_text nodes ++ rest))
        (sym (children_due d (children is ds sign) due more)) below in
        subst (λ (t : List ℕ). GoesOn (reading (node d ds ∷ past) n b) t)
        (ap (λ (t : List ℕ). t ++ (part_text nodes ++ rest)) (sym (text_of sign))
        ∙ sym (append_assoc (sign_text sign) (part_text nodes) rest))
        (one_line (reading (node d ds ∷ past) n b) next (node d ds) (line_of sign) (list_of sign)
        (part_text nodes ++ rest) refl spells.in_range spells.listed spells.short (known_sign inst.turn sign)
        (accepts is (seen_valid inst valid d) ds d past n b sign h.1 (omega (arith, few, count))) then_next)

-- the value in the last line is short
bound_short : (x : Bound) → IsValue x → length (bound_field x) ≤ 16
bound_short Never h = omega arith
bound_short (Least n) h =
    omega (arith, length-append (decimal n) [], length-decimal-le 15 n (omega arith) h (omega (arith, h)))

end_short : (b : ℕ) (x : Bound) → b < 10 ^ 7 → IsValue x → length (line_text (line.End b x) []) < most_bytes
end_short b x small h =
    let digits = length-decimal-le 7 b (omega arith) small (omega (arith, small)) in
    omega (arith, digits, bound_short x h, length-append (decimal b) (bound_field x))

-- ---- a tree

module _ (inst : InstanceView) (valid : Valid inst) (tree : Tree) (is_tree : IsTree inst tree) where
  abbrev read : Replayed
  read = record { bound = tree_value inst tree; branched = tree_branchings tree }

  abbrev value_up : Bound
  value_up = part_value inst tree.up

  -- the last line
  abbrev last : List ℕ
  last = whole_line (line.End (tree_branchings tree) (tree_value inst tree)) []

  abbrev goes_on : Reading → List ℕ → Type 0
  goes_on r bytes = GoesOn inst read r bytes

  second_few : (turn : Turn) → IsSecond turn inst tree.down → IsValue (part_value (mirror inst) tree.down)
  second_few OneWay part = part_few (mirror inst) (seen_valid inst valid way.Down) tree.down ([] ∷ []) part (tt, tt)
  second_few Free none = subst (λ (ns : List Node). IsValue (part_value (mirror inst) ns)) (sym none) tt

  value_few : IsValue (tree_value inst tree)
  value_few =
      lesser_value value_up (part_value (mirror inst) tree.down)
      (part_few inst valid tree.up ([] ∷ []) is_tree.up (tt, tt))
      (second_few inst.turn is_tree.down)

  ended : goes_on (reading [] (tree_branchings tree) (tree_value inst tree)) []
  ended n = refl

  end_read : goes_on (reading (end ∷ []) (tree_branchings tree) (tree_value inst tree)) (last ++ [])
  end_read =
      let few : tree_branchings tree < 10 ^ 7 = omega (arith, is_tree.few) in
      let r = reading (end ∷ []) (tree_branchings tree) (tree_value inst tree) in
      one_line inst read r (reading [] (tree_branchings tree) (tree_value inst tree)) end
      (line.End (tree_branchings tree) (tree_value inst tree)) [] [] refl (few, value_few) refl
      (end_short (tree_branchings tree) (tree_value inst tree) few value_few)
      (known_end inst.turn (tree_branchings tree) (tree_value inst tree))
      (rw (eq-eqb (tree_branchings tree) (tree_branchings tree) refl, is_bound_same (tree_value inst tree)) refl) ended

  -- ---- of two parts

  module _ (one : inst.turn ≡ OneWay) (second : IsPart (mirror inst) tree.down) where
    known : (l : Line) → is_known OneWay l ≡ true → is_known inst.turn l ≡ true
    known l is = known_in inst OneWay l one is

    abbrev from_down : List ℕ
    from_down = whole_line line.Down [] ++ (part_text tree.down ++ (last ++ []))

    down_on : goes_on (reading (down ∷ node way.Down [] ∷ end ∷ []) (branchings tree.up) value_up) from_down
    down_on =
        one_line inst read (reading (down ∷ node way.Down [] ∷ end ∷ []) (branchings tree.up) value_up)
        (reading (node way.Down [] ∷ end ∷ []) (branchings tree.up) value_up)
        down line.Down [] (part_text tree.down ++ (last ++ [])) refl tt refl (omega arith) (known line.Down refl) refl
        (part_goes_on inst read valid way.Down (end ∷ []) (last ++ []) tree.down ([] ∷ []) second (tt, tt)
        (branchings tree.up) value_up is_tree.few end_read)

    abbrev from_up : List ℕ
    from_up = whole_line line.Up [] ++ (part_text tree.up ++ from_down)

    up_on : goes_on (reading (up ∷ node way.Up [] ∷ down ∷ node way.Down [] ∷ end ∷ []) 0 Never) from_up
    up_on =
        let more = down ∷ node way.Down [] ∷ end ∷ [] in
        let count : branchings tree.up ≡ 0 + branchings tree.up = omega arith in
        one_line inst read (reading (up ∷ node way.Up [] ∷ more) 0 Never) (reading (node way.Up [] ∷ more) 0 Never)
        up line.Up [] (part_text tree.up ++ from_down) refl tt refl (omega arith) (known line.Up refl) refl
        (part_goes_on inst read valid way.Up more from_down tree.up ([] ∷ []) is_tree.up (tt, tt) 0 Never
        (omega (arith, is_tree.few))
        (subst (λ (n : ℕ). goes_on (reading more n value_up) from_down) count down_on))

    abbrev first : Reading
    first = reading (first_lines OneWay) 0 Never

    abbrev behind : Reading
    behind = reading (up ∷ node way.Up [] ∷ down ∷ node way.Down [] ∷ end ∷ []) 0 Never

    two_parts : goes_on first (lines_by OneWay tree ++ last)
    two_parts =
        subst (goes_on first)
        (texts_after (whole_line line.Title []) (whole_line line.Up []) (part_text tree.up) (whole_line line.Down [])
        (part_text tree.down) last)
        (one_line inst read first behind walk.title line.Title [] from_up refl tt refl (omega arith)
        (known line.Title refl) refl up_on)

  -- ---- of one part

  module _ (free : inst.turn ≡ Free) (none : tree.down ≡ []) where
    count_is : 0 + branchings tree.up ≡ tree_branchings tree
    count_is = omega (arith, ap branchings none)

    value_is : value_up ≡ tree_value inst tree
    value_is = sym (lesser_never value_up) ∙ ap (λ (ns : List Node). lesser value_up (part_value (mirror inst) ns)) (sym none)

    abbrev from_nodes : List ℕ
    from_nodes = part_text tree.up ++ (last ++ [])

    nodes_on : goes_on (reading (node way.Up [] ∷ end ∷ []) 0 Never) from_nodes
    nodes_on =
        part_goes_on inst read valid way.Up (end ∷ []) (last ++ []) tree.up ([] ∷ []) is_tree.up (tt, tt) 0 Never
        (omega (arith, count_is, is_tree.few))
        (subst (λ (r : Reading). goes_on r (last ++ [])) (ap₂ (reading (end ∷ [])) (sym count_is) (sym value_is))
        end_read)

    abbrev first_free : Reading
    first_free = reading (first_lines Free) 0 Never

    one_part : goes_on first_free (lines_by Free tree ++ last)
    one_part =
        subst (goes_on first_free) (one_text (whole_line line.FreeTitle []) (part_text tree.up) last)
        (one_line inst read first_free (reading (node way.Up [] ∷ end ∷ []) 0 Never)
        walk.title line.FreeTitle [] from_nodes refl tt refl (omega arith)
        (known_in inst Free line.FreeTitle free refl) refl nodes_on)

  read_by : (turn : Turn) → inst.turn ≡ turn → IsSecond turn inst tree.down
      → goes_on (reading (first_lines turn) 0 Never) (lines_by turn tree ++ last)
  read_by OneWay one second = two_parts one second
  read_by Free free second = one_part free second

  all_read : goes_on (start inst) (tree_text inst tree)
  all_read = read_by inst.turn refl is_tree.down

pub tree_read : (inst : InstanceView) → Valid inst → (tree : Tree) → IsTree inst tree
    → tree_in inst (tree_text inst tree) ≡ Ok (record { bound = tree_value inst tree; branched = tree_branchings tree })
tree_read inst valid tree is_tree = all_read inst valid tree is_tree 1
