-- Lines that are read without a fault are those of a tree.
use Rattle.std.proofs.Common.{◌≡◌, ℕ, ◌+◌, ◌<◌, ◌≤◌, Bool, true, false, cond, ◌==◌, ◌&&◌, List, [], ◌∷◌, ◌++◌, map, Option, None, Some, IfSome, refl, ap, ap₂, sym, subst, ◌∙◌, append_assoc, arith, Ok}
use Rattle.std.proofs.lemmas.Bool.{and_parts, eqb-true, false≢true, true≢false}
use Rattle.std.proofs.lemmas.List.{append-nil, map-append}
use Rattle.qc_num.specs.declared.bound.Bound.{Bound}
use Rattle.qc_num.specs.declared.bound.Bound.TheVariants.{Least, Never}
use Rattle.qc_num.specs.Bounds.{IsAtMost, is_bound, lesser}
use Rattle.qc_num.proofs.BoundLemmas.{lesser_assoc, lesser_never}
use Rattle.qc_num.proofs.ReadingLemmas.{bind_ok, same_ok}
use Rattle.qc_close.specs.Model.{Decision, Direction, Turn, OneWay, Free, InstanceView, Valid, most_branchings, ends, seen}
use Rattle.qc_model.specs.declared.direction.Direction.TheVariants as way
use Rattle.qc_tree.specs.declared.line.Line.{Line}
use Rattle.qc_tree.specs.declared.line.Line.TheVariants as line
use Rattle.qc_tree.specs.LineIn.{Listed}
use Rattle.qc_tree.specs.Trees.{IsSecond, IsTree, Leads, Node, NoneEarlier, Sign, Tree, branches, branchings, children, lines_by, part_text, part_value, sign_text, sign_value, tree_branchings, tree_text, tree_value, whole_line}
use Rattle.qc_tree.proofs.NodeLemmas.{branchings_then}
use Rattle.qc_tree.proofs.TreeBound.{tree_bound}
use Rattle.qc_tree.specs.declared.fault.TreeKind.TheVariants as kind
use Rattle.qc_replay.specs.Walk.{Coming, Reading, at, at_due, down, end, first_lines, is_known, node, replayed, start, title, up}
use Rattle.qc_replay.specs.Read.{IsReached, lines_text, with_line, with_lines}
use Rattle.qc_replay.specs.Shown.{IsShown}
use Rattle.qc_replay.proofs.SignLemmas.{accepted, counts, failed, tested}

same_bound : (a b : Bound) → is_bound a b ≡ true → a ≡ b
same_bound (Least a) (Least b) t = ap Least (eqb-true a b t)
same_bound (Least a) Never t = absurd (false≢true t)
same_bound Never (Least b) t = absurd (false≢true t)
same_bound Never Never t = refl

pub branchings_more : (ds : List Decision) (sign : Sign) (nodes : List Node)
    → branchings (record { decisions = ds; sign = sign } ∷ nodes) ≡ counts sign + branchings nodes
branchings_more ds sign nodes =
    let one : branchings (record { decisions = ds; sign = sign } ∷ []) ≡ counts sign = omega arith in
    omega (arith, one, branchings_then (record { decisions = ds; sign = sign } ∷ []) nodes)

counted : (n : ℕ) (some : Bool) → (some ≡ true → n < most_branchings) → n ≤ most_branchings
    → n + cond some 1 0 ≤ most_branchings
counted n true few low = omega (arith, few refl)
counted n false few low = omega (arith, low)

-- the children of a node, and then the others
pub children_due : (d : Direction) (cs due : List (List Decision)) (more : List Coming)
    → map (node d) cs ++ (map (node d) due ++ more) ≡ map (node d) (cs ++ due) ++ more
children_due d cs due more =
    sym (append_assoc (map (node d) cs) (map (node d) due) more)
    ∙ ap (λ c. c ++ more) (sym (map-append (node d) cs due))

abbrev pub reading : List Coming → ℕ → Bound → Reading
reading coming branched bound = record { coming = coming; branched = branched; bound = bound }

-- a line that came through is one of trees for the turn, and came through where it was due
pub known_due : (inst : InstanceView) (r : Reading) (c : Coming) (l : Line) (list : List ℕ) (now : Reading)
    → at inst r c l list ≡ Ok now → (is_known inst.turn l ≡ true) × (at_due inst r c l list ≡ Ok now)
known_due inst r c l list now e = tested (is_known inst.turn l) kind.Spelling (λ _. at_due inst r c l list) now e

-- a line that trees for this turn don't have
unknown : {C : Type 0} (inst : InstanceView) (turn : Turn) (l : Line) → inst.turn ≡ turn → is_known turn l ≡ false
    → is_known inst.turn l ≡ true → C
unknown inst turn l same not_known known = absurd (true≢false (sym known ∙ ap (λ t. is_known t l) same ∙ not_known))

module _ (inst : InstanceView) (last : Reading) (over : last.coming ≡ []) where
  -- ---- a line around the parts

  record FrameRead (c : Coming) (more : List Coming) (n : ℕ) (b : Bound) (lines : List Listed) : Type 0 where
    here : Listed
    rest : List Listed
    are : lines ≡ here ∷ rest
    now : Reading
    leads : at inst (reading (c ∷ more) n b) c here.line here.list ≡ Ok now
    reads : with_lines inst now rest ≡ Ok last

  frame_read : (c : Coming) (more : List Coming) (n : ℕ) (b : Bound) (lines : List Listed)
      → with_lines inst (reading (c ∷ more) n b) lines ≡ Ok last → FrameRead c more n b lines
  frame_read c more n b [] e =
      absurd (cc (ap (λ (r : Reading). r.coming) (same_ok e), over))
  frame_read c more n b (here ∷ rest) e =
      let s = bind_ok (with_line inst (reading (c ∷ more) n b) here) (λ now. with_lines inst now rest) last e in
      record { here = here; rest = rest; are = refl; now = s.0; leads = s.1; reads = s.2 }

  -- ---- the nodes of a part

  -- nodes that had to come, and then what follows the part
  record PartRead (d : Direction) (due : List (List Decision)) (more : List Coming) (n : ℕ) (b : Bound)
      (lines : List Listed) : Type 0 where
    nodes : List Node
    rest : List Listed
    leads : Leads (seen inst d) due nodes []
    text : lines_text lines ≡ part_text nodes ++ lines_text rest
    reads : with_lines inst (reading more (n + branchings nodes) (lesser b (part_value (seen inst d) nodes))) rest
        ≡ Ok last
    few : n ≤ most_branchings → n + branchings nodes ≤ most_branchings

  part_read : (d : Direction) (more : List Coming) (lines : List Listed) (due : List (List Decision))
      (n : ℕ) (b : Bound) → with_lines inst (reading (map (node d) due ++ more) n b) lines ≡ Ok last
      → PartRead d due more n b lines
  part_read d more lines [] n b e =
      let count : n ≡ n + 0 = omega arith in
      record {
        nodes = [];
        rest = lines;
        leads = refl;
        text = refl;
        reads = ap (λ r. with_lines inst r lines) (ap₂ (reading more) (sym count) (lesser_never b)) ∙ e;
        few = λ low. omega (arith, low);
      }
  part_read d more [] (ds ∷ due) n b e =
      absurd (cc (ap (λ (r : Reading). r.coming) (same_ok e), over))
  part_read d more (seen_line ∷ lines) (ds ∷ due) n b e =
      let i = seen inst d in
      let past = map (node d) due ++ more in
      let s = bind_ok (with_line inst (reading (node d ds ∷ past) n b) seen_line) (λ now. with_lines inst now lines) last e in
      let due_here = known_due inst (reading (node d ds ∷ past) n b) (node d ds) seen_line.line seen_line.list s.0 s.1 in
      let a = accepted i d ds past n b seen_line.line seen_line.list s.0 due_here.1 in
      let m = n + counts a.sign in
      let x = lesser b (sign_value i ds a.sign) in
      let next = reading (map (node d) (children i ds a.sign ++ due) ++ more) m x in
      let same : next ≡ s.0 =
      ap (λ c. reading c m x) (sym (children_due d (children i ds a.sign) due more)) ∙ sym a.leads in
      let below = part_read d more lines (children i ds a.sign ++ due) m x
      (ap (λ r. with_lines inst r lines) same ∙ s.2) in
      let here : Node = record { decisions = ds; sign = a.sign } in
      let count : n + branchings (here ∷ below.nodes) ≡ m + branchings below.nodes =
      omega (arith, branchings_more ds a.sign below.nodes) in
      record {
        nodes = here ∷ below.nodes;
        rest = below.rest;
        leads = (refl, a.holds, below.leads);
        text =
            ap₂ (λ (t u : List ℕ). t ++ u) a.text below.text
            ∙ sym (append_assoc (sign_text a.sign) (part_text below.nodes) (lines_text below.rest));
        reads =
            ap (λ r. with_lines inst r below.rest)
            (ap₂ (reading more) count (sym (lesser_assoc b (sign_value i ds a.sign) (part_value i below.nodes))))
            ∙ below.reads;
        few = λ low. omega (arith, count, below.few (counted n (branches a.sign) a.few low));
      }

  -- ---- what the lines around the parts say

  module _ (more : List Coming) (n : ℕ) (b : Bound) (now : Reading) where
    abbrev Came : Coming → Line → List ℕ → Type 0
    Came c l list = at inst (reading (c ∷ more) n b) c l list ≡ Ok now

    due : (c : Coming) (l : Line) (list : List ℕ) → Came c l list
        → (is_known inst.turn l ≡ true) × (at_due inst (reading (c ∷ more) n b) c l list ≡ Ok now)
    due c l list e = known_due inst (reading (c ∷ more) n b) c l list now e

    title_line : inst.turn ≡ OneWay → (l : Line) (list : List ℕ) → Came title l list
        → (whole_line l list ≡ whole_line line.Title []) × (reading more n b ≡ now)
    title_line one line.Title list e = (refl, same_ok (due title line.Title list e).1)
    title_line one line.FreeTitle list e = unknown inst OneWay line.FreeTitle one refl (due title line.FreeTitle list e).0
    title_line one l list e = failed kind.Place now (due title l list e).1

    free_line : inst.turn ≡ Free → (l : Line) (list : List ℕ) → Came title l list
        → (whole_line l list ≡ whole_line line.FreeTitle []) × (reading more n b ≡ now)
    free_line free line.Title list e = unknown inst Free line.Title free refl (due title line.Title list e).0
    free_line free line.FreeTitle list e = (refl, same_ok (due title line.FreeTitle list e).1)
    free_line free l list e = failed kind.Place now (due title l list e).1

    up_line : (l : Line) (list : List ℕ) → Came up l list
        → (whole_line l list ≡ whole_line line.Up []) × (reading more n b ≡ now)
    up_line line.Up list e = (refl, same_ok (due up line.Up list e).1)
    up_line l list e = failed kind.Place now (due up l list e).1

    down_line : (l : Line) (list : List ℕ) → Came down l list
        → (whole_line l list ≡ whole_line line.Down []) × (reading more n b ≡ now)
    down_line line.Down list e = (refl, same_ok (due down line.Down list e).1)
    down_line l list e = failed kind.Place now (due down l list e).1

    end_line : (l : Line) (list : List ℕ) → Came end l list
        → (whole_line l list ≡ whole_line (line.End n b) []) × (reading more n b ≡ now)
    end_line (line.End m x) list e =
        let t = tested ((m == n) && is_bound x b) kind.Counts (λ _. Ok (reading more n b)) now
        (due end (line.End m x) list e).1 in
        let same = and_parts (m == n) (is_bound x b) t.0 in
        (ap₂ (λ (y : ℕ) (z : Bound). whole_line (line.End y z) []) (eqb-true m n same.0) (same_bound x b same.1), same_ok t.1)
    end_line l list e = failed kind.Place now (due end l list e).1

  nothing_more : (n : ℕ) (b : Bound) (lines : List Listed) → with_lines inst (reading [] n b) lines ≡ Ok last
      → (lines ≡ []) × (reading [] n b ≡ last)
  nothing_more n b [] e = (refl, same_ok e)
  nothing_more n b (listed ∷ lines) e = failed kind.After last e

  -- ---- one line around the parts, taken off the front

  record Taken (t : List ℕ) (r : Reading) (lines : List Listed) : Type 0 where
    rest : List Listed
    text : lines_text lines ≡ t ++ lines_text rest
    reads : with_lines inst r rest ≡ Ok last

  taken : (c : Listed) (lines rest : List Listed) (t : List ℕ) (r now : Reading) → lines ≡ c ∷ rest
      → whole_line c.line c.list ≡ t → r ≡ now → with_lines inst now rest ≡ Ok last → Taken t r lines
  taken c lines rest t r now are text same e = record {
    rest = rest;
    text = ap lines_text are ∙ ap (λ (s : List ℕ). s ++ lines_text rest) text;
    reads = ap (λ (x : Reading). with_lines inst x rest) same ∙ e;
  }

  module _ (more : List Coming) (n : ℕ) (b : Bound) (lines : List Listed) where
    title_taken : inst.turn ≡ OneWay → with_lines inst (reading (title ∷ more) n b) lines ≡ Ok last
        → Taken (whole_line line.Title []) (reading more n b) lines
    title_taken one e =
        let f = frame_read title more n b lines e in
        let l = title_line more n b f.now one f.here.line f.here.list f.leads in
        taken f.here lines f.rest (whole_line line.Title []) (reading more n b) f.now f.are l.0 l.1 f.reads

    free_taken : inst.turn ≡ Free → with_lines inst (reading (title ∷ more) n b) lines ≡ Ok last
        → Taken (whole_line line.FreeTitle []) (reading more n b) lines
    free_taken free e =
        let f = frame_read title more n b lines e in
        let l = free_line more n b f.now free f.here.line f.here.list f.leads in
        taken f.here lines f.rest (whole_line line.FreeTitle []) (reading more n b) f.now f.are l.0 l.1 f.reads

    up_taken : with_lines inst (reading (up ∷ more) n b) lines ≡ Ok last
        → Taken (whole_line line.Up []) (reading more n b) lines
    up_taken e =
        let f = frame_read up more n b lines e in
        let l = up_line more n b f.now f.here.line f.here.list f.leads in
        taken f.here lines f.rest (whole_line line.Up []) (reading more n b) f.now f.are l.0 l.1 f.reads

    down_taken : with_lines inst (reading (down ∷ more) n b) lines ≡ Ok last
        → Taken (whole_line line.Down []) (reading more n b) lines
    down_taken e =
        let f = frame_read down more n b lines e in
        let l = down_line more n b f.now f.here.line f.here.list f.leads in
        taken f.here lines f.rest (whole_line line.Down []) (reading more n b) f.now f.are l.0 l.1 f.reads

    end_taken : with_lines inst (reading (end ∷ more) n b) lines ≡ Ok last
        → Taken (whole_line (line.End n b) []) (reading more n b) lines
    end_taken e =
        let f = frame_read end more n b lines e in
        let l = end_line more n b f.now f.here.line f.here.list f.leads in
        taken f.here lines f.rest (whole_line (line.End n b) []) (reading more n b) f.now f.are l.0 l.1 f.reads

  -- the last line, and nothing behind it
  ended : (n : ℕ) (b : Bound) (lines : List Listed) → with_lines inst (reading (end ∷ []) n b) lines ≡ Ok last
      → (lines_text lines ≡ whole_line (line.End n b) [] ++ []) × (reading [] n b ≡ last)
  ended n b lines e =
      let t = end_taken [] n b lines e in
      let none = nothing_more n b t.rest t.reads in
      (t.text ∙ ap (λ (ls : List Listed). whole_line (line.End n b) [] ++ lines_text ls) none.0, none.1)

  -- a part behind its word
  record WordRead (d : Direction) (word : List ℕ) (more : List Coming) (n : ℕ) (b : Bound)
      (lines : List Listed) : Type 0 where
    nodes : List Node
    rest : List Listed
    leads : Leads (seen inst d) ([] ∷ []) nodes []
    text : lines_text lines ≡ word ++ (part_text nodes ++ lines_text rest)
    reads : with_lines inst (reading more (n + branchings nodes) (lesser b (part_value (seen inst d) nodes))) rest
        ≡ Ok last
    few : n ≤ most_branchings → n + branchings nodes ≤ most_branchings

  word_read : (d : Direction) (word : List ℕ) (more : List Coming) (n : ℕ) (b : Bound) (lines : List Listed)
      → Taken word (reading (node d [] ∷ more) n b) lines → WordRead d word more n b lines
  word_read d word more n b lines t =
      let p = part_read d more t.rest ([] ∷ []) n b t.reads in
      record {
        nodes = p.nodes;
        rest = p.rest;
        leads = p.leads;
        text = t.text ∙ ap (λ (s : List ℕ). word ++ s) p.text;
        reads = p.reads;
        few = p.few;
      }

-- ---- the tree of all lines

none_before : (a b : ℕ) → 0 + a + b ≡ a + b
none_before a b = omega arith

none_counted : 0 ≤ most_branchings
none_counted = omega arith

-- texts, one after the other
pub texts_after : (t a p d q e : List ℕ) → t ++ (a ++ (p ++ (d ++ (q ++ (e ++ []))))) ≡ t ++ a ++ p ++ d ++ q ++ e
texts_after t a p d q e = simp (append_assoc, append-nil)

-- the lines are those of this tree of the instance
pub record IsRead (inst : InstanceView) (r : Reading) (lines : List Listed) : Type 0 where
  pub tree : Tree
  pub is_tree : IsTree inst tree
  pub bound : r.bound ≡ tree_value inst tree
  pub branched : r.branched ≡ tree_branchings tree
  pub text : lines_text lines ≡ tree_text inst tree

-- a tree of two parts, and what its lines come to
tree_from : (inst : InstanceView) → inst.turn ≡ OneWay → (lines : List Listed) (r : Reading) (over : r.coming ≡ [])
    (rest : List Listed) → lines_text lines ≡ whole_line line.Title [] ++ lines_text rest
    → (u : WordRead inst r over way.Up (whole_line line.Up []) (down ∷ node way.Down [] ∷ end ∷ []) 0 Never rest)
    → (d : WordRead inst r over way.Down (whole_line line.Down []) (end ∷ []) (0 + branchings u.nodes)
    (part_value inst u.nodes) u.rest) → IsRead inst r lines
tree_from inst one lines r over rest titled u d =
    let x = lesser (part_value inst u.nodes) (part_value (seen inst way.Down) d.nodes) in
    let m = 0 + branchings u.nodes + branchings d.nodes in
    let last = ended inst r over m x d.rest d.reads in
    let count = none_before (branchings u.nodes) (branchings d.nodes) in
    let t = whole_line line.Title [] in
    let a = whole_line line.Up [] in
    let p = part_text u.nodes in
    let b = whole_line line.Down [] in
    let q = part_text d.nodes in
    let tree : Tree = record { up = u.nodes; down = d.nodes } in
    record {
      tree = tree;
      is_tree = record {
        up = u.leads;
        down = subst (λ (t : Turn). IsSecond t inst d.nodes) (sym one) d.leads;
        few = subst (λ (c : ℕ). c ≤ most_branchings) count (d.few (u.few none_counted));
      };
      bound = ap (λ (s : Reading). s.bound) (sym last.1);
      branched = ap (λ (s : Reading). s.branched) (sym last.1) ∙ count;
      text =
          titled ∙ ap (λ (s : List ℕ). t ++ s) u.text ∙ ap (λ (s : List ℕ). t ++ (a ++ (p ++ s))) d.text
          ∙ ap (λ (s : List ℕ). t ++ (a ++ (p ++ (b ++ (q ++ s))))) last.0
          ∙ texts_after t a p b q (whole_line (line.End m x) [])
          ∙ ap (λ (c : ℕ). t ++ a ++ p ++ b ++ q ++ whole_line (line.End c x) []) count
          ∙ ap (λ (t : Turn). lines_by t tree ++ whole_line (line.End (tree_branchings tree) x) []) (sym one);
    }

-- texts, one after the other, of a tree of one part
pub one_text : (t p e : List ℕ) → t ++ (p ++ (e ++ [])) ≡ t ++ p ++ e
one_text t p e = simp (append_assoc, append-nil)

-- a tree of one part, and what its lines come to
free_from : (inst : InstanceView) → inst.turn ≡ Free → (lines : List Listed) (r : Reading) (over : r.coming ≡ [])
    (rest : List Listed) → lines_text lines ≡ whole_line line.FreeTitle [] ++ lines_text rest
    → (u : PartRead inst r over way.Up ([] ∷ []) (end ∷ []) 0 Never rest) → IsRead inst r lines
free_from inst free lines r over rest titled u =
    let x = part_value inst u.nodes in
    let m = 0 + branchings u.nodes in
    let last = ended inst r over m x u.rest u.reads in
    let t = whole_line line.FreeTitle [] in
    let p = part_text u.nodes in
    let tree : Tree = record { up = u.nodes; down = [] } in
    let count : m ≡ tree_branchings tree = omega arith in
    let value : x ≡ tree_value inst tree = sym (lesser_never x) in
    record {
      tree = tree;
      is_tree = record {
        up = u.leads;
        down = subst (λ (t : Turn). IsSecond t inst []) (sym free) refl;
        few = subst (λ (c : ℕ). c ≤ most_branchings) count (u.few none_counted);
      };
      bound = ap (λ (s : Reading). s.bound) (sym last.1) ∙ value;
      branched = ap (λ (s : Reading). s.branched) (sym last.1) ∙ count;
      text =
          titled ∙ ap (λ (s : List ℕ). t ++ s) u.text ∙ ap (λ (s : List ℕ). t ++ (p ++ s)) last.0
          ∙ one_text t p (whole_line (line.End m x) [])
          ∙ ap₂ (λ (c : ℕ) (y : Bound). t ++ p ++ whole_line (line.End c y) []) count value
          ∙ ap (λ (s : Turn). lines_by s tree ++ whole_line (line.End (tree_branchings tree) (tree_value inst tree)) [])
          (sym free);
    }

tree_by : (inst : InstanceView) (lines : List Listed) (r : Reading) → r.coming ≡ [] → (turn : Turn) → inst.turn ≡ turn
    → with_lines inst (reading (first_lines turn) 0 Never) lines ≡ Ok r → IsRead inst r lines
tree_by inst lines r over OneWay one e =
    let in_down = node way.Down [] ∷ end ∷ [] in
    let t = title_taken inst r over (up ∷ node way.Up [] ∷ down ∷ in_down) 0 Never lines one e in
    let u = word_read inst r over way.Up (whole_line line.Up []) (down ∷ in_down) 0 Never t.rest
    (up_taken inst r over (node way.Up [] ∷ down ∷ in_down) 0 Never t.rest t.reads) in
    let d = word_read inst r over way.Down (whole_line line.Down []) (end ∷ []) (0 + branchings u.nodes)
    (part_value inst u.nodes) u.rest
    (down_taken inst r over in_down (0 + branchings u.nodes) (part_value inst u.nodes) u.rest u.reads) in
    tree_from inst one lines r over t.rest t.text u d
tree_by inst lines r over Free free e =
    let t = free_taken inst r over (node way.Up [] ∷ end ∷ []) 0 Never lines free e in
    free_from inst free lines r over t.rest t.text
    (part_read inst r over way.Up (end ∷ []) t.rest ([] ∷ []) 0 Never t.reads)

pub tree_of_lines : (inst : InstanceView) (lines : List Listed) (r : Reading)
    → with_lines inst (start inst) lines ≡ Ok r → r.coming ≡ [] → IsRead inst r lines
tree_of_lines inst lines r e over = tree_by inst lines r over inst.turn refl e

-- ---- what is believed of lines that were read to the end

pub none_earlier_of : (inst : InstanceView) (r : Reading) (file left : Option (List ℕ)) → Valid inst
    → IsReached inst r file left → r.coming ≡ [] → NoneEarlier inst r.bound
none_earlier_of inst r file left v reached none sched goes =
    let read = tree_of_lines inst reached.lines r reached.reading none in
    subst (λ (b : Bound). IsAtMost b (Least (ends inst sched))) (sym read.bound)
    (tree_bound inst v read.tree read.is_tree sched goes)

-- a file of which nothing is left is what was taken of it
told : (file left : Option (List ℕ)) (text all : List ℕ) → text ≡ all
    → IfSome file (λ bytes. IfSome left (λ rest. bytes ≡ text ++ rest)) → IfSome file (λ _. left ≡ Some [])
    → IfSome file (λ bytes. bytes ≡ all)
told None left text all e taken whole = tt
told (Some bytes) left text all e taken whole =
    let same = subst (λ (o : Option (List ℕ)). IfSome o (λ rest. bytes ≡ text ++ rest)) whole taken in
    same ∙ append-nil text ∙ e

-- where the file is told, nothing is left of it
pub shown_of : (inst : InstanceView) (r : Reading) (file left : Option (List ℕ))
    → IsReached inst r file left → IfSome file (λ _. left ≡ Some []) → r.coming ≡ []
    → IsShown inst file (replayed r)
shown_of inst r file left reached whole none =
    let read = tree_of_lines inst reached.lines r reached.reading none in
    record {
      tree = read.tree;
      is_tree = read.is_tree;
      bound = read.bound;
      branched = read.branched;
      text = told file left (lines_text reached.lines) (tree_text inst read.tree) read.text reached.taken whole;
    }
