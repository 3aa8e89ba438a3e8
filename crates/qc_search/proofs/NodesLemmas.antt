-- Nodes that are written one after another, and where their lines are cut.
use Rattle.std.proofs.Common.{◌≡◌, ℕ, ◌≤◌, List, [], ◌∷◌, ◌++◌, map, Option, None, Some, Result, Ok, Err, refl, ap, sym, subst, subst₂, ◌∙◌, append_assoc, arith, IsErr, IfOk, OnOk}
use Rattle.std.proofs.lemmas.Bool.{false≢true}
use Rattle.std.proofs.lemmas.List.{append-nil, map-append}
use Rattle.std.proofs.lemmas.Grind.{flat_map-append}
use Rattle.std.specs.Io.KnownBytes.{append_known}
use Rattle.std.specs.Prelude.{⊤}
use Rattle.qc_io.specs.declared.writing.WriteFault.{WriteFault}
use Rattle.qc_io.specs.Outside.{View}
use Rattle.qc_io.specs.Writes.{Writes}
use Rattle.qc_io.proofs.WritesLemmas.{writes_cut, writes_then}
use Rattle.qc_num.specs.declared.bound.Bound.{Bound}
use Rattle.qc_num.specs.Paths.{HasRoom}
use Rattle.smallvec.specs.SmallVec.{SmallVec}
use Rattle.qc_close.specs.Model.{Decision, Direction, Slot, InstanceView, most_tasks}
use Rattle.qc_tree.specs.Trees.{Node, Sign, branchings, children, part_text, sign_text}
use Rattle.qc_tree.proofs.NodeLemmas.{all_given_up, given_up, leads_then, none_branched}
use Rattle.qc_search.specs.declared.progress.Progress.{Progress}
use Rattle.qc_search.specs.Earned.{TreeNode, branchings_in, node_at, part_nodes}
use Rattle.qc_search.specs.Progress.{AreEarned, Comes, IsAlong, IsKept, IsPartOf, IsProgress, IsStep, WritesNodes, emptied, left_by}
use Rattle.qc_search.proofs.EarnedLemmas.{branched_in, branchings-append, earned_then}

-- what is asked of a value is asked of no fault
pub none_asked : {A E : Type 0} (P : A → Type 0) (result : Result A E) → IsErr result → IfOk result P
none_asked P (Ok x) is = absurd (false≢true is)
none_asked P (Err fault) is = tt

-- ---- nodes one behind the other

-- these nodes, each given up
abbrev pub all_up : InstanceView → List (List Decision) → List Node
all_up inst due = map (given_up inst) due

along_then : (inst : InstanceView) (a b c : Progress) → IsAlong inst a b → IsAlong inst b c → IsAlong inst a c
along_then inst a b c one two = record {
  limit = two.limit ∙ one.limit;
  aim = two.aim ∙ one.aim;
  count = λ h. two.count (one.count h);
  room = λ h. two.room (one.room h);
  soon = λ h. two.soon (one.soon h);
}

-- what holds of an answer that came through, and what follows from it
on_ok : (result : Result ⊤ WriteFault) (P Q : Type 0) → (P → Q) → OnOk result P → OnOk result Q
on_ok (Ok x) P Q f p = f p
on_ok (Err fault) P Q f p = tt

same_bytes : (bytes : Option (List ℕ)) → bytes ≡ append_known bytes []
same_bytes None = refl
same_bytes (Some b) = ap Some (sym (append-nil b))

-- another path changes nothing
by_path : (home : InstanceView) (first : Option (List Slot)) (now : Progress) (path : SmallVec ℕ) (nodes : List TreeNode)
    → IsProgress home first now nodes → IsProgress home first (record now { path = path }) nodes
by_path home first now path nodes p = record {
  few = p.few;
  branched = p.branched;
  bound = p.bound;
  known = p.known;
  under = p.under;
  best = λ end e.
      let k : IsKept home first now nodes end = p.best end e in
      record {
        node = k.node;
        from = k.from;
        begins = k.begins;
        fits = k.fits;
        solved = k.solved;
        ends = k.ends;
        soon = k.soon;
        way = k.way;
        only_up = k.only_up;
        is = k.is;
      };
  late = p.late;
}

module _ {inst : InstanceView} {way : Direction} where
  comes_then : (one two : List Node) (a b c : Progress) → Comes inst way one a b → Comes inst way two b c
      → Comes inst way (one ++ two) a c
  comes_then one two a b c f g = record {
    along = along_then inst a b c f.along g.along;
    earned = λ home first before seen_so now.
        let p = f.earned home first before seen_so now in
        let mine = part_nodes way one in
        let q = g.earned home first (before ++ mine) seen_so p.1 in
        let both : part_nodes way (one ++ two) ≡ mine ++ part_nodes way two =
        map-append (λ (node : Node). node_at way node.decisions node.sign) one two in
        let after = subst₂ (λ (n : ℕ) (aim : Bound). AreEarned home n aim (before ++ mine) (part_nodes way two)) f.along.limit f.along.aim q.0 in (
          subst (AreEarned home a.limit a.aim before) (sym both)
              (earned_then home a.limit a.aim before mine (part_nodes way two) p.0 after),
          subst (IsProgress home first c)
              (append_assoc before mine (part_nodes way two) ∙ ap (λ (r : List TreeNode). before ++ r) (sym both))
              q.1,
        );
  }

  -- no line
  pub none_written : (sink : View) (due : List (List Decision)) (now : Progress)
      → WritesNodes [] sink sink inst way due due now now (Ok tt)
  none_written sink due now = record {
    nodes = [];
    leads = refl;
    writes = record {
      whole = same_bytes sink.written;
      unfailed = refl;
      part = tt;
      rose = tt;
      beside_stays = refl;
      never_falls = omega arith;
    };
    few = λ home first earlier seen_so p.
        omega (arith, p.few, p.branched, ap branchings_in (append-nil earlier));
    comes = record {
      along = record { limit = refl; aim = refl; count = λ h. h; room = λ h. h; soon = λ h. h };
      earned = λ home first before seen_so p. (tt, subst (IsProgress home first now) (sym (append-nil before)) p);
    };
  }

  -- lines behind others
  pub nodes_then : {front : List ℕ} {before now after : View} {due between left : List (List Decision)}
      {a b c : Progress} {result : Result ⊤ WriteFault}
      → WritesNodes front before now inst way due between a b (Ok tt)
      → WritesNodes [] now after inst way between left b c result
      → WritesNodes front before after inst way due left a c result
  nodes_then {front} {before} {now} {after} {due} {between} {left} {a} {b} {c} {result} one two =
      let mine = part_nodes way one.nodes in
      let both : part_nodes way (one.nodes ++ two.nodes) ≡ mine ++ part_nodes way two.nodes =
      map-append (λ (node : Node). node_at way node.decisions node.sign) one.nodes two.nodes in
      record {
        nodes = one.nodes ++ two.nodes;
        leads = leads_then inst one.nodes two.nodes due between left one.leads two.leads;
        writes = subst (λ (x : List ℕ). Writes before after x result)
            (append_assoc front (part_text one.nodes) (part_text two.nodes)
            ∙ ap (λ (x : List ℕ). front ++ x) (sym (flat_map-append (λ (node : Node). sign_text node.sign) one.nodes two.nodes)))
            (writes_then before now after (front ++ part_text one.nodes) (part_text two.nodes) result one.writes two.writes);
        few = λ home first earlier seen_so p.
            let q = one.comes.earned home first earlier seen_so p in
            omega (
              arith,
              two.few home first (earlier ++ mine) seen_so q.1,
              ap branchings_in (append_assoc earlier mine (part_nodes way two.nodes)),
              ap (λ (r : List TreeNode). branchings_in (earlier ++ r)) both,
              one.comes.along.limit,
            );
        comes = on_ok result (Comes inst way two.nodes b c) (Comes inst way (one.nodes ++ two.nodes) a c)
            (comes_then one.nodes two.nodes a b c one.comes) two.comes;
      }

  -- lines behind a text
  pub behind_front : {front : List ℕ} {before now after : View} {due left : List (List Decision)}
      {old new : Progress} {result : Result ⊤ WriteFault}
      → Writes before now front (Ok tt) → WritesNodes [] now after inst way due left old new result
      → WritesNodes front before after inst way due left old new result
  behind_front {front} {before} {now} {after} {due} {left} {old} {new} {result} first n = record {
    nodes = n.nodes;
    leads = n.leads;
    writes = writes_then before now after front (part_text n.nodes) result first n.writes;
    few = n.few;
    comes = n.comes;
  }

  -- a text that was cut before any line
  pub front_cut : {front : List ℕ} {before after : View} (due : List (List Decision)) (old new : Progress)
      (fault : WriteFault) → Writes before after front (Err fault)
      → WritesNodes front before after inst way due [] old new (Err fault)
  front_cut {front} {before} {after} due old new fault w = record {
    nodes = all_up inst due;
    leads = all_given_up inst due;
    writes = writes_cut before after front (part_text (all_up inst due)) fault (Err fault) refl w;
    few = λ home first earlier seen_so p. omega (
      arith,
      p.few,
      p.branched,
      branchings-append earlier (part_nodes way (all_up inst due)),
      branched_in way (all_up inst due),
      none_branched inst due,
    );
    comes = tt;
  }

  -- ---- the line of one node

  step_few : (ds : List Decision) (sign : Sign) (old new : Progress) → IsStep inst way ds sign old new
      → (rest : List Node) → branchings rest ≡ 0 → (home : InstanceView) (first : Option (List Slot))
      (earlier : List TreeNode) → IsPartOf home way inst → IsProgress home first old earlier
      → branchings_in (earlier ++ part_nodes way (record { decisions = ds; sign = sign } ∷ rest)) ≤ old.limit
  step_few ds sign old new step rest none home first earlier seen_so p =
      let told = (step.earned home first earlier seen_so p).1 in
      let here = node_at way ds sign ∷ [] in
      omega (
        arith,
        branchings-append earlier (here ++ part_nodes way rest),
        branchings-append here (part_nodes way rest),
        branchings-append earlier here,
        branched_in way rest,
        none,
        told.branched,
        told.few,
        step.along.limit,
      )

  pub step_written : {before after : View} (ds : List Decision) (more : List (List Decision)) (sign : Sign)
      (old new : Progress) (result : Result ⊤ WriteFault) → IsStep inst way ds sign old new
      → Writes before after (sign_text sign) result
      → WritesNodes [] before after inst way (ds ∷ more) (left_by (λ _. children inst ds sign ++ more) result) old new result
  step_written {before} {after} ds more sign old new (Ok x) step w = record {
    nodes = record { decisions = ds; sign = sign } ∷ [];
    leads = (refl, step.holds, refl);
    writes = subst (λ (x : List ℕ). Writes before after x (Ok tt)) (sym (append-nil (sign_text sign))) w;
    few = step_few ds sign old new step [] refl;
    comes = record {
      along = step.along;
      earned = λ home first before seen_so p.
          let s = step.earned home first before seen_so p in ((s.0, tt), s.1);
    };
  }
  step_written {before} {after} ds more sign old new (Err fault) step w =
      let rest = all_up inst (children inst ds sign ++ more) in
      record {
        nodes = record { decisions = ds; sign = sign } ∷ rest;
        leads = (refl, step.holds, all_given_up inst (children inst ds sign ++ more));
        writes = writes_cut before after (sign_text sign) (part_text rest) fault (Err fault) refl w;
        few = step_few ds sign old new step rest (none_branched inst (children inst ds sign ++ more));
        comes = tt;
      }

  -- ---- the same of another answer, and from another path

  -- an answer that is a fault
  pub on_fault : {A : Type 0} {front : List ℕ} {before after : View} {due : List (List Decision)} {old new : Progress}
      (left : A → List (List Decision)) (end : Progress) (result : Result A WriteFault) → IsErr result
      → WritesNodes front before after inst way due [] old new (Err (record {}))
      → WritesNodes front before after inst way due (left_by left result) old end (emptied result)
  on_fault left end (Ok x) is n = absurd (false≢true is)
  on_fault left end (Err fault) is n =
      record { nodes = n.nodes; leads = n.leads; writes = n.writes; few = n.few; comes = tt }

  -- the same where nothing was to be left
  pub on_fault_whole : {front : List ℕ} {before after : View} {due : List (List Decision)} {old new : Progress}
      (end : Progress) (result : Result ⊤ WriteFault) → IsErr result
      → WritesNodes front before after inst way due [] old new (Err (record {}))
      → WritesNodes front before after inst way due [] old end result
  on_fault_whole end (Ok x) is n = absurd (false≢true is)
  on_fault_whole end (Err fault) is n =
      record { nodes = n.nodes; leads = n.leads; writes = n.writes; few = n.few; comes = tt }

  pub from_path : {front : List ℕ} {before after : View} {due left : List (List Decision)} {new : Progress}
      {result : Result ⊤ WriteFault} (old : Progress) (path : SmallVec ℕ)
      → (HasRoom most_tasks old.path → HasRoom most_tasks path)
      → WritesNodes front before after inst way due left (record old { path = path }) new result
      → WritesNodes front before after inst way due left old new result
  from_path {front} {before} {after} {due} {left} {new} {result} old path room n = record {
    nodes = n.nodes;
    leads = n.leads;
    writes = n.writes;
    few = λ home first earlier seen_so p. n.few home first earlier seen_so (by_path home first old path earlier p);
    comes = on_ok result (Comes inst way n.nodes (record old { path = path }) new) (Comes inst way n.nodes old new)
        (λ c. record {
          along = record {
            limit = c.along.limit;
            aim = c.along.aim;
            count = c.along.count;
            room = λ h. c.along.room (room h);
            soon = c.along.soon;
          };
          earned = λ home first before seen_so p. c.earned home first before seen_so (by_path home first old path before p);
        }) n.comes;
  }
