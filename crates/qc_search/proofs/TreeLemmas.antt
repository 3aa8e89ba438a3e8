-- The lines of a whole tree, and where they are cut.
use Rattle.std.proofs.Common.{◌≡◌, ℕ, ◌≤◌, List, [], ◌∷◌, ◌++◌, Option, Result, Ok, Err, refl, ap, ap₂, sym, subst, subst₂, ◌∙◌, append_assoc, arith, IsErr, OnOk}
use Rattle.std.proofs.lemmas.Bool.{false≢true}
use Rattle.std.proofs.lemmas.List.{append-nil}
use Rattle.std.specs.Prelude.{⊤}
use Rattle.qc_io.specs.declared.writing.WriteFault.{WriteFault}
use Rattle.qc_io.specs.Outside.{View}
use Rattle.qc_io.specs.Writes.{Writes}
use Rattle.qc_io.proofs.WritesLemmas.{writes_cut, writes_then}
use Rattle.qc_num.specs.declared.bound.Bound.{Bound}
use Rattle.qc_num.specs.Bounds.{lesser}
use Rattle.qc_close.specs.Model.{Up, Down, Turn, OneWay, Free, Slot, InstanceView, most_branchings, mirror}
use Rattle.qc_tree.specs.declared.line.Line.TheVariants as line
use Rattle.qc_tree.specs.Trees.{IsPart, IsSecond, IsTree, Node, Tree, branchings, lines_by, part_text, tree_branchings, tree_text, tree_value, whole_line}
use Rattle.qc_model.proofs.SeenLemmas.{seen-task_count}
use Rattle.qc_model.proofs.TurnLemmas.{two_turns}
use Rattle.qc_tree.proofs.NodeLemmas.{all_given_up, none_branched}
use Rattle.qc_search.specs.declared.progress.Progress.{Progress}
use Rattle.qc_search.specs.Earned.{TreeNode, part_nodes, tree_nodes}
use Rattle.qc_search.specs.Progress.{AreEarned, IsAlong, IsPartOf, IsProgress, WritesNodes, WritesTree}
use Rattle.qc_search.proofs.EarnedLemmas.{branched_in, branchings-append, earned_then, value-append, valued_in}
use Rattle.qc_search.proofs.NodesLemmas.{all_up}

-- ---- what the nodes of a tree come to

module _ (home : InstanceView) (first : Option (List Slot)) (tree : Tree) (now : Progress)
    (p : IsProgress home first now (tree_nodes tree)) where
  pub branched_is : now.branched ≡ tree_branchings tree
  branched_is = omega (
    arith,
    p.branched,
    branchings-append (part_nodes Up tree.up) (part_nodes Down tree.down),
    branched_in Up tree.up,
    branched_in Down tree.down,
  )

  pub bound_is : now.bound ≡ tree_value home tree
  bound_is =
      p.bound ∙ value-append home (part_nodes Up tree.up) (part_nodes Down tree.down)
      ∙ ap₂ lesser (valued_in home Up tree.up) (valued_in home Down tree.down)

-- ---- texts

module _ (t u a d b e : List ℕ) where
  after_title : t ++ (u ++ (a ++ (d ++ (b ++ e)))) ≡ t ++ u ++ a ++ d ++ b ++ e
  after_title = simp append_assoc

  after_up : (t ++ (u ++ a)) ++ (d ++ (b ++ e)) ≡ t ++ u ++ a ++ d ++ b ++ e
  after_up = simp append_assoc

  after_down : ((t ++ (u ++ a)) ++ (d ++ b)) ++ e ≡ t ++ u ++ a ++ d ++ b ++ e
  after_down = simp append_assoc

-- ---- both parts

-- what holds whatever the answer is
given : (result : Result ⊤ WriteFault) (P : Type 0) → P → OnOk result P
given (Ok x) P p = p
given (Err fault) P p = tt

-- what is the same all along both parts
along_then : (home : InstanceView) (old mid new : Progress) → IsAlong home old mid → IsAlong (mirror home) mid new
    → IsAlong home old new
along_then home old mid new up down =
    let n = seen-task_count home Down in
    record {
      limit = down.limit ∙ up.limit;
      aim = down.aim ∙ up.aim;
      count = λ c. down.count (up.count c ∙ sym n) ∙ n;
      room = λ r. down.room (up.room r);
      soon = λ s. down.soon (up.soon s);
    }

-- an answer that is a fault
pub by_fault : {before after : View} {home : InstanceView} {first : Option (List Slot)} {old new : Progress}
    (end : Progress) (result : Result ⊤ WriteFault) → IsErr result
    → WritesTree before after home first old new (Err (record {})) → WritesTree before after home first old end result
by_fault end (Ok x) is w = absurd (false≢true is)
by_fault end (Err fault) is w = record {
  tree = w.tree;
  is_tree = w.is_tree;
  writes = w.writes;
  earned = tt;
  progress = tt;
  along = tt;
}

abbrev title : List ℕ
title = whole_line line.Title []

abbrev up_line : List ℕ
up_line = whole_line line.Up []

abbrev down_line : List ℕ
down_line = whole_line line.Down []

abbrev tree_of : List Node → List Node → Tree
tree_of up down = record { up = up; down = down }

abbrev end_line : InstanceView → Tree → List ℕ
end_line home tree = whole_line (line.End (tree_branchings tree) (tree_value home tree)) []

-- the root of a part that is given up
abbrev root : InstanceView → List Node
root inst = all_up inst ([] ∷ [])

-- the parts of a tree
pub up_part : (home : InstanceView) → IsPartOf home Up home
up_part home = record { same = refl; only_up = λ _. refl }

pub down_part : (home : InstanceView) → home.turn ≡ OneWay → IsPartOf home Down (mirror home)
down_part home one = record { same = refl; only_up = λ as_free. absurd (two_turns (sym one ∙ as_free)) }

module _ (home : InstanceView) (first : Option (List Slot)) (before : View) (old new : Progress)
    (begun : IsProgress home first old [])
    (most : old.limit ≤ most_branchings) where
  -- a front part of the text that was cut
  cut_at : {after : View} (up down : List Node) → IsTree home (tree_of up down) → (front rest : List ℕ) (fault : WriteFault)
      → Writes before after front (Err fault) → front ++ rest ≡ tree_text home (tree_of up down)
      → WritesTree before after home first old new (Err fault)
  cut_at {after} up down is front rest fault w same = record {
    tree = tree_of up down;
    is_tree = is;
    writes = subst (λ (x : List ℕ). Writes before after x (Err fault)) same
        (writes_cut before after front rest fault (Err fault) refl w);
    earned = tt;
    progress = tt;
    along = tt;
  }

  -- ---- where cranes go one way

  module _ (one : home.turn ≡ OneWay) where
    second_part : (nodes : List Node) → IsPart (mirror home) nodes → IsSecond home.turn home nodes
    second_part nodes part = subst (λ (t : Turn). IsSecond t home nodes) (sym one) part

    -- the text of both parts
    both_text : (up down : List Node)
        → title ++ up_line ++ part_text up ++ down_line ++ part_text down ++ end_line home (tree_of up down)
        ≡ tree_text home (tree_of up down)
    both_text up down = ap (λ (t : Turn). lines_by t (tree_of up down) ++ end_line home (tree_of up down)) (sym one)

    pub title_cut : {after : View} (fault : WriteFault) → Writes before after title (Err fault)
        → WritesTree before after home first old new (Err fault)
    title_cut {after} fault w =
        let up = root home in
        let down = root (mirror home) in
        let is : IsTree home (tree_of up down) = record {
          up = all_given_up home ([] ∷ []);
          down = second_part down (all_given_up (mirror home) ([] ∷ []));
          few = omega (
            arith,
            none_branched home ([] ∷ []),
            none_branched (mirror home) ([] ∷ []),
          );
        } in
        cut_at up down is title _ fault w
        (after_title title up_line (part_text up) down_line (part_text down) (end_line home (tree_of up down)) ∙ both_text up down)

    module _ {titled : View} (head : Writes before titled title (Ok tt)) where
      pub up_cut : {after : View} (mid : Progress) (fault : WriteFault)
          → WritesNodes up_line titled after home Up ([] ∷ []) [] old mid (Err fault)
          → WritesTree before after home first old new (Err fault)
      up_cut {after} mid fault n =
          let down = root (mirror home) in
          let is : IsTree home (tree_of n.nodes down) = record {
            up = n.leads;
            down = second_part down (all_given_up (mirror home) ([] ∷ []));
            few = omega (
              arith,
              n.few home first [] (up_part home) begun,
              branched_in Up n.nodes,
              none_branched (mirror home) ([] ∷ []),
              most,
            );
          } in
          let a = part_text n.nodes in
          cut_at n.nodes down is (title ++ (up_line ++ a)) _ fault
          (writes_then before titled after title (up_line ++ a) (Err fault) head n.writes)
          (after_up title up_line a down_line (part_text down) (end_line home (tree_of n.nodes down)) ∙ both_text n.nodes down)

      module _ {upped : View} (mid : Progress)
          (up : WritesNodes up_line titled upped home Up ([] ∷ []) [] old mid (Ok tt)) where
        up_written : Writes before upped (title ++ (up_line ++ part_text up.nodes)) (Ok tt)
        up_written = writes_then before titled upped title (up_line ++ part_text up.nodes) (Ok tt) head up.writes

        abbrev up_nodes : List TreeNode
        up_nodes = part_nodes Up up.nodes

        up_told : AreEarned home old.limit old.aim [] up_nodes × IsProgress home first mid up_nodes
        up_told = up.comes.earned home first [] (up_part home) begun

        -- the down part, whole or cut, makes a tree
        down_tree : {end : Progress} {there : View} {result : Result ⊤ WriteFault}
            → (n : WritesNodes down_line upped there (mirror home) Down ([] ∷ []) [] mid end result)
            → IsTree home (tree_of up.nodes n.nodes)
        down_tree n = record {
          up = up.leads;
          down = second_part n.nodes n.leads;
          few = omega (
            arith,
            n.few home first up_nodes (down_part home one) up_told.1,
            branchings-append up_nodes (part_nodes Down n.nodes),
            branched_in Up up.nodes,
            branched_in Down n.nodes,
            up.comes.along.limit,
            most,
          );
        }

        pub down_cut : {after : View} (end : Progress) (fault : WriteFault)
            → WritesNodes down_line upped after (mirror home) Down ([] ∷ []) [] mid end (Err fault)
            → WritesTree before after home first old new (Err fault)
        down_cut {after} end fault n =
            let a = part_text up.nodes in
            let b = part_text n.nodes in
            cut_at up.nodes n.nodes (down_tree n) ((title ++ (up_line ++ a)) ++ (down_line ++ b))
            (end_line home (tree_of up.nodes n.nodes)) fault
            (writes_then before upped after (title ++ (up_line ++ a)) (down_line ++ b) (Err fault) up_written n.writes)
            (after_down title up_line a down_line b (end_line home (tree_of up.nodes n.nodes)) ∙ both_text up.nodes n.nodes)

        -- the line at the end, whole or cut
        pub end_written : {downed after : View} (down : WritesNodes down_line upped downed (mirror home) Down ([] ∷ []) [] mid new (Ok tt))
            → (result : Result ⊤ WriteFault)
            → Writes downed after (whole_line (line.End new.branched new.bound) []) result
            → WritesTree before after home first old new result
        end_written {downed} {after} down result last =
            let a = part_text up.nodes in
            let b = part_text down.nodes in
            let tree = tree_of up.nodes down.nodes in
            let front = (title ++ (up_line ++ a)) ++ (down_line ++ b) in
            let told = down.comes.earned home first up_nodes (down_part home one) up_told.1 in
            let second = subst₂ (λ (n : ℕ) (a : Bound). AreEarned home n a up_nodes (part_nodes Down down.nodes)) up.comes.along.limit
            up.comes.along.aim told.0 in
            let all = earned_then home old.limit old.aim [] up_nodes (part_nodes Down down.nodes) up_told.0 second in
            let text : front ++ whole_line (line.End new.branched new.bound) [] ≡ tree_text home tree =
            ap₂ (λ (n : ℕ) (v : Bound). front ++ whole_line (line.End n v) []) (branched_is home first tree new told.1)
            (bound_is home first tree new told.1)
            ∙ after_down title up_line a down_line b (end_line home tree) ∙ both_text up.nodes down.nodes in
            record {
              tree = tree;
              is_tree = down_tree down;
              writes = subst (λ (x : List ℕ). Writes before after x result) text
                  (writes_then before downed after front (whole_line (line.End new.branched new.bound) []) result
                  (writes_then before upped downed (title ++ (up_line ++ a)) (down_line ++ b) (Ok tt) up_written down.writes)
                  last);
              earned = given result (AreEarned home old.limit old.aim [] (tree_nodes tree)) all;
              progress = given result (IsProgress home first new (tree_nodes tree)) told.1;
              along = given result (IsAlong home old new)
                  (along_then home old mid new up.comes.along down.comes.along);
            }

  -- ---- where cranes go as they like

  module _ (as_free : home.turn ≡ Free) where
    abbrev free_title : List ℕ
    free_title = whole_line line.FreeTitle []

    no_second : IsSecond home.turn home []
    no_second = subst (λ (t : Turn). IsSecond t home []) (sym as_free) refl

    one_text : (up : List Node) → free_title ++ part_text up ++ end_line home (tree_of up []) ≡ tree_text home (tree_of up [])
    one_text up = ap (λ (t : Turn). lines_by t (tree_of up []) ++ end_line home (tree_of up [])) (sym as_free)

    one_tree : (up : List Node) → IsPart home up → branchings up ≤ most_branchings → IsTree home (tree_of up [])
    one_tree up part few = record { up = part; down = no_second; few = omega (arith, few) }

    pub free_title_cut : {after : View} (fault : WriteFault) → Writes before after free_title (Err fault)
        → WritesTree before after home first old new (Err fault)
    free_title_cut {after} fault w =
        let up = root home in
        cut_at up [] (one_tree up (all_given_up home ([] ∷ []))
        (omega (arith, none_branched home ([] ∷ [])))) free_title _ fault w
        (sym (append_assoc free_title (part_text up) (end_line home (tree_of up []))) ∙ one_text up)

    module _ {titled : View} (head : Writes before titled free_title (Ok tt)) where
      -- the part, whole or cut, makes a tree
      part_tree : {end : Progress} {there : View} {result : Result ⊤ WriteFault}
          → (n : WritesNodes [] titled there home Up ([] ∷ []) [] old end result) → IsTree home (tree_of n.nodes [])
      part_tree n =
          one_tree n.nodes n.leads (omega (arith, n.few home first [] (up_part home) begun, branched_in Up n.nodes, most))

      pub free_part_cut : {after : View} (end : Progress) (fault : WriteFault)
          → WritesNodes [] titled after home Up ([] ∷ []) [] old end (Err fault)
          → WritesTree before after home first old new (Err fault)
      free_part_cut {after} end fault n =
          cut_at n.nodes [] (part_tree n) (free_title ++ part_text n.nodes) (end_line home (tree_of n.nodes [])) fault
          (writes_then before titled after free_title (part_text n.nodes) (Err fault) head n.writes) (one_text n.nodes)

      -- the line at the end, whole or cut
      pub free_end_written : {parted after : View} (up : WritesNodes [] titled parted home Up ([] ∷ []) [] old new (Ok tt))
          → (result : Result ⊤ WriteFault)
          → Writes parted after (whole_line (line.End new.branched new.bound) []) result
          → WritesTree before after home first old new result
      free_end_written {parted} {after} up result last =
          let a = part_text up.nodes in
          let tree = tree_of up.nodes [] in
          let nodes : part_nodes Up up.nodes ≡ tree_nodes tree = sym (append-nil (part_nodes Up up.nodes)) in
          let told = up.comes.earned home first [] (up_part home) begun in
          let all = subst (AreEarned home old.limit old.aim []) nodes told.0 in
          let now = subst (IsProgress home first new) nodes told.1 in
          let text : free_title ++ a ++ whole_line (line.End new.branched new.bound) [] ≡ tree_text home tree =
          ap₂ (λ (n : ℕ) (v : Bound). free_title ++ a ++ whole_line (line.End n v) []) (branched_is home first tree new now)
          (bound_is home first tree new now)
          ∙ one_text up.nodes in
          record {
            tree = tree;
            is_tree = part_tree up;
            writes = subst (λ (x : List ℕ). Writes before after x result) text
                (writes_then before parted after (free_title ++ a) (whole_line (line.End new.branched new.bound) []) result
                (writes_then before titled parted free_title a (Ok tt) head up.writes)
                last);
            earned = given result (AreEarned home old.limit old.aim [] (tree_nodes tree)) all;
            progress = given result (IsProgress home first new (tree_nodes tree)) now;
            along = given result (IsAlong home old new) up.comes.along;
          }
