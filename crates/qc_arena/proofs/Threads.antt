-- Threads: what the links of cells say of the arcs of a node.
use Rattle.std.proofs.Common.{◌≡◌, ℕ, ◌<◌, inl, inr, List, [], ◌∷◌, ◌++◌, Option, Some, None, length, map, take, drop, cond, reverse, slice_index_or, slice_set, All, option_map, refl, sym, ap, subst, ◌∙◌, arith, ◌==◌}
use Rattle.std.proofs.lemmas.List.Elements.{All-pop}
use Rattle.std.proofs.lemmas.List.{reverse-append, reverse-reverse, length-reverse, take-append-drop, append_assoc, map-append, length-append, get_or-set_same, get_or-set_other}
use Rattle.std.proofs.Math.ListN.{length-set}
use Rattle.std.proofs.Math.Seq.{take-append_seam, get_or-append_seam}
use Rattle.std.proofs.lemmas.Bool.{cases_Bool, eqb-true}
use Rattle.std.proofs.lemmas.Bool.Decides.{eqb_tells}
use Rattle.std.specs.List.{filter}
use denote.RawPtr.{Ptr}
use Rattle.qc_arena.specs.declared.edge.Edge.{Edge}
use Rattle.qc_arena.specs.declared.block.Cell.{Cell}
use Rattle.qc_arena.specs.declared.block.Link.{Link}
use Rattle.qc_arena.specs.declared.block.Side.{Side}
use Rattle.qc_arena.specs.contracts.block.Cell.{the_row}
use Rattle.qc_arena.specs.Memory.{place_of}
use Rattle.qc_arena.specs.Chains.{arc_of, newest, newest_link, AreLinked, IsThreaded, IsAhead, node_at, older_at, side_arcs}

-- the arcs of the node, of cells given newest first
abbrev hits : Side → ℕ → List Cell → List Edge
hits side node cells = filter (λ arc. node_at side arc == node) (map arc_of cells)

-- the node's newest cell is the one of that number, and the arcs after it are those of older cells
record Found (base : Ptr) (side : Side) (node number : ℕ) (cells : List Cell) : Type 0 where
  front : List Cell
  cell : Cell
  older : List Cell
  split : cells ≡ front ++ cell ∷ older
  count : length older ≡ number
  arcs : hits side node cells ≡ arc_of cell ∷ hits side node older
  same : node_at side (arc_of cell) ≡ node
  linked : AreLinked base side (cell ∷ older)

same_number : {a b : ℕ} → ◌≡◌ {A = Option ℕ} (Some a) (Some b) → a ≡ b
same_number e = cc

found : (base : Ptr) (side : Side) (node number : ℕ) (cells : List Cell) → newest side node cells ≡ Some number
    → AreLinked base side cells → Found base side node number cells
found base side node number [] e linked = cc
found base side node number (cell ∷ older) e linked = elim (cases_Bool (node_at side (arc_of cell) == node)) [
  | inl here ↦ record {
    front = [];
    cell = cell;
    older = older;
    split = refl;
    count = same_number (sym (ap (λ b. cond b (Some (length older)) (newest side node older)) here) ∙ e);
    arcs = ap (λ b. cond b (arc_of cell ∷ hits side node older) (hits side node older)) here;
    same = eqb-true (node_at side (arc_of cell)) node here;
    linked = linked;
  }
  | inr other ↦
      let rest = found base side node number older (sym (ap (λ b. cond b (Some (length older)) (newest side node older)) other) ∙ e) linked.2 in record {
        front = cell ∷ rest.front;
        cell = rest.cell;
        older = rest.older;
        split = ap (λ cells. cell ∷ cells) rest.split;
        count = rest.count;
        arcs = ap (λ b. cond b (arc_of cell ∷ hits side node older) (hits side node older)) other ∙ rest.arcs;
        same = rest.same;
        linked = rest.linked;
      }
]

-- where the node has no newest cell, it has no arc
none_found : (side : Side) (node : ℕ) (cells : List Cell) → newest side node cells ≡ None → hits side node cells ≡ []
none_found side node [] e = refl
none_found side node (cell ∷ older) e = elim (cases_Bool (node_at side (arc_of cell) == node)) [
  | inl here ↦ absurd (some_none (sym (ap (λ b. cond b (Some (length older)) (newest side node older)) here) ∙ e))
  | inr other ↦ ap (λ b. cond b (arc_of cell ∷ hits side node older) (hits side node older)) other ∙ none_found side node older (sym (ap (λ b. cond b (Some (length older)) (newest side node older)) other) ∙ e)
] where
  some_none : {a : ℕ} → ◌≡◌ {A = Option ℕ} (Some a) None → ⊥
  some_none e = cc

map_reverse : {A B : Type 0} (f : A → B) (xs : List A) → reverse (map f xs) ≡ map f (reverse xs)
map_reverse f [] = refl
map_reverse f (x ∷ xs) =
    reverse-append (f x ∷ []) (map f xs) ∙ ap (λ ys. ys ++ f x ∷ []) (map_reverse f xs)
    ∙ sym (ap (map f) (reverse-append (x ∷ []) xs) ∙ map-append f (reverse xs) (x ∷ []))

-- a list before one of its elements, where it is known what stands around that one
record Cut (cells : List Cell) (number : ℕ) (cell : Cell) (older : List Cell) : Type 0 where
  inside : number < length cells
  before : take number cells ≡ reverse older
  cell_is : (d : Cell) → slice_index_or cells number d ≡ cell

cut : (cells front older : List Cell) (cell : Cell) (among number : ℕ)
    → reverse (take among cells) ≡ front ++ cell ∷ older → length older ≡ number → Cut cells number cell older
cut cells front older cell among number split count =
    let rest : List Cell = reverse front ++ drop among cells in
    let taken : take among cells ≡ reverse older ++ (cell ∷ reverse front) =
    sym (reverse-reverse (take among cells)) ∙ ap reverse split ∙ reverse-append front (cell ∷ older)
    ∙ ap (λ xs. xs ++ reverse front) (reverse-append (cell ∷ []) older) ∙ append_assoc (reverse older) (cell ∷ []) (reverse front) in
    let whole : cells ≡ reverse older ++ (cell ∷ rest) =
    sym (take-append-drop among cells) ∙ ap (λ xs. xs ++ drop among cells) taken
    ∙ append_assoc (reverse older) (cell ∷ reverse front) (drop among cells) in
    let long : length (reverse older) ≡ number = length-reverse older ∙ count in record {
      inside = rw (whole, length-append (reverse older) (cell ∷ rest), long) (omega arith);
      before = ap (take number) whole ∙ ap (λ n. take n (reverse older ++ (cell ∷ rest))) (sym long) ∙ take-append_seam (reverse older) (cell ∷ rest);
      cell_is = λ d. ap (λ xs. slice_index_or xs number d) whole
          ∙ ap (λ n. slice_index_or (reverse older ++ (cell ∷ rest)) n d) (sym long)
          ∙ get_or-append_seam (reverse older) cell rest d;
    }

-- the walk goes on at that cell
pub record After (base : Ptr) (side : Side) (cells : List Cell) (node among : ℕ) (cell : Cell) : Type 0 where
  pub arcs : side_arcs side node among cells ≡ arc_of cell ∷ side_arcs side node cell.number cells
  pub ahead : IsAhead base side cells node cell.number (older_at side cell)

-- a walk with a link stands before the cell that it leads to
pub record Step (base : Ptr) (side : Side) (cells : List Cell) (node among : ℕ) (link : Link) : Type 0 where
  pub number : ℕ
  pub inside : number < length cells
  pub place : link.at ≡ place_of the_row base number
  pub after : (cell : Cell) → cell ≡ slice_index_or cells number cell → After base side cells node among cell

numbered : (base : Ptr) (o : Option ℕ) (link : Link)
    → Some link ≡ option_map (λ number. record { at = place_of the_row base number }) o
    → (number : ℕ) × (o ≡ Some number) × (link.at ≡ place_of the_row base number)
numbered base (Some number) link e = (number, refl, cc)
numbered base None link e = cc

pub next_cell : (base : Ptr) (side : Side) (cells : List Cell) (node among : ℕ) (link : Link)
    → IsAhead base side cells node among (Some link) → Step base side cells node among link
next_cell base side cells node among link here =
    let to = numbered base (newest side node (reverse (take among cells))) link here.first in
    let number : ℕ = to.0 in
    let it : Found base side node number (reverse (take among cells)) = found base side node number (reverse (take among cells)) to.1 here.linked in
    let at : Cut cells number it.cell it.older = cut cells it.front it.older it.cell among number it.split it.count in
    let back : reverse (take number cells) ≡ it.older = ap reverse at.before ∙ reverse-reverse it.older in record {
      number = number;
      inside = at.inside;
      place = to.2;
      after = λ cell there.
          let same : cell ≡ it.cell = there ∙ at.cell_is cell in
          let count : cell.number ≡ number = ap (λ c. c.number) same ∙ it.linked.0 ∙ it.count in record {
            arcs = ap (filter (λ arc. node_at side arc == node)) (map_reverse arc_of (take among cells)) ∙ it.arcs
                ∙ ap (λ c. arc_of c ∷ hits side node it.older) (sym same)
                ∙ ap (λ xs. arc_of cell ∷ hits side node xs) (sym back)
                ∙ ap (λ xs. arc_of cell ∷ filter (λ arc. node_at side arc == node) xs) (sym (map_reverse arc_of (take number cells)))
                ∙ ap (λ n. arc_of cell ∷ side_arcs side node n cells) (sym count);
            ahead = subst (λ n. IsAhead base side cells node n (older_at side cell)) (sym count) (record {
              within = omega (arith, at.inside);
              linked = subst (AreLinked base side) (sym back) it.linked.2;
              first = ap (older_at side) same ∙ it.linked.1 ∙ ap (λ n. newest_link base side n it.older) it.same ∙ ap (newest_link base side node) (sym back);
            });
          };
    }

-- a walk with no link has no arc before it
pub no_cell : (base : Ptr) (side : Side) (cells : List Cell) (node among : ℕ)
    → IsAhead base side cells node among None → side_arcs side node among cells ≡ []
no_cell base side cells node among here =
    ap (filter (λ arc. node_at side arc == node)) (map_reverse arc_of (take among cells)) ∙ none_found side node (reverse (take among cells)) (no_number (newest side node (reverse (take among cells))) here.first) where
      no_number : (o : Option ℕ)
          → ◌≡◌ {A = Option Link} None (option_map (λ number. record { at = place_of the_row base number }) o)
          → o ≡ None
      no_number (Some number) e = cc
      no_number None e = refl

-- without the newest cell, whose node leads to the next older one
pub threaded_less : (base : Ptr) (side : Side) (cells : List Cell) (cell : Cell) (heads : List (Option Link))
    → IsThreaded base side (cells ++ cell ∷ []) heads
    → IsThreaded base side cells (slice_set heads (node_at side (arc_of cell)) (older_at side cell))
threaded_less base side cells cell heads all =
    let node : ℕ = node_at side (arc_of cell) in
    let P : Cell → Type 0 = λ c. node_at side (arc_of c) < length heads in
    let turned : reverse (cells ++ cell ∷ []) ≡ cell ∷ reverse cells = reverse-append cells (cell ∷ []) in
    let linked : AreLinked base side (cell ∷ reverse cells) = subst (AreLinked base side) turned all.linked in
    let inside = All-pop P (cells ++ cell ∷ []) cells (Some cell) refl all.inside in
    let first : (n : ℕ) → slice_index_or heads n None ≡ newest_link base side n (cell ∷ reverse cells) = λ n. all.first n ∙ ap (newest_link base side n) turned in record {
      linked = linked.2;
      first = λ n. elim (eqb_tells node n) [
        | inl here ↦ subst (λ k. slice_index_or (slice_set heads node (older_at side cell)) k None ≡ newest_link base side k (reverse cells)) here.1 (get_or-set_same heads node (older_at side cell) None inside.1 ∙ linked.1)
        | inr other ↦ get_or-set_other heads node n (older_at side cell) None (λ e. other.1 (sym e)) ∙ first n
            ∙ ap (λ b. option_map (λ number. record { at = place_of the_row base number }) (cond b (Some (length (reverse cells))) (newest side n (reverse cells)))) other.0
      ];
      inside = subst (λ k. All (λ c. node_at side (arc_of c) < k) cells) (sym (length-set heads node (older_at side cell))) inside.0;
    }

-- the same of a block that has lost that cell
pub threaded_popped : (base base' : Ptr) (side : Side) (cells cells' : List Cell) (cell : Cell) (heads : List (Option Link))
    → base' ≡ base → cells ≡ cells' ++ cell ∷ [] → IsThreaded base side cells heads
    → IsThreaded base' side cells' (slice_set heads (node_at side (arc_of cell)) (older_at side cell))
threaded_popped base base' side cells cells' cell heads same_base less all =
    threaded_less base' side cells' cell heads (subst (λ p. IsThreaded p side (cells' ++ cell ∷ []) heads) (sym same_base) (subst (λ xs. IsThreaded base side xs heads) less all))
