-- Arcs before each decision: a decision more, and one taken back.
use Rattle.std.proofs.Common.{◌≡◌, ℕ, zero, suc, ◌+◌, ◌-◌, ◌<◌, ◌≤◌, List, [], ◌∷◌, ◌++◌, length, drop, reverse, Option, None, Some, IsSome, MatchOption, vec_capacity, refl, sym, ap, subst, subst₂, ◌∙◌, length-append, arith, ◌↔◌}
use Rattle.std.proofs.lemmas.List.{reverse-append}
use Rattle.std.specs.Option.{option_to_list}
use Rattle.qc_arena.specs.Arcs.{Arcs}
use Rattle.qc_arena.specs.declared.edge.Edge.{Edge}
use Rattle.qc_model.specs.declared.decision.Decision.{Decision}
use Rattle.qc_dist.specs.Node.{Node}
use Rattle.qc_model.specs.Instance.{InstanceView, Valid}
use Rattle.qc_model.specs.Nodes.{Fits, order_pairs}
use Rattle.qc_starts.specs.declared.network.Network.TheInside.{Inside}
use Rattle.qc_starts.specs.Arcs.{AreArcs, AreLow, IsRoomy}
use Rattle.qc_starts.specs.Network.{AreLevels, IsKept}

pub drop_more : {A : Type 0} (k : ℕ) (xs : List A) (x : A) (rest : List A) → drop k xs ≡ x ∷ rest
    → drop (suc k) xs ≡ rest
drop_more zero xs x rest e = ap (drop 1) e
drop_more (suc k) [] x rest e = absurd (cc)
drop_more (suc k) (y ∷ xs) x rest e = drop_more k xs x rest e

pub drop_next : {A : Type 0} (k : ℕ) (xs : List A) → drop 1 (drop k xs) ≡ drop (suc k) xs
drop_next zero xs = refl
drop_next (suc k) [] = refl
drop_next (suc k) (x ∷ xs) = drop_next k xs

pub reverse_push : {A : Type 0} (xs : List A) (x : A) → reverse (xs ++ x ∷ []) ≡ x ∷ reverse xs
reverse_push xs x = reverse-append xs (x ∷ [])

pub levels_count : (inst : InstanceView) (ds : List Decision) (marks : List ℕ) (arcs : List Edge)
    → AreLevels inst ds marks arcs → length marks ≡ length ds
levels_count inst [] [] arcs are = refl
levels_count inst [] (m ∷ ms) arcs are = absurd are
levels_count inst (d ∷ ds) [] arcs are = absurd are
levels_count inst (d ∷ ds) (m ∷ ms) arcs are =
    omega (arith, levels_count inst ds ms (drop (length arcs - m) arcs) are.2)

-- ---- a decision is taken back

pub undone_is : (old new : Node) (o : Option Decision) → 0 < length old.decisions
    → MatchOption o ((old.decisions ≡ []) × (new ≡ old)) (λ d. old ≡ record new { decisions = d ∷ new.decisions })
    → (d : Decision) × (old ≡ record new { decisions = d ∷ new.decisions })
undone_is old new None some is = absurd (none some is.0)
  where
    none : 0 < length old.decisions → old.decisions ≡ [] → ⊥
    none more e = absurd (omega (arith, more, ap (length {A = Decision}) e))
undone_is old new (Some d) some is = (d, is)

low_drop : (k : ℕ) (arcs : List Edge) → AreLow arcs → AreLow (drop k arcs)
low_drop zero arcs low = low
low_drop (suc k) [] low = low
low_drop (suc k) (arc ∷ arcs) low = low_drop k arcs low.1

-- what is kept without the newest decision, with the arcs that there were before it
pub undone_kept : (f g : Inside) (mark : ℕ) (d : Decision) → IsKept f
    → f.decisions ≡ record g.decisions { decisions = d ∷ g.decisions.decisions }
    → Fits g.decisions.inst g.decisions.decisions → reverse f.marks.items ≡ mark ∷ reverse g.marks.items
    → vec_capacity g.marks ≡ vec_capacity f.marks
    → reverse g.arena.arcs ≡ drop (length (reverse f.arena.arcs) - mark) (reverse f.arena.arcs)
    → g.arena.nodes ≡ f.arena.nodes → g.arena.cap ≡ f.arena.cap → IsKept g
undone_kept f g mark d is node fits marks wide arcs nodes cap =
    let home = ap (λ (n : Node). n.inst) node in
    let left = reverse g.marks.items in
    let levels = subst (λ (n : Node). AreLevels n.inst n.decisions (mark ∷ left) (reverse f.arena.arcs)) node
    (subst (λ (ms : List ℕ). AreLevels f.decisions.inst f.decisions.decisions ms (reverse f.arena.arcs)) marks is.levels) in
    record {
      valid = subst Valid home is.valid;
      fits = fits;
      arena = subst (λ (i : InstanceView). IsRoomy i g.arena) home (record {
        nodes = nodes ∙ is.arena.nodes;
        cap = cap ∙ is.arena.cap;
      });
      arcs = subst (AreArcs g.decisions.inst g.decisions.decisions) (sym arcs) levels.1;
      low = subst AreLow (sym arcs) (low_drop (length (reverse f.arena.arcs) - mark) (reverse f.arena.arcs) is.low);
      levels = subst (AreLevels g.decisions.inst g.decisions.decisions left) (sym arcs) levels.2;
      room = subst₂ (λ (i : InstanceView) (n : ℕ). length i.tasks + order_pairs i ≤ n) home (sym wide) is.room;
    }

-- ---- an arc is taken away

pub record IsPopped (old new : Arcs) : Type 0 where
  pub newest : Edge
  pub is : reverse old.arcs ≡ newest ∷ reverse new.arcs
  pub count : length old.arcs ≡ length new.arcs + 1
  pub nodes : new.nodes ≡ old.nodes
  pub cap : new.cap ≡ old.cap

pub popped : (old new : Arcs) (o : Option Edge)
    → old ≡ record new { arcs = new.arcs ++ option_to_list o } → IsSome o ↔ (0 < length old.arcs)
    → 0 < length old.arcs → IsPopped old new
popped old new None is some any = absurd (none (some.1 any))
  where
    none : IsSome {T = Edge} None → ⊥
    none e = cc
popped old new (Some arc) is some any = record {
  newest = arc;
  is = ap (λ (a : Arcs). reverse a.arcs) is ∙ reverse_push new.arcs arc;
  count = ap (λ (a : Arcs). length a.arcs) is ∙ length-append new.arcs (arc ∷ []);
  nodes = sym (ap (λ (a : Arcs). a.nodes) is);
  cap = sym (ap (λ (a : Arcs). a.cap) is);
}
