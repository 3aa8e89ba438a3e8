-- The node at which a search stands: its decisions fit, and its crew is theirs.
use Rattle.std.proofs.Common.{◌≡◌, ℕ, ◌-◌, List, [], ◌∷◌, drop, length, Some, ap, sym, subst, subst₂, ◌∙◌, arith}
use Rattle.qc_close.specs.Crews.{CrewView, IsCrewOf}
use Rattle.qc_dist.specs.Node.{IsOpen, newest, Node}
use Rattle.qc_close.specs.Model.{Decision, Assign, Order, InstanceView, Valid, Fits}
use Rattle.qc_model.proofs.NodeLemmas.{unsettled_unordered}
use Rattle.qc_starts.specs.Seen.{first_of}
use Rattle.qc_search.specs.Places.{IsPlaced, node_of}
use Rattle.qc_search.specs.declared.place.Node.TheInside.{Inside}

module _ (inst : InstanceView) where
  pub fits_more : (ds : List Decision) (d : Decision) → Fits inst ds → IsOpen inst ds d → Fits inst (d ∷ ds)
  fits_more ds (Assign j k) fits is_open = (is_open.0, is_open.1, is_open.2, fits)
  fits_more ds (Order i j) fits is_open =
      let free = unsettled_unordered inst ds i j is_open.1 in
      (is_open.0, free.0, free.1, fits)

-- the newest decision, and those before it
pub newest_older : (ds : List Decision) (d : Decision) (mark : ℕ) → newest ds ≡ Some d → mark ≡ length ds
    → ds ≡ d ∷ first_of (mark - 1) ds
newest_older [] d mark e is = absurd (cc e)
newest_older (x ∷ xs) d mark e is =
    let same : x ≡ d = cc e in
    let one : length (x ∷ xs) - (mark - 1) ≡ 1 = omega (arith, is) in
    ap (λ (y : Decision). y ∷ xs) same ∙ ap (λ (n : ℕ). d ∷ drop n (x ∷ xs)) (sym one)

-- what is open at the node that is seen is open at the one that is kept
pub opened : (f : Inside) (node : Node) (d e : Decision) → node_of f ≡ node → IsOpen node.inst node.decisions d
    → d ≡ e → IsOpen f.starts.inst f.starts.decisions e
opened f node d e view is_open same =
    subst (IsOpen f.starts.inst f.starts.decisions) same
    (subst (λ (n : Node). IsOpen n.inst n.decisions d) (sym view) is_open)

pub placed : (inst : InstanceView) (ds : List Decision) (new : Node) (crew : CrewView) → Valid inst
    → new.inst ≡ inst → new.decisions ≡ ds → Fits inst ds → IsCrewOf crew inst ds
    → IsPlaced (record { starts = new; crew = crew })
placed inst ds new crew valid same made fits is = record {
  valid = subst Valid (sym same) valid;
  fits = subst₂ Fits (sym same) (sym made) fits;
  crew = subst₂ (IsCrewOf crew) (sym same) (sym made) is;
}
