-- Of two moves of the list the first has nothing to do with the second, or must be made ahead of it.
use Rattle.std.proofs.Common.{◌≡◌, ◌≢◌, ◌∙◌, ◌≤◌, Bool, true, false, ◌||◌, List, Some, refl, sym, inl, inr, subst}
use Rattle.std.specs.Str.{bytes_eq}
use Rattle.std.proofs.lemmas.Bool.{cases_Bool}
use Rattle.qc_ship.specs.Cells.{overlap}
use Rattle.qc_bayplan.specs.Plan.{AreContainers}
use Rattle.qc_bayplan.specs.declared.plan.Container.{Container}
use Rattle.qc_stow.specs.declared.row.Move.TheVariants.{Discharge, Load}
use Rattle.qc_stow.specs.declared.row.Row.{Row}
use Rattle.qc_changes.specs.Over.{is_over}
use Rattle.qc_changes.specs.Classes.{AreLifted, stands}
use Rattle.qc_changes.specs.MoveList.{IsMoveList}
use Rattle.qc_changes.specs.Orders.{IsOrderOf, meet, must_lead}
use Rattle.qc_changes.specs.States.{Leads}
use Rattle.qc_changes.proofs.Elements.{EachPair, In, each_both, each_in, pair_both, pairs_from_index}
use Rattle.qc_changes.proofs.LeadLemmas.{cells_apart, falls, list_leads, off_apart, off_kinds, off_stand, on_apart, on_kinds, on_stand, overlap_sym, pair_append, pair_from, rises}
use Rattle.qc_changes.proofs.LiftLemmas.{not_over}
use Rattle.qc_changes.proofs.OrderLemmas.{Ahead, permuted, reordered}
use Rattle.qc_changes.proofs.StandLemmas.{id_same}

neither : (a b : Bool) → (a || b) ≡ false → (a ≡ false) × (b ≡ false)
neither true b e = absurd (cc e)
neither false b e = (refl, e)

off_pair : (x y : Row) → x.kind ≡ Discharge → y.kind ≡ Discharge → x.id ≢ y.id → overlap x.cell y.cell ≡ false → y.cell.tier ≤ x.cell.tier → Ahead x y
off_pair x y kx ky ids apart low = elim (cases_Bool (is_over x.cell y.cell)) [
  | inl over ↦ inr (rw (kx, ky, over) refl)
  | inr under ↦ inl (record { ids = ids; apart = apart; apart' = overlap_sym y.cell x.cell ∙ apart; under = under; over = not_over y.cell x.cell low })
]

on_pair : (x y : Row) → x.kind ≡ Load → y.kind ≡ Load → x.id ≢ y.id → overlap x.cell y.cell ≡ false → x.cell.tier ≤ y.cell.tier → Ahead x y
on_pair x y kx ky ids apart low = elim (cases_Bool (is_over y.cell x.cell)) [
  | inl over ↦ inr (rw (kx, ky, over) refl)
  | inr under ↦ inl (record { ids = ids; apart = apart; apart' = overlap_sym y.cell x.cell ∙ apart; under = not_over x.cell y.cell low; over = under })
]

cross_pair : (x y : Row) → x.kind ≡ Discharge → y.kind ≡ Load → Ahead x y
cross_pair x y kx ky = elim (cases_Bool (bytes_eq x.id y.id)) [
  | inl one ↦ inr (rw (kx, ky, one) refl)
  | inr differ ↦ elim (cases_Bool (meet x.cell y.cell)) [
    | inl near ↦ inr (rw (kx, ky, differ, near) refl)
    | inr far ↦
        let (apart, levels) = neither (overlap x.cell y.cell) (is_over x.cell y.cell || is_over y.cell x.cell) far in
        let (under, over) = neither (is_over x.cell y.cell) (is_over y.cell x.cell) levels in
        inl (record { ids = λ e. absurd (cc (id_same x.id y.id e, differ)); apart = apart; apart' = overlap_sym y.cell x.cell ∙ apart; under = under; over = over })
  ]
]

module _ (first second lifted : List Container) (rows : List Row) (a : AreContainers first) (b : AreContainers second)
    (are : AreLifted first second lifted) (m : IsMoveList first second lifted rows) where
  off_ahead : EachPair Ahead m.off
  off_ahead =
      pair_from (λ (x y : Row). (x.id ≢ y.id) × (y.cell.tier ≤ x.cell.tier)) Ahead (λ (r : Row). (r.kind ≡ Discharge) × (stands first r.id ≡ Some r.cell)) m.off
      (pair_both (λ (x y : Row). x.id ≢ y.id) (λ (x y : Row). y.cell.tier ≤ x.cell.tier) m.off (off_apart first second lifted rows a b are m) (falls m.off m.parts.off_order))
      (each_both (λ (r : Row). r.kind ≡ Discharge) (λ (r : Row). stands first r.id ≡ Some r.cell) m.off (off_kinds first second lifted rows a b are m) (off_stand first second lifted rows a b are m))
      (λ x y px py h. off_pair x y px.0 py.0 h.0 (cells_apart first a x.id y.id x.cell y.cell px.1 py.1 h.0) h.1)

  on_ahead : EachPair Ahead m.on
  on_ahead =
      pair_from (λ (x y : Row). (x.id ≢ y.id) × (x.cell.tier ≤ y.cell.tier)) Ahead (λ (r : Row). (r.kind ≡ Load) × (stands second r.id ≡ Some r.cell)) m.on
      (pair_both (λ (x y : Row). x.id ≢ y.id) (λ (x y : Row). x.cell.tier ≤ y.cell.tier) m.on (on_apart first second lifted rows a b are m) (rises m.on m.parts.on_order))
      (each_both (λ (r : Row). r.kind ≡ Load) (λ (r : Row). stands second r.id ≡ Some r.cell) m.on (on_kinds first second lifted rows a b are m) (on_stand first second lifted rows a b are m))
      (λ x y px py h. on_pair x y px.0 py.0 h.0 (cells_apart second b x.id y.id x.cell y.cell px.1 py.1 h.0) h.1)

  cross : (x y : Row) → In x m.off → In y m.on → Ahead x y
  cross x y x_in y_in = cross_pair x y
      (each_in (λ (r : Row). r.kind ≡ Discharge) m.off x (off_kinds first second lifted rows a b are m) x_in)
      (each_in (λ (r : Row). r.kind ≡ Load) m.on y (on_kinds first second lifted rows a b are m) y_in)

  list_ahead : EachPair Ahead rows
  list_ahead = subst (λ (rs : List Row). EachPair Ahead rs) (sym m.rows_are) (pair_append Ahead m.off m.on off_ahead on_ahead cross)

  pub leads_in_order : (told : List Row) → IsOrderOf rows told → Leads (stands first) told (stands second)
  leads_in_order told is =
      reordered rows told (stands first) (stands second) list_ahead (permuted rows told is.each)
      (pairs_from_index (λ (x y : Row). must_lead y x ≡ false) told is.order) (list_leads first second lifted rows a b are m)
