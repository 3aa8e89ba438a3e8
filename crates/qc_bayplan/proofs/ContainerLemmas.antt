-- The next container, by the checks that are made of it.
use Rattle.std.proofs.Common.{◌≡◌, ◌∙◌, ℕ, List, not, Bool, true, false, Ok, Err, inl, inr, sym, ap, refl}
use Rattle.std.proofs.lemmas.Bool.{cases_Bool, not-false, not-true}
use Rattle.qc_stow.specs.Taken.{has_taken_cell}
use Rattle.qc_stow.specs.declared.row.Move.{Move}
use Rattle.qc_stow.specs.declared.row.Move.TheVariants.{Load}
use Rattle.qc_stow.specs.declared.taken.Slot.{Slot}
use Rattle.qc_bayplan.specs.Taken.{TakenView, has_taken_id, taken_by}
use Rattle.qc_bayplan.specs.declared.fault.BayPlanKind.TheVariants as kind
use Rattle.qc_bayplan.proofs.TakenLemmas.{cells-taken, id-taken}
use Rattle.qc_bayplan.specs.Containers.{has_id, is_taken, left_free}
use Rattle.qc_bayplan.specs.declared.plan.Container.{Container}

-- what is known where the earlier ones leave the id and the cell
pub known-free : (earlier : List Container) (container : Container) → left_free earlier container ≡ Ok tt → (has_id earlier container.id ≡ false) × (is_taken earlier container.cell ≡ false)
known-free earlier container e = elim (cases_Bool (has_id earlier container.id)) [
  | inl twice ↦ cc (rw twice at e)
  | inr new ↦ elim (cases_Bool (is_taken earlier container.cell)) [
    | inl taken ↦ cc (rw (new, taken) at e)
    | inr free ↦ (new, free)
  ]
]

-- a container whose id, and then whose cell, is taken or not
module _ (earlier : List Container) (container : Container) (taken : TakenView) (id : List ℕ) (new : Bool) (same : taken ≡ taken_by earlier) (is : id ≡ container.id)
    (told : new ≡ not (has_taken_id taken.ids id)) where
  is-new : new ≡ not (has_id earlier container.id)
  is-new = told ∙ ap not (rw (same, is) (id-taken earlier container.id))

  pub id-twice : new ≡ false → left_free earlier container ≡ Err kind.IdTwice
  id-twice no-new = let twice = not-false _ (sym is-new ∙ no-new) in rw twice refl

  module _ (fresh : new ≡ true) (slots : List (Move × Slot)) (free : Bool) (stay : slots ≡ taken.slots) (cell-told : free ≡ not (has_taken_cell slots Load container.cell)) where
    once : has_id earlier container.id ≡ false
    once = not-true _ (sym is-new ∙ fresh)

    is-free : free ≡ not (is_taken earlier container.cell)
    is-free = cell-told ∙ ap not (rw (stay, same) (cells-taken earlier container))

    pub cell-twice : free ≡ false → left_free earlier container ≡ Err kind.CellTaken
    cell-twice no-free = let twice = not-false _ (sym is-free ∙ no-free) in rw (once, twice) refl

    pub all-free : free ≡ true → left_free earlier container ≡ Ok tt
    all-free yes-free = let open' = not-true _ (sym is-free ∙ yes-free) in rw (once, open') refl
