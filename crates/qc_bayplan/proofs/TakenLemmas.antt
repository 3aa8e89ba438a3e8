-- What is taken, by the containers that took it, and that containers whose ids and cells were free are apart.
use Rattle.std.proofs.Common.{◌≡◌, ◌≢◌, ◌<◌, ◌++◌, ◌∷◌, ◌&&◌, ℕ, List, [], length, map, get_or, Bool, true, false, sym, ◌∙◌, arith}
use Rattle.std.specs.List.{list_any}
use Rattle.std.proofs.lemmas.Bool.{false≢true, false_from_ne_true}
use Rattle.std.proofs.lemmas.List.{length_push}
use Rattle.std.proofs.lemmas.List.Elements.{All-push}
use Rattle.std.proofs.lemmas.List.Folds.{list_any_at}
use Rattle.std.proofs.lemmas.List.Quantifiers.{all_pairs_push}
use Rattle.std.proofs.lemmas.Slice.Eq.{bytes_eq-Decides}
use Rattle.std.specs.Str.{bytes_eq}
use Rattle.qc_ship.specs.Cells.{overlap}
use Rattle.qc_stow.specs.Taken.{has_taken_cell}
use Rattle.qc_stow.specs.Moves.{same_move}
use Rattle.qc_stow.specs.declared.row.Move.TheVariants.{Load}
use Rattle.qc_stow.specs.declared.row.Row.{Row}
use Rattle.qc_stow.proofs.TakenFacts.{cell-taken, list_any-map}
use Rattle.qc_bayplan.specs.Containers.{has_id, is_taken}
use Rattle.qc_bayplan.specs.Plan.{AreContainers, IsContainer, most_containers}
use Rattle.qc_bayplan.specs.Taken.{has_taken_id, load_of, taken_by}
use Rattle.qc_bayplan.specs.declared.plan.Container.{Container}

-- the ids and the cells that containers take
pub id-taken : (containers : List Container) (id : List ℕ) → has_taken_id (taken_by containers).ids id ≡ has_id containers id
id-taken containers id = list_any-map (bytes_eq id) (λ (c : Container). c.id) containers

pub cells-taken : (containers : List Container) (container : Container)
    → has_taken_cell (taken_by containers).slots Load container.cell ≡ is_taken containers container.cell
cells-taken containers container =
    cell-taken (map load_of containers) (load_of container)
    ∙ list_any-map (λ (row : Row). same_move Load row.kind && overlap container.cell row.cell) load_of containers

-- where no element passes, that at a place doesn't
none-at : {X : Type 0} (test : X → Bool) (xs : List X) (k : ℕ) (d : X) → k < length xs → list_any test xs ≡ false → test (get_or xs k d) ≡ true → ⊥
none-at test xs k d within none here = false≢true (sym none ∙ list_any_at test xs k d within here)

-- one more container
pub more-apart : (earlier : List Container) (container : Container) → AreContainers earlier → IsContainer container → length earlier < most_containers
    → has_id earlier container.id ≡ false → is_taken earlier container.cell ≡ false → AreContainers (earlier ++ container ∷ [])
more-apart earlier container stand valid few new free = record {
  count = let size = length_push earlier container in omega (arith, few);
  each = All-push IsContainer earlier container stand.each valid;
  ids = all_pairs_push (λ a b. a.id ≢ b.id) earlier container stand.ids (λ k d within ids.
      none-at (λ e. bytes_eq container.id e.id) earlier k d within new ((bytes_eq-Decides container.id (get_or earlier k d).id).1 (sym ids)));
  apart = all_pairs_push (λ a b. overlap b.cell a.cell ≡ false) earlier container stand.apart (λ k d within.
      false_from_ne_true _ (λ over. none-at (λ e. overlap container.cell e.cell) earlier k d within free over));
}
