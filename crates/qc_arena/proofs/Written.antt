-- What writing notes back leaves, and what holds of a note among others.
use Rattle.std.proofs.Common.{◌≡◌, ℕ, List, [], ◌∷◌, ◌++◌, All, length, refl, ◌∙◌}
use Rattle.std.proofs.Math.ListN.{length-set}
use Rattle.std.proofs.lemmas.List.Elements.{All-head, All-tail}
use Rattle.qc_arena.specs.declared.trail.Note.{Note}
use Rattle.qc_arena.specs.Trails.{written_back}

-- as many cells as before
pub written_back_length : (notes : List Note) (cells : List ℕ) → length (written_back notes cells) ≡ length cells
written_back_length [] cells = refl
written_back_length (note ∷ later) cells = length-set (written_back later cells) note.place note.old ∙ written_back_length later cells

-- what holds of all notes holds of one between others
pub between_holds : (P : Note → Type 0) (before : List Note) (note : Note) (after : List Note) → All P ((before ++ note ∷ []) ++ after) → P note
between_holds P [] note after all = All-head P note after all
between_holds P (first ∷ before) note after all = between_holds P before note after (All-tail P first ((before ++ note ∷ []) ++ after) all)
