-- public: notes of what cells held, and what writing them back leaves.
use Rattle.std.specs.Prelude.{ℕ, List, [], ◌∷◌, slice_set}
use Rattle.qc_arena.specs.declared.trail.Note.{Note}

-- the notes, oldest first, and the most that there may be
pub record Notes : Type 0 where
  pub notes : List Note
  pub cap : ℕ

-- the cells after the notes, given oldest first, were written back from the newest to the oldest
abbrev pub written_back : List Note → List ℕ → List ℕ
written_back [] cells = cells
written_back (note ∷ later) cells = slice_set (written_back later cells) note.place note.old
