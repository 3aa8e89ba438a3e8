-- inner: notes of a decision: what writing them back leaves, and that there is room for them.
use Rattle.std.specs.Prelude.{◌≡◌, ℕ, ◌+◌, ◌<◌, ◌≤◌, Bool, true, false, List, ◌++◌, All, count_by, length, slice_index, slice_index_or}
use Rattle.qc_arena.specs.declared.trail.Note.{Note}
use Rattle.qc_arena.specs.Trails.{written_back}
use Rattle.qc_starts.specs.declared.noted.Noted.{Noted}

-- how many cells are noted
abbrev pub marks : List Bool → ℕ
marks noted = count_by (λ b. b) noted

-- there is a mark a cell, and room for a note of each cell that isn't marked
pub record HasNotes (v : Noted) : Type 0 where
  pub size : length v.noted.items ≡ length v.cells
  pub room : length v.trail.notes + length v.noted.items ≤ v.trail.cap + marks v.noted.items
  pub places : All (λ note. note.place < length v.cells) v.trail.notes

-- since the decision began, with these notes and these cells, each marked cell was noted once: what is written back
-- is what the cells held
pub record IsNoting (before : List Note) (olds : List ℕ) (v : Noted) : Type 0 where
  pub since : List Note
  pub notes : v.trail.notes ≡ before ++ since
  pub count : length since ≡ marks v.noted.items
  pub size : length v.cells ≡ length olds
  pub same : (p : ℕ) → p < length olds → slice_index_or v.noted.items p true ≡ false
      → slice_index v.cells p ≡ slice_index olds p
  pub back :
      (others : List ℕ) → length others ≡ length olds
      → ((p : ℕ) → p < length olds → slice_index_or v.noted.items p true ≡ false
      → slice_index others p ≡ slice_index olds p)
      → written_back since others ≡ olds

-- cells were written, each with a note if it had none
pub record Wrote (old new : Noted) : Type 0 where
  pub notes : HasNotes new
  pub cap : new.trail.cap ≡ old.trail.cap
  pub noting : (earlier : List Note) (olds : List ℕ) → IsNoting earlier olds old → IsNoting earlier olds new
