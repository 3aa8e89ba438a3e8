-- inner: where the cells of a block lead. Cells are numbered from the oldest.
use Rattle.std.specs.Prelude.{◌≡◌, ℕ, ◌<◌, ◌≤◌, ◌==◌, List, [], ◌∷◌, All, length, map, reverse, take, cond, Option, Some, None, option_map, slice_index_or}
use Rattle.std.specs.List.{filter}
use denote.RawPtr.{Ptr}
use Rattle.qc_arena.specs.declared.edge.Edge.{Edge}
use Rattle.qc_arena.specs.declared.block.Cell.{Cell}
use Rattle.qc_arena.specs.declared.block.Link.{Link}
use Rattle.qc_arena.specs.declared.block.Side.{Side}
use Rattle.qc_arena.specs.declared.block.Side.TheVariants.{Out, In}
use Rattle.qc_arena.specs.contracts.block.Cell.{the_row}
use Rattle.qc_arena.specs.Memory.{place_of}

abbrev pub arc_of : Cell → Edge
arc_of cell = record { from = cell.from; to = cell.to; len = cell.len }

-- the node of an arc at a side
abbrev pub node_at : Side → Edge → ℕ
node_at Out arc = arc.from
node_at In arc = arc.to

-- the link that a cell keeps for the next older one of its node at a side
abbrev pub older_at : Side → Cell → Option Link
older_at Out cell = cell.older_out
older_at In cell = cell.older_in

-- the arcs of the node at a side among the first cells, newest first
abbrev pub side_arcs : Side → ℕ → ℕ → List Cell → List Edge
side_arcs side node among cells = filter (λ arc. node_at side arc == node) (reverse (map arc_of (take among cells)))

-- the number of the node's newest cell, of cells given newest first
abbrev pub newest : Side → ℕ → List Cell → Option ℕ
newest side node [] = None
newest side node (cell ∷ older) =
    cond (node_at side (arc_of cell) == node) (Some (length older)) (newest side node older)

-- a link to that cell, in the block that begins at base
abbrev pub newest_link : Ptr → Side → ℕ → List Cell → Option Link
newest_link base side node cells =
    option_map (λ number. record { at = place_of the_row base number }) (newest side node cells)

-- each cell knows its number, and leads to the next older one of its node
abbrev pub AreLinked : Ptr → Side → List Cell → Type 0
AreLinked base side [] = Unit {0}
AreLinked base side (cell ∷ older) =
    (cell.number ≡ length older)
    × (older_at side cell ≡ newest_link base side (node_at side (arc_of cell)) older)
    × AreLinked base side older

-- the cells are linked, and each node has its newest one
pub record IsThreaded (base : Ptr) (side : Side) (cells : List Cell) (heads : List (Option Link))
    : Type 0 where
  pub linked : AreLinked base side (reverse cells)
  pub first : (node : ℕ) → slice_index_or heads node None ≡ newest_link base side node (reverse cells)
  pub inside : All (λ cell. node_at side (arc_of cell) < length heads) cells

-- a walk stands before the node's newest of the first `among` cells
pub record IsAhead (base : Ptr) (side : Side) (cells : List Cell) (node among : ℕ) (next : Option Link)
    : Type 0 where
  pub within : among ≤ length cells
  pub linked : AreLinked base side (reverse (take among cells))
  pub first : next ≡ newest_link base side node (reverse (take among cells))
