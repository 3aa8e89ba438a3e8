-- inner: what a block of raw memory owns and lends, for values of the row R.
use Rattle.std.specs.Prelude.{ℕ, ◌+◌, ◌*◌, ◌^◌, ◌<◌, List, [], ◌∷◌, length}
use Rattle.std.specs.Mem.{type_size}
use base.Fraction.{full_share}
use base.Fml.{Lft, Fml, ftrue, ffalse, fsep, flt, froom}
use mir.Syntax.{Ty, ty_array}
use mir.Raw.{raw}
use denote.RattleType.{RattleType}
use denote.Memory.{lone, part_at, shared_of}
use denote.Sharing.{nothing, said, beside}
use denote.RawPtr.{Ptr, block_ptr, null_ptr}

module _ (R : RattleType) where
  -- where the value of that number lies, in a block that begins at p
  abbrev pub place_of : Ptr → ℕ → Ptr
  place_of (block_ptr b o) number = block_ptr b (number * type_size R + o)
  place_of null_ptr number = null_ptr

  -- values side by side, from o bytes into the object b on
  abbrev pub row_owns : ℕ → ℕ → List R.Denot → Fml
  row_owns b o [] = ftrue
  row_owns b o (x ∷ xs) = fsep (part_at R full_share x b o) (row_owns b (o + type_size R) xs)

  -- the same, lent
  abbrev pub row_lent : ℕ → ℕ → List R.Denot → Lft → Fml
  row_lent b o [] = nothing
  row_lent b o (x ∷ xs) = beside (shared_of R x b o) (row_lent b (o + type_size R) xs)

  -- room for n values
  abbrev pub room_owns : ℕ → ℕ → ℕ → Fml
  room_owns b o n = froom (ty_array (lone R.mir) n) b o

  -- the values xs, and after them room for as many as spare says
  abbrev pub block_owns : Ptr → List R.Denot → ℕ → Fml
  block_owns (block_ptr b o) xs spare = fsep (row_owns b o xs)
      (fsep (flt ((length xs + spare) * type_size R) (2 ^ 63)) (room_owns b (length xs * type_size R + o) spare))
  block_owns null_ptr xs spare = ffalse

  abbrev pub block_lent : Ptr → List R.Denot → Lft → Fml
  block_lent (block_ptr b o) xs = row_lent b o xs
  block_lent null_ptr xs = said ffalse

  -- a block for cap values has at most 2 ^ 63 - 1 bytes
  abbrev pub FitsBlock : ℕ → Type 0
  FitsBlock cap = cap * type_size R < 2 ^ 63

  -- the type that a block for cap values is for
  abbrev pub block_type : ℕ → Ty
  block_type cap = raw (ty_array (lone R.mir) cap)
