-- What a `&` to a block holds: its laws, how it is made of a borrow, and one value of it. Assumes `Logic`.
use Rattle.std.proofs.Common.{ℕ, zero, suc, ◌+◌, ◌*◌, ◌^◌, ◌<◌, List, [], ◌∷◌, length, get_or, refl, arith, zero-mul, suc-mul}
use Rattle.std.specs.Mem.{type_size}
use seplogic.Ra.Ura.{Ura}
use base.Fml.{Lft, Incl, ftrue, ffalse, flt, fsep}
use base.Logic.{ent}
use types.Logic.{Logic, sem}
use types.Kit.{‵, ◌$◌, ◌∵◌, !, qed, done, drop, move, fsplit, rewrite, use1}
use denote.RattleType.{RattleType, RowLaws}
use denote.Memory.{shared_of}
use denote.Param.Laws.{Laws}
use denote.RawPtr.{Ptr, block_ptr, null_ptr}
use denote.Sharing.{ShrLaws, said}
use denote.SharingLaws.{beside_shr_laws, nothing_shr_laws, said_shr_laws}
use denote.Shares.{Shares-less}
use denote.Struct.Lending.{Lends, Lends-both, Lends-nothing, Lends-first, Lends-false}
use Rattle.qc_arena.specs.Memory.{row_owns, row_lent, room_owns, block_owns, block_lent}

module _ (R : RattleType) (L : RowLaws R) where
  row_laws : (b o : ℕ) (xs : List R.Denot) → ShrLaws (row_lent R b o xs)
  row_laws b o [] = nothing_shr_laws
  row_laws b o (x ∷ xs) = beside_shr_laws _ _ (L x b o) (row_laws b (o + type_size R) xs)

  pub block_laws : (p : Ptr) (xs : List R.Denot) → ShrLaws (block_lent R p xs)
  block_laws (block_ptr b o) xs = row_laws b o xs
  block_laws null_ptr xs = said_shr_laws ffalse tt

module _ {M : Type 1} {𝓤 : Ura M} (𝓛 : Logic 𝓤) (l : Lft) (R : RattleType) (L : Laws R) (within : Incl l R.lives) where
  lends_row : (b o : ℕ) (xs : List R.Denot) → Lends 𝓛 (row_owns R b o xs) (row_lent R b o xs) l
  lends_row b o [] = Lends-nothing 𝓛 ftrue l
  lends_row b o (x ∷ xs) =
      Lends-both 𝓛 _ (row_owns R b (o + type_size R) xs) (shared_of R x b o) (row_lent R b (o + type_size R) xs) l (λ κ ts. Shares-less 𝓛 R R.lives l within (L.shares 𝓛) x κ ts b o) (lends_row b (o + type_size R) xs)

  pub lends_block : (p : Ptr) (xs : List R.Denot) (spare : ℕ) → Lends 𝓛 (block_owns R p xs spare) (block_lent R p xs) l
  lends_block (block_ptr b o) xs spare = Lends-first 𝓛 (row_owns R b o xs) (fsep (flt ((length xs + spare) * type_size R) (2 ^ 63)) (room_owns R b (length xs * type_size R + o) spare)) (row_lent R b o xs) l (lends_row b o xs)
  lends_block null_ptr xs spare = Lends-false 𝓛 (said ffalse) l

-- the value of that number
pub lent_one : (R : RattleType) {M : Type 1} {𝓤 : Ura M} (𝓛 : Logic 𝓤) (κ : Lft) (b o : ℕ) (xs : List R.Denot) (k : ℕ) (d : R.Denot)
    → k < length xs
    → ent 𝓤 (sem 𝓛 (row_lent R b o xs κ)) (sem 𝓛 (shared_of R (get_or xs k d) b (k * type_size R + o) κ))
lent_one R 𝓛 κ b o [] k d inside = absurd (omega arith)
lent_one R 𝓛 κ b o (x ∷ xs) zero d inside = qed 𝓛 (‵ (row_lent R b o (x ∷ xs) κ) ∷ []) ∵ fsplit ! $ move ! (1 ∷ []) $
    drop ! $
    rewrite ! 0 (λ (i : ℕ). ‵ (shared_of R x b i κ)) {x = 0 * type_size R + o} (omega (arith, zero-mul (type_size R))) refl $
    done !
lent_one R 𝓛 κ b o (x ∷ xs) (suc k) d inside = qed 𝓛 (‵ (row_lent R b o (x ∷ xs) κ) ∷ []) ∵ fsplit ! $ drop ! $
    use1 𝓛 (‵ (shared_of R (get_or xs k d) b (k * type_size R + (o + type_size R)) κ)) (lent_one R 𝓛 κ b (o + type_size R) xs k d (omega (arith, inside))) $
    rewrite ! 0 (λ (i : ℕ). ‵ (shared_of R (get_or xs k d) b i κ)) {x = suc k * type_size R + o} (omega (arith, suc-mul k (type_size R))) refl $
    done !
