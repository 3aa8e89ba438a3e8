-- Values side by side: one is put behind them, and one is taken away. Assumes `Logic`.
use Rattle.std.proofs.Common.{◌≡◌, ℕ, suc, ◌+◌, ◌*◌, List, [], ◌∷◌, ◌++◌, length, take, get_or, refl, sym, ap, ◌∙◌, arith, zero-mul, suc-mul}
use Rattle.std.proofs.Math.Seq.{take-length, take-suc}
use Rattle.std.specs.Mem.{type_size}
use seplogic.Ra.Ura.{Ura}
use base.Fraction.{full_share}
use base.Logic.{ent, sep}
use types.Logic.{Logic, sem}
use types.Kit.{‵, ◌⊛◌, ◌$◌, ◌∵◌, !, qed, by, done, drop, move, split, fsplit, fjoin, rewrite, use1, use2, frame, some, pick, keep}
use denote.RattleType.{RattleType}
use denote.Memory.{lone, part_at}
use mir.Val.{Val}
use base.Fml.{fat, froom}
use borrow.Table.OneValue.{part_out}
use Rattle.qc_arena.specs.Memory.{row_owns, room_owns}

module _ (R : RattleType) {M : Type 1} {𝓤 : Ura M} (𝓛 : Logic 𝓤) (b : ℕ) (y : R.Denot) where
  pub row_more : (o : ℕ) (xs : List R.Denot)
      → ent 𝓤 (sep 𝓤 (sem 𝓛 (part_at R full_share y b (length xs * type_size R + o))) (sem 𝓛 (row_owns R b o xs))) (sem 𝓛 (row_owns R b o (xs ++ y ∷ [])))
  row_more o [] = qed 𝓛 (‵ (part_at R full_share y b (0 * type_size R + o)) ∷ ‵ (row_owns R b o []) ∷ []) ∵
      rewrite ! 0 (λ (i : ℕ). ‵ (part_at R full_share y b i)) {x = o} (omega (arith, zero-mul (type_size R))) refl $
      fjoin ! $ done !
  row_more o (x ∷ xs) = qed 𝓛 (‵ (part_at R full_share y b (suc (length xs) * type_size R + o)) ∷ ‵ (row_owns R b o (x ∷ xs)) ∷ []) ∵
      rewrite ! 0 (λ (i : ℕ). ‵ (part_at R full_share y b i)) {x = length xs * type_size R + (o + type_size R)} (omega (arith, suc-mul (length xs) (type_size R))) refl $
      move ! (1 ∷ []) $ fsplit ! $ move ! (2 ∷ 1 ∷ []) $
      use2 𝓛 (‵ (row_owns R b (o + type_size R) (xs ++ y ∷ []))) (row_more (o + type_size R) xs) $
      move ! (1 ∷ 0 ∷ []) $ fjoin ! $ done !

  pub row_less : (o : ℕ) (xs : List R.Denot)
      → ent 𝓤 (sem 𝓛 (row_owns R b o (xs ++ y ∷ []))) (sep 𝓤 (sem 𝓛 (part_at R full_share y b (length xs * type_size R + o))) (sem 𝓛 (row_owns R b o xs)))
  row_less o [] = qed 𝓛 (‵ (row_owns R b o (y ∷ [])) ∷ []) ∵ fsplit ! $
      rewrite ! 0 (λ (i : ℕ). ‵ (part_at R full_share y b i)) {x = 0 * type_size R + o} (omega (arith, zero-mul (type_size R))) refl $
      done !
  row_less o (x ∷ xs) = qed 𝓛 (‵ (row_owns R b o (x ∷ (xs ++ y ∷ []))) ∷ []) ∵ fsplit ! $ move ! (1 ∷ []) $
      use1 𝓛 (‵ (part_at R full_share y b (length xs * type_size R + (o + type_size R))) ⊛ ‵ (row_owns R b (o + type_size R) xs)) (row_less (o + type_size R) xs) $
      split ! $
      rewrite ! 0 (λ (i : ℕ). ‵ (part_at R full_share y b i)) {x = suc (length xs) * type_size R + o} (omega (arith, suc-mul (length xs) (type_size R))) refl $
      move ! (0 ∷ 2 ∷ 1 ∷ []) $ frame ! $ fjoin ! $ done !

module _ (R : RattleType) (one : R.mir ≡ lone R.mir ∷ []) {M : Type 1} {𝓤 : Ura M} (𝓛 : Logic 𝓤) (b : ℕ) where
  value_room : (o : ℕ) (x : R.Denot) → ent 𝓤 (sem 𝓛 (part_at R full_share x b o)) (𝓛.H.room (lone R.mir) b o)
  value_room o x = qed 𝓛 (‵ (part_at R full_share x b o) ∷ []) ∵
      use1 𝓛 (some (λ (v : Val). ‵ (fat full_share (lone R.mir) b o v) ⊛ ‵ (R.own_val x (v ∷ [])))) (part_out 𝓛 R one full_share x b o) $
      pick ! (λ v. split ! $ keep ! (0 ∷ []) $ by ! (𝓛.laws.at_room (lone R.mir) b o v))

  -- values and the room after them are room
  pub all_room : (o : ℕ) (xs : List R.Denot) (n : ℕ)
      → ent 𝓤 (sep 𝓤 (sem 𝓛 (row_owns R b o xs)) (sem 𝓛 (room_owns R b (length xs * type_size R + o) n))) (sem 𝓛 (room_owns R b o (length xs + n)))
  all_room o [] n = qed 𝓛 (‵ (row_owns R b o []) ∷ ‵ (room_owns R b (0 * type_size R + o) n) ∷ []) ∵ drop ! $
      rewrite ! 0 (λ (i : ℕ). ‵ (room_owns R b i n)) {x = o} (omega (arith, zero-mul (type_size R))) refl $
      rewrite ! 0 (λ (i : ℕ). ‵ (room_owns R b o i)) {x = 0 + n} (omega arith) refl $ done !
  all_room o (x ∷ xs) n = qed 𝓛 (‵ (row_owns R b o (x ∷ xs)) ∷ ‵ (room_owns R b (suc (length xs) * type_size R + o) n) ∷ []) ∵
      fsplit ! $ use1 𝓛 (‵ (froom (lone R.mir) b o)) (value_room o x) $ move ! (1 ∷ 2 ∷ []) $
      rewrite ! 1 (λ (i : ℕ). ‵ (room_owns R b i n)) {x = length xs * type_size R + (o + type_size R)} (omega (arith, suc-mul (length xs) (type_size R))) refl $
      use2 𝓛 (‵ (room_owns R b (o + type_size R) (length xs + n))) (all_room (o + type_size R) xs n) $
      move ! (1 ∷ 0 ∷ []) $
      use2 𝓛 (‵ (room_owns R b o (suc (length xs + n)))) (𝓛.laws.room_cons (lone R.mir) (length xs + n) b o) $
      rewrite ! 0 (λ (i : ℕ). ‵ (room_owns R b o i)) {x = suc (length xs) + n} (omega arith) refl $ done !

-- a list is what stands before its last element, and that
pub all_but_last : {X : Type 0} (xs : List X) (n : ℕ) (d : X) → n + 1 ≡ length xs → xs ≡ take n xs ++ get_or xs n d ∷ []
all_but_last xs n d e =
    let whole : length xs ≡ suc n = omega (arith, e) in
    sym (take-length xs) ∙ ap (λ k. take k xs) whole ∙ take-suc xs n d (omega (arith, e))
