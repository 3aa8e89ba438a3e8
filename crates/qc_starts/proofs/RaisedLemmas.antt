-- What is in cells once a start and its reason are written.
use Rattle.std.proofs.Common.{◌≡◌, ◌≢◌, ℕ, ◌+◌, ◌-◌, ◌*◌, ◌<◌, eqb, List, length, Option, None, Some, refl, ap, ◌∙◌, arith, slice_set}
use Rattle.std.proofs.lemmas.Bool.{cond-false, ne_eqb}
use Rattle.std.proofs.lemmas.List.{get_or-set_other, get_or-set_same}
use Rattle.std.proofs.Math.ListN.{length-set}
use Rattle.qc_starts.specs.Values.{code_of, raised, raiser_at, raiser_of, start_at}

pub raiser_code : (why : Option ℕ) → raiser_of (code_of why) ≡ why
raiser_code None = refl
raiser_code (Some i) =
    let differ = λ (e : i + 1 ≡ 0). absurd (omega arith) in
    cond-false (eqb (i + 1) 0) None (Some (i + 1 - 1)) (ne_eqb (i + 1) 0 differ) ∙ ap Some (omega arith)

module _ (n : ℕ) (cells : List ℕ) (z s : ℕ) (why : Option ℕ) (task : z < n) (count : length cells ≡ 2 * n) where
  abbrev half : List ℕ
  half = slice_set cells z s

  pub raised_count : length (raised n cells z s why) ≡ length cells
  raised_count = length-set half (n + z) (code_of why) ∙ length-set cells z s

  pub raised_here : start_at (raised n cells z s why) z ≡ s
  raised_here =
      let away : z ≢ n + z = λ e. absurd (omega arith) in
      get_or-set_other half (n + z) z (code_of why) 0 away ∙ get_or-set_same cells z s 0 (omega arith)

  pub raised_other : (j : ℕ) → j < n → j ≢ z → start_at (raised n cells z s why) j ≡ start_at cells j
  raised_other j low other =
      let away : j ≢ n + z = λ e. absurd (omega arith) in
      get_or-set_other half (n + z) j (code_of why) 0 away ∙ get_or-set_other cells z j s 0 other

  pub reason_of_here : raiser_at n (raised n cells z s why) z ≡ why
  reason_of_here =
      let under : n + z < length half = omega (arith, length-set cells z s) in
      ap raiser_of (get_or-set_same half (n + z) (code_of why) 0 under) ∙ raiser_code why

  pub reason_of_other : (j : ℕ) → j < n → j ≢ z → raiser_at n (raised n cells z s why) j ≡ raiser_at n cells j
  reason_of_other j low other =
      let away : n + j ≢ n + z = λ e. other (omega arith) in
      let off : n + j ≢ z = λ e. absurd (omega arith) in
      ap raiser_of (get_or-set_other half (n + z) (n + j) (code_of why) 0 away ∙ get_or-set_other cells z (n + j) s 0 off)
